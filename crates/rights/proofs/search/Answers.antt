use mathlib.Core.Path.{◌≡◌, sym, ap, ◌∙◌, subst}
use mathlib.Core.List.{List, map}
use Prim.Native.Nat.{ℕ, ◌+◌, ◌<◌}
use native.Mathlib.Omega.{arith}
use lib.ListN.{length, get_or}
use lib.Seq.{get_or-set_same}
use Rattle.search_steps.specs.Steps.{handed}
use Rattle.rights.proofs.Beginning.{Going, small, going_first, going_open, searched_yes}
use Rattle.rights.proofs.Turns.{links, Turning, turning_first, turning_needs, turning_fewer, turning_next, turning_hit, turning_no, turning_over}
use Rattle.rights.proofs.Leaving.{Went, went_none, went_other}
use Rattle.board.specs.Board.{at, following}
use Rattle.rights.proofs.search.Goals as goal
use Rattle.rights.proofs.search.Goals.{in-Nobody, in-Somebody}

pub search-init : goal.search-init
search-init c =
    let a = c.args in
    going_first a.list.now a.count a.principal a.board.now c.requires.2 c.requires.3 c.requires.4

-- anyone is reached: everybody is a step further
pub returns-then-spread : goal.returns-then-spread
returns-then-spread c =
    let a = c.args in
    let g = c.search.invariant in
    let d = c.search.d in
    let B = c.search.board in
    let opens = c.spread.ensures.opens c.if-spread.true in
    let low : d < 4096 = small a.list.now a.count a.principal c.requires.1 c.requires.3 d B g in
    let marked : get_or c.spread.new.board a.principal 0 ≡ d + 1 =
    ap (λ (l : List ℕ). get_or l a.principal 0) opens.1 ∙ get_or-set_same B a.principal (d + 1) 0 (omega (arith, g.sized, c.requires.3)) in
    searched_yes (map handed a.list.now) a.count a.principal (d + 1) (get_or c.spread.new.board a.principal 0) c.requires.3
    (λ h. omega (arith, low, h, marked)) (going_open a.list.now a.count a.principal c.requires.1 c.requires.3 d B g opens.0)

pub loop-i-init : goal.loop-i-init
loop-i-init c =
    let a = c.args in
    let shuts = c.spread.ensures.shuts (λ e. absurd cc) in
    let g : Going a.list.now a.count a.principal c.search.d c.spread.new.board = subst (λ (l : List ℕ). Going a.list.now a.count a.principal c.search.d l) (sym shuts.1) c.search.invariant in
    turning_first a.list.now a.count a.principal c.requires.1 c.requires.0 c.requires.3 c.search.d c.spread.new.board g
    (λ e. shuts.0 (ap (λ (l : List ℕ). get_or l 1 0) (sym shuts.1) ∙ e)) c.first-i.result c.first-i.new.board c.first-i.ensures.0 c.first-i.ensures.1

pub step-requires : goal.step-requires
step-requires c =
    let a = c.args in
    let t = c.loop-i.invariant in (
      small a.list.now a.count a.principal c.requires.1 c.requires.3 c.search.d t.head t.within.going,
      c.requires.1,
      omega (arith, t.within.sized),
      turning_needs a.list.now a.count a.principal c.requires.1 c.requires.0 c.requires.3 c.search.d c.first-i.new.board c.loop-i.i c.loop-i.n c.loop-i.board t c.loop-i-test.true,
    )

pub returns-in-Principal : goal.returns-in-Principal
returns-in-Principal c =
    let a = c.args in
    turning_hit a.list.now a.count a.principal c.requires.1 c.requires.0 c.requires.3 c.search.d c.first-i.new.board c.loop-i.i c.loop-i.n c.loop-i.board c.loop-i.invariant c.loop-i-test.true
    c.step.new.board c.in-Principal.ensures

pub loop-i-smaller : goal.loop-i-smaller
loop-i-smaller c =
    let a = c.args in
    let l = c.loop-i in
    let x = at a.list.now l.i in
    let B = c.step.new.board in
    let fewer : (r : ℕ) → Went a.count c.search.d x.from x.to a.principal l.board B r → links (length a.list.now) (following a.count B) c.next-i.result < links (length a.list.now) (following a.count l.board) l.i =
    λ r told. turning_fewer a.list.now a.count a.principal c.requires.1 c.requires.0 c.requires.3 c.search.d c.first-i.new.board l.i l.n l.board l.invariant c.loop-i-test.true B r told c.next-i.result c.next-i.ensures in
    elim c.match-step.branch [
      | in-Nobody w ↦ fewer 0 (went_none _ _ _ _ _ _ _ w.in-Nobody.ensures)
      | in-Somebody w ↦ fewer 1 (went_other _ _ _ _ _ _ _ w.in-Somebody.ensures)
    ]

pub loop-i-preserved : goal.loop-i-preserved
loop-i-preserved c =
    let a = c.args in
    let l = c.loop-i in
    let x = at a.list.now l.i in
    let B = c.step.new.board in
    let next : (r m : ℕ) → Went a.count c.search.d x.from x.to a.principal l.board B r → m ≡ l.n + r → Turning a.list.now a.count a.principal c.search.d c.first-i.new.board c.next-i.result m B =
    λ r m told e. subst (λ (k : ℕ). Turning a.list.now a.count a.principal c.search.d c.first-i.new.board c.next-i.result k B) (sym e)
    (turning_next a.list.now a.count a.principal c.requires.1 c.requires.0 c.requires.3 c.search.d c.first-i.new.board l.i l.n l.board l.invariant c.loop-i-test.true B r told c.next-i.result c.next-i.ensures) in
    elim c.match-step.branch [
      | in-Nobody w ↦ next 0 _ (went_none _ _ _ _ _ _ _ w.in-Nobody.ensures) (omega (arith, w.n-is))
      | in-Somebody w ↦ next 1 _ (went_other _ _ _ _ _ _ _ w.in-Somebody.ensures) (omega (arith, w.n-is))
    ]

pub returns-then-n-eq0 : goal.returns-then-n-eq0
returns-then-n-eq0 c =
    let a = c.args in
    turning_no a.list.now a.count a.principal c.requires.1 c.requires.0 c.requires.3 c.search.d c.first-i.new.board c.loop-i.i c.loop-i.n c.loop-i.board c.loop-i.invariant c.loop-i-test.false
    c.if-n-eq0.true

pub search-preserved : goal.search-preserved
search-preserved c =
    let a = c.args in
    turning_over a.list.now a.count a.principal c.requires.1 c.requires.0 c.requires.3 c.search.d c.first-i.new.board c.loop-i.i c.loop-i.n c.loop-i.board c.loop-i.invariant c.loop-i-test.false
    c.if-n-eq0.false
