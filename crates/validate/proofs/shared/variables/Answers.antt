use mathlib.Core.Path.{◌≡◌, sym, subst, ◌∙◌}
use mathlib.Core.Bool.{Bool}
use mathlib.Core.List.{List, []}
use Prim.Native.Nat.{ℕ, ◌+◌, ◌*◌, ◌≤◌}
use native.Mathlib.Omega.{arith}
use borrow.Author.Tests.{not-true, not-false}
use lib.Dec.{T}
use lib.ListN.{length, drop}
use Rattle.validate.specs.Shared.{off_variable}
use Rattle.validate.proofs.Vars.{Sharing, sharing_start, sharing_low, reindexed, variables_good, variables_stuck, variables_stray, variable_ahead, variable_light, variable_entering, variable_again, variable_next, lent, lent_front, lent_length, free_length}
use Rattle.validate.proofs.shared.variables.Goals as goal

pub loop-at-init : goal.loop-at-init
loop-at-init c = (c.requires.3, sharing_start c.args.text.now c.args.at c.args.w _ c.requires.0)

pub returns-then-byte_at-ne86 : goal.returns-then-byte_at-ne86
returns-then-byte_at-ne86 c =
    let on : T (off_variable (drop c.loop-at.i c.args.text.now)) → ⊥ = λ h. subst (λ (b : Bool). T b) (not-true (off_variable (drop c.loop-at.i c.args.text.now)) (sym c.goes_on.ensures ∙ c.loop-at-test.true)) h in
    let a = c.args in
    let l = c.loop-at in
    variables_stray a.text.now a.at a.w l.slots l.i l.n l.now l.invariant.1 on (λ e. c.if-byte_at-ne86.true (c.byte_at.ensures ∙ e))

pub offset_bounds-slots-n : goal.offset_bounds-slots-n
offset_bounds-slots-n c =
    let whole : length c.loop-at.slots ≡ 4096 = c.loop-at.auto.slots ∙ c.requires.2 in
    let lowest : c.args.w + 2 * c.loop-at.n ≤ c.loop-at.now = let l = c.loop-at in sharing_low c.args.text.now c.args.at c.args.w l.slots l.i l.n l.now l.invariant.1 in
    let few : c.loop-at.n ≤ length c.loop-at.slots = let k = lowest in let w = whole in omega (arith, k, w, c.loop-at.invariant.0) in
    let h = few in let w = whole in omega (arith, h, w)

pub slice_bounds-variable_at-count : goal.slice_bounds-variable_at-count
slice_bounds-variable_at-count c =
    let whole : length c.loop-at.slots ≡ 4096 = c.loop-at.auto.slots ∙ c.requires.2 in
    let lowest : c.args.w + 2 * c.loop-at.n ≤ c.loop-at.now = let l = c.loop-at in sharing_low c.args.text.now c.args.at c.args.w l.slots l.i l.n l.now l.invariant.1 in
    let few : c.loop-at.n ≤ length c.loop-at.slots = let k = lowest in let w = whole in omega (arith, k, w, c.loop-at.invariant.0) in
    let h = few in omega (arith, h)

pub slice_bounds-variable_at-start : goal.slice_bounds-variable_at-start
slice_bounds-variable_at-start c =
    let whole : length c.loop-at.slots ≡ 4096 = c.loop-at.auto.slots ∙ c.requires.2 in
    let lowest : c.args.w + 2 * c.loop-at.n ≤ c.loop-at.now = let l = c.loop-at in sharing_low c.args.text.now c.args.at c.args.w l.slots l.i l.n l.now l.invariant.1 in
    let few : c.loop-at.n ≤ length c.loop-at.slots = let k = lowest in let w = whole in omega (arith, k, w, c.loop-at.invariant.0) in
    few

pub variable_at-requires : goal.variable_at-requires
variable_at-requires c =
    let whole : length c.loop-at.slots ≡ 4096 = c.loop-at.auto.slots ∙ c.requires.2 in
    let lowest : c.args.w + 2 * c.loop-at.n ≤ c.loop-at.now = let l = c.loop-at in sharing_low c.args.text.now c.args.at c.args.w l.slots l.i l.n l.now l.invariant.1 in
    let few : c.loop-at.n ≤ length c.loop-at.slots = let k = lowest in let w = whole in omega (arith, k, w, c.loop-at.invariant.0) in
    let l = c.loop-at in
    let k = lowest in
    let w = whole in
    let f = free_length l.n l.slots [] few in (
      record {
        start = l.invariant.1.run.high;
        small = c.requires.1;
        weighed = omega (arith, l.invariant.0);
        room = omega (arith, f, k, w);
      },
      sym c.byte_at.ensures ∙ c.if-byte_at-ne86.false,
    )

pub returns-in_err-line : goal.returns-in_err-line
returns-in_err-line c =
    let on : T (off_variable (drop c.loop-at.i c.args.text.now)) → ⊥ = λ h. subst (λ (b : Bool). T b) (not-true (off_variable (drop c.loop-at.i c.args.text.now)) (sym c.goes_on.ensures ∙ c.loop-at-test.true)) h in
    let a = c.args in
    let l = c.loop-at in
    rw c.from_residual.ensures (variables_stuck a.text.now a.at a.w l.slots l.i l.n l.now l.invariant.1 on c.in_err-line.ensures)

pub enter-requires : goal.enter-requires
enter-requires c =
    let whole : length c.loop-at.slots ≡ 4096 = c.loop-at.auto.slots ∙ c.requires.2 in
    let on : T (off_variable (drop c.loop-at.i c.args.text.now)) → ⊥ = λ h. subst (λ (b : Bool). T b) (not-true (off_variable (drop c.loop-at.i c.args.text.now)) (sym c.goes_on.ensures ∙ c.loop-at-test.true)) h in
    let slots-then : List ℕ = lent c.loop-at.n c.loop-at.slots c.variable_at.new.slots in
    let lowest : c.args.w + 2 * c.loop-at.n ≤ c.loop-at.now = let l = c.loop-at in sharing_low c.args.text.now c.args.at c.args.w l.slots l.i l.n l.now l.invariant.1 in
    let few : c.loop-at.n ≤ length c.loop-at.slots = let k = lowest in let w = whole in omega (arith, k, w, c.loop-at.invariant.0) in
    let same : length slots-then ≡ length c.loop-at.slots = lent_length c.loop-at.n c.loop-at.slots c.variable_at.new.slots few c.variable_at.auto.slots in
    let sharing : Sharing c.args.text.now c.args.at c.args.w slots-then c.loop-at.i c.loop-at.n c.loop-at.now = let l = c.loop-at in
    reindexed c.args.text.now c.args.at c.args.w l.slots slots-then l.i l.n l.now (lent_front l.n l.slots c.variable_at.new.slots few) l.invariant.1 in
    let a = c.args in
    let l = c.loop-at in
    variable_entering a.text.now a.at a.w slots-then l.i l.n l.now sharing on _ _ _ c.in_ok-line.ensures c.requires.1 (same ∙ whole)

pub returns-then-not-enter : goal.returns-then-not-enter
returns-then-not-enter c =
    let on : T (off_variable (drop c.loop-at.i c.args.text.now)) → ⊥ = λ h. subst (λ (b : Bool). T b) (not-true (off_variable (drop c.loop-at.i c.args.text.now)) (sym c.goes_on.ensures ∙ c.loop-at-test.true)) h in
    let slots-then : List ℕ = lent c.loop-at.n c.loop-at.slots c.variable_at.new.slots in
    let whole : length c.loop-at.slots ≡ 4096 = c.loop-at.auto.slots ∙ c.requires.2 in
    let lowest : c.args.w + 2 * c.loop-at.n ≤ c.loop-at.now = let l = c.loop-at in sharing_low c.args.text.now c.args.at c.args.w l.slots l.i l.n l.now l.invariant.1 in
    let few : c.loop-at.n ≤ length c.loop-at.slots = let k = lowest in let w = whole in omega (arith, k, w, c.loop-at.invariant.0) in
    let sharing : Sharing c.args.text.now c.args.at c.args.w slots-then c.loop-at.i c.loop-at.n c.loop-at.now = let l = c.loop-at in
    reindexed c.args.text.now c.args.at c.args.w l.slots slots-then l.i l.n l.now (lent_front l.n l.slots c.variable_at.new.slots few) l.invariant.1 in
    let a = c.args in
    let l = c.loop-at in
    variable_again a.text.now a.at a.w slots-then l.i l.n l.now sharing on _ _ _ c.in_ok-line.ensures c.requires.1 c.enter.new.slots
    c.if-not-enter.ensures

pub overflow_add-n : goal.overflow_add-n
overflow_add-n c =
    let whole : length c.loop-at.slots ≡ 4096 = c.loop-at.auto.slots ∙ c.requires.2 in
    let lowest : c.args.w + 2 * c.loop-at.n ≤ c.loop-at.now = let l = c.loop-at in sharing_low c.args.text.now c.args.at c.args.w l.slots l.i l.n l.now l.invariant.1 in
    let few : c.loop-at.n ≤ length c.loop-at.slots = let k = lowest in let w = whole in omega (arith, k, w, c.loop-at.invariant.0) in
    let h = few in let w = whole in omega (arith, h, w)

pub loop-at-smaller : goal.loop-at-smaller
loop-at-smaller c =
    let on : T (off_variable (drop c.loop-at.i c.args.text.now)) → ⊥ = λ h. subst (λ (b : Bool). T b) (not-true (off_variable (drop c.loop-at.i c.args.text.now)) (sym c.goes_on.ensures ∙ c.loop-at-test.true)) h in
    let a = c.args in
    let l = c.loop-at in
    let h = variable_ahead a.text.now a.at a.w l.slots l.i l.n l.now l.invariant.1 on _ _ _ c.in_ok-line.ensures in
    let k = c.in_ok-line.ensures.one.reads.high in
    omega (arith, h, k)

pub loop-at-preserved : goal.loop-at-preserved
loop-at-preserved c =
    let whole : length c.loop-at.slots ≡ 4096 = c.loop-at.auto.slots ∙ c.requires.2 in
    let on : T (off_variable (drop c.loop-at.i c.args.text.now)) → ⊥ = λ h. subst (λ (b : Bool). T b) (not-true (off_variable (drop c.loop-at.i c.args.text.now)) (sym c.goes_on.ensures ∙ c.loop-at-test.true)) h in
    let slots-then : List ℕ = lent c.loop-at.n c.loop-at.slots c.variable_at.new.slots in
    let lowest : c.args.w + 2 * c.loop-at.n ≤ c.loop-at.now = let l = c.loop-at in sharing_low c.args.text.now c.args.at c.args.w l.slots l.i l.n l.now l.invariant.1 in
    let few : c.loop-at.n ≤ length c.loop-at.slots = let k = lowest in let w = whole in omega (arith, k, w, c.loop-at.invariant.0) in
    let same : length slots-then ≡ length c.loop-at.slots = lent_length c.loop-at.n c.loop-at.slots c.variable_at.new.slots few c.variable_at.auto.slots in
    let sharing : Sharing c.args.text.now c.args.at c.args.w slots-then c.loop-at.i c.loop-at.n c.loop-at.now = let l = c.loop-at in
    reindexed c.args.text.now c.args.at c.args.w l.slots slots-then l.i l.n l.now (lent_front l.n l.slots c.variable_at.new.slots few) l.invariant.1 in
    let a = c.args in
    let l = c.loop-at in (
      variable_light a.text.now a.at a.w l.slots l.i l.n l.now l.invariant.1 on _ _ _ c.in_ok-line.ensures,
      variable_next a.text.now a.at a.w slots-then l.i l.n l.now sharing on _ _ _ c.in_ok-line.ensures c.requires.1 c.enter.new.slots (same ∙ whole)
          c.if-not-enter.ensures,
    )

pub returns : goal.returns
returns c =
    let off : T (off_variable (drop c.loop-at.i c.args.text.now)) = subst (λ (b : Bool). T b) (sym (not-false (off_variable (drop c.loop-at.i c.args.text.now)) (sym c.goes_on.ensures ∙ c.loop-at-test.false))) tt in
    let l = c.loop-at in
    variables_good c.args.text.now c.args.at c.args.w l.slots l.i l.n l.now l.invariant.1 off l.invariant.0 c.requires.1
