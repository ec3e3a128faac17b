-- `marking::rounds` meets its contract. The loop's invariant: after d rounds, of which the last did not reach anyone, the marks are the
-- shortest chains of up to d steps. The measure is how many are not reached. Assumes nothing.
use mathlib.Core.Path.{refl, sym, ◌∙◌, subst}
use mathlib.Core.List.{map}
use native.Mathlib.Omega.{arith}
use lib.ListN.{length}
use Rattle.search_steps.specs.Steps.{handed}
use Rattle.marking.proofs.Reaching.{Spreading, spreading_first, spreading_next, spread_ends, spread_anyone}
use Rattle.marking.proofs.rounds.Goals as goal

pub loop-d-init : goal.loop-d-init
loop-d-init c =
    let p = c.requires in
    let a = c.args in
    let n = length a.dist.now in
    (p.1, p.0, refl, subst (Spreading (map handed a.list.now) n 0) (sym p.2) (spreading_first (map handed a.list.now) n p.1 p.0))

pub returns-then-n-eq0 : goal.returns-then-n-eq0
returns-then-n-eq0 c =
    let i = c.loop-d.invariant in
    spread_ends _ _ i.0 _ _ _ _ i.3 c.round-n.ensures (c.if-n-eq0.true)

pub returns-then-dist-d : goal.returns-then-dist-d
returns-then-dist-d c =
    let i = c.loop-d.invariant in
    spread_anyone _ _ i.0 _ _ _ _ i.3 c.round-n.ensures (λ e. omega (arith, c.if-n-eq0.false)) _ _ c.if-dist-d.true (omega arith) c.reach_rest.ensures

pub loop-d-preserved : goal.loop-d-preserved
loop-d-preserved c =
    let i = c.loop-d.invariant in
    (i.0, i.1, c.round-n.auto.dist ∙ i.2, spreading_next _ _ i.0 _ _ _ _ i.3 c.round-n.ensures (λ e. omega (arith, c.if-n-eq0.false)) c.if-dist-d.false)
