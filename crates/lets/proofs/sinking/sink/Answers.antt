use mathlib.Core.Path.{sym, ◌∙◌}
use native.Mathlib.Omega.{arith}
use Rattle.lets.proofs.Sunken.{sunk_start, sunk_top, sunk_here, sunk_on, sunk_through}
use Rattle.lets.proofs.sinking.sink.Goals as goal

pub loop-d-init : goal.loop-d-init
loop-d-init c = λ s frames A. sunk_start A

pub overflow_sub-d : goal.overflow_sub-d
overflow_sub-d c = omega (arith, c.loop-d-test.true)

pub is_taken-requires : goal.is_taken-requires
is_taken-requires c =
    let P = c.requires in
    let K = sunk_top (c.loop-d.invariant P.session P.frames P.standing) c.loop-d-test.true in
    record { session = P.session; frame = K.frame; standing = K.standing }

pub returns-then-is_taken : goal.returns-then-is_taken
returns-then-is_taken c s frames A =
    let K = sunk_top (c.loop-d.invariant s frames A) c.loop-d-test.true in
    sunk_here K (sym (c.is_taken.ensures s K.frame K.standing) ∙ c.if-is_taken.true)

pub loop-d-smaller : goal.loop-d-smaller
loop-d-smaller c = omega (arith, c.loop-d-test.true)

pub loop-d-preserved : goal.loop-d-preserved
loop-d-preserved c =
    λ s frames A.
    let K = sunk_top (c.loop-d.invariant s frames A) c.loop-d-test.true in
    sunk_on K (sym (c.is_taken.ensures s K.frame K.standing) ∙ c.if-is_taken.false)

pub returns : goal.returns
returns c s frames A = sunk_through (c.loop-d.invariant s frames A) c.loop-d-test.false
