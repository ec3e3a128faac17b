use mathlib.Core.Path.{◌≡◌, ◌∙◌}
use Prim.Native.Nat.{ℕ, ◌-◌}
use native.Mathlib.Omega.{arith}
use lib.ListN.{length, take}
use lib.Seq.{length-take-le}
use Rattle.splice.specs.Splices.{over}
use Rattle.state_figures.specs.Tallies.{tally}
use Rattle.state_figures.proofs.Filling.{says_both}
use Rattle.state_figures.proofs.figures.Goals as goal

pub returns : goal.returns
returns c =
    let a = c.args in
    let n : ℕ = a.parts.asserted in
    let z : n - 0 ≡ n = omega arith in
    let m : length (take n a.assertions.now) ≡ n = length-take-le n a.assertions.now c.requires.0 in
    says_both (tally a.parts) (take n a.assertions.now) a.out.now _ _ (omega (arith, m))
    (c.copy.ensures ∙ (λ i. over (c.head.ensures i) 6 (take (z i) a.assertions.now)))
