use native.Mathlib.Omega.{arith}
use Rattle.assertion.specs.Packed.{pack}
use Rattle.assertion.proofs.pack.Goals as goal

pub returns : goal.returns
unfolding pack
returns c = omega arith
