use mathlib.Core.Path.{refl}
use Rattle.assertion.specs.Packed.{fields}
use Rattle.assertion.proofs.AssertionFromU64.from.Goals as goal

pub returns : goal.returns
unfolding fields
returns c = refl
