use native.Mathlib.Omega.{arith}
use Rattle.lets.proofs.frames.large.Goals as goal

pub overflow_cast-result : goal.overflow_cast-result
overflow_cast-result c = omega (arith, c.type_inv.numbers c.args.d)
