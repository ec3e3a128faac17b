use native.Mathlib.Omega.{arith}
use borrow.Author.Rules.{rules}
use Rattle.lets.proofs.frames.small.Goals as goal

pub overflow_cast-result : goal.overflow_cast-result
overflow_cast-result c = omega (arith, c.type_inv.numbers c.args.d)

pub returns : goal.returns
returns c = (search rules, omega (arith, c.type_inv.numbers c.args.d))
