-- `values::weigh` meets its contract.
-- Assumes nothing.
use native.Mathlib.Omega.{arith}
use Rattle.values.proofs.Weighing.{weighed}
use Rattle.values.proofs.weigh.Goals as goal

pub overflow_sub-result-2 : goal.overflow_sub-result-2
overflow_sub-result-2 c = omega (arith, weighed c.requires.value c.args.text.now c.requires.held, c.breaks.ensures)

pub returns : goal.returns
returns c v h = omega (arith, weighed v c.args.text.now h, c.breaks.ensures)
