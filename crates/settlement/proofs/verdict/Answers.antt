-- `settlement::verdict` meets its contract. By cases.
-- Assumes nothing.
use mathlib.Core.Path.{sym, ap}
use Rattle.settlement.specs.Commands.{verdict_of}
use borrow.Author.Rules.{rules}
use Rattle.settlement.proofs.verdict.Goals as goal

pub returns-in-Done : goal.returns-in-Done
returns-in-Done c = sym (ap verdict_of c.in-Done.is)
