-- `returning::answered` meets its contract. One arm for each answer.
-- Assumes nothing.
use mathlib.Core.Path.{sym, ap}
use Rattle.returning.specs.Returns.{answer_to}
use borrow.Author.Rules.{rules}
use Rattle.returning.proofs.answered.Reads as reads
use Rattle.returning.proofs.answered.Lts as lts
use Rattle.returning.proofs.answered.Goals as goal

pub returns-in-Value : goal.returns-in-Value
returns-in-Value c = sym (ap answer_to c.in-Value.is)
