use mathlib.Core.Path.{sym, ap}
use Rattle.term_answer.specs.Telling.{answer_of}
use Rattle.term_answer.proofs.told.Goals as goal

-- src/lib.rt:19:1
pub returns-in-Value : goal.returns-in-Value
returns-in-Value c = sym (ap answer_of c.in-Value.is)
