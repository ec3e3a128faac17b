use mathlib.Core.Path.{◌∙◌}
use Rattle.language.specs.Expressions.{term_value, term_names}
use Rattle.term_answer.proofs.Allowed.{tells}
use Rattle.term_answer.proofs.answer.Goals as goal

pub returns-then-not-may_read : goal.returns-then-not-may_read
returns-then-not-may_read c s x S W m k = c.may_read.ensures s x W m k ∙ c.if-not-may_read.true-raw

pub returns : goal.returns
returns c s x S W m k = tells s (term_names x) (term_value s x) _ c.value-v.result c.told.result c.told.ensures (c.may_read.ensures s x W m k ∙ c.if-not-may_read.false-raw) (c.value-v.ensures s x S m)
