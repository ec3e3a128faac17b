use mathlib.Core.Path.{subst}
use Rattle.language.specs.Expressions.{term_names}
use Rattle.permits.specs.declared.Known.{Known}
use Rattle.permits.specs.Knowledge.{KnowsFirst}
use Rattle.term_answer.proofs.may_read.Goals as goal

pub returns-in-All : goal.returns-in-All
returns-in-All c s x W m k = subst (λ (v : Known). KnowsFirst v s (term_names x)) c.in-All.is k

pub returns-in-Until : goal.returns-in-Until
returns-in-Until c s x W m k = subst (λ (v : Known). KnowsFirst v s (term_names x)) c.in-Until.is k

pub returns-in-Nothing : goal.returns-in-Nothing
returns-in-Nothing c s x W m k = c.readable.ensures s x W m
