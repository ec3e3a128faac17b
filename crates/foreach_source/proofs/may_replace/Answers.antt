-- `foreach_source::may_replace` meets its contract. Both rights are asked for.
-- Assumes nothing.
use mathlib.Core.Path.{refl}
use borrow.Author.Tests.{not-true, not-false}
use Rattle.language.specs.Syntax.{read, write}
use Rattle.foreach_source.proofs.Denying.{may_not_read, may_read}
use borrow.Author.Rules.{rules}
use Rattle.foreach_source.proofs.may_replace.Goals as goal

pub returns-then-not-may_do : goal.returns-then-not-may_do
returns-then-not-may_do c s W = may_not_read s c.args.name.now c.may_do.result (c.may_do.ensures s read W refl) (not-true c.may_do.result c.if-not-may_do.true-raw)

pub returns : goal.returns
returns c s W =
    may_read s c.args.name.now c.may_do.result c.may_do-2.result (c.may_do.ensures s read W refl)
    (not-false c.may_do.result c.if-not-may_do.false-raw) (c.may_do-2.ensures s write W refl)
