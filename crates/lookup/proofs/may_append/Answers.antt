-- `lookup::may_append` meets its contract. Write will do, or else append.
-- Assumes nothing.
use mathlib.Core.Path.{refl, sym, ap, ◌∙◌}
use mathlib.Core.Bool.{Bool, ◌||◌}
use Rattle.language.specs.Syntax.{write, append}
use Rattle.permits.specs.Permits.{allowed_on}
use Rattle.lookup.proofs.Looking.{either_right}
use borrow.Author.Rules.{rules}
use Rattle.lookup.proofs.may_append.Reads as reads
use Rattle.lookup.proofs.may_append.Lts as lts
use Rattle.lookup.proofs.may_do.Reads as may-do-reads
use Rattle.lookup.proofs.may_append.Goals as goal

pub returns-then-may_do : goal.returns-then-may_do
returns-then-may_do c s S = let a = c.args in ap (λ (b : Bool). b || allowed_on s append a.name.now) (sym c.if-may_do.true ∙ c.may_do.ensures s write S refl)

pub returns : goal.returns
returns c s S =
    let a = c.args in
    either_right (allowed_on s write a.name.now) (allowed_on s append a.name.now) c.may_do.result c.may_do-2.result (c.may_do.ensures s write S refl) c.if-may_do.false (c.may_do-2.ensures s append S refl)
