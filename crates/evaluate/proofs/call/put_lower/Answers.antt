-- `evaluate::call::put_lower` meets its contract. The string that the argument is, in small letters.
-- Assumes nothing.
use mathlib.Core.Path.{sym, subst}
use Rattle.language.specs.Outcomes.{Outcome}
use Rattle.language.specs.State.{Value}
use Rattle.syntax.specs.Values.{operand_meant}
use Rattle.evaluated.specs.Results.{MaybeString, Valued}
use Rattle.application.specs.Applied.{lowered_to}
use mathlib.Core.Option.{Option}
use Rattle.language.specs.Text.{Text}
use Rattle.evaluate.proofs.Calling.{lower_is, source_string}
use Rattle.evaluate.proofs.call.put_lower.Goals as goal

pub string_in-i-requires : goal.string_in-i-requires
string_in-i-requires c = (record { session = c.requires.some_scope.session; held = c.source-a.ensures c.requires.some_scope.session c.requires.some_scope.scope }, c.requires.operand_within.0)

pub lower-requires : goal.lower-requires
lower-requires c =
    let a = c.args in
    let H = c.source-a.ensures c.requires.some_scope.session c.requires.some_scope.scope in
    (c.string_in-i.ensures.placed, subst MaybeString (sym (c.string_in-i.ensures.meant c.requires.some_scope.session H)) (source_string c.requires.some_scope.session a.text.now c.source-a.result.now a.v H c.requires.operand_within.1), c.requires.in_bounds)

pub returns : goal.returns
returns c s S =
    let a = c.args in
    let H = c.source-a.ensures s S in
    subst (λ (o : Outcome Value). Valued c.lower.result o c.lower.new.out) (sym (lower_is s (operand_meant a.text.now a.v)))
    (subst (λ (o : Option Text). Valued c.lower.result (lowered_to o) c.lower.new.out) (c.string_in-i.ensures.meant s H) c.lower.ensures)
