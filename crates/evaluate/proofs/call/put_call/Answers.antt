-- `evaluate::call::put_call` meets its contract. The strings that the arguments are, and the function on them.
-- Assumes nothing.
use mathlib.Core.Path.{sym, subst}
use mathlib.Core.Option.{Option}
use Rattle.language.specs.Text.{Text}
use Rattle.language.specs.Outcomes.{Outcome}
use Rattle.language.specs.State.{Value}
use Rattle.syntax.specs.Values.{operand_meant, function_meant}
use Rattle.evaluated.specs.Results.{MaybeString, Valued}
use Rattle.application.specs.Applied.{applied_to}
use Rattle.evaluate.proofs.Calling.{call_is, source_string}
use Rattle.evaluate.proofs.call.put_call.Goals as goal

pub source-a-requires : goal.source-a-requires
source-a-requires c = (c.requires.some_scope, c.requires.operand_within.0)

pub string_in-i-requires : goal.string_in-i-requires
string_in-i-requires c = (record { session = c.requires.some_scope.session; held = c.source-a.ensures c.requires.some_scope.session c.requires.some_scope.scope }, c.requires.operand_within.0)

pub source-b-requires : goal.source-b-requires
source-b-requires c = (c.requires.some_scope, c.requires.operand_within_2.0)

pub string_in-j-requires : goal.string_in-j-requires
string_in-j-requires c = (record { session = c.requires.some_scope.session; held = c.source-b.ensures c.requires.some_scope.session c.requires.some_scope.scope }, c.requires.operand_within_2.0)

pub apply-requires : goal.apply-requires
apply-requires c =
    let a = c.args in
    let H = c.source-a.ensures c.requires.some_scope.session c.requires.some_scope.scope in
    let K = c.source-b.ensures c.requires.some_scope.session c.requires.some_scope.scope in record {
      placed = (c.string_in-i.ensures.placed, subst MaybeString (sym (c.string_in-i.ensures.meant c.requires.some_scope.session H)) (source_string c.requires.some_scope.session a.text.now c.source-a.result.now a.v H c.requires.operand_within.1));
      placed_2 = (c.string_in-j.ensures.placed, subst MaybeString (sym (c.string_in-j.ensures.meant c.requires.some_scope.session K)) (source_string c.requires.some_scope.session a.text.now c.source-b.result.now a.w K c.requires.operand_within_2.1), c.requires.operand_within_2.2);
    }

pub returns : goal.returns
returns c s S =
    let a = c.args in
    let F = c.string_in-i.ensures.meant s (c.source-a.ensures s S) in
    let G = c.string_in-j.ensures.meant s (c.source-b.ensures s S) in
    subst (λ (o : Outcome Value). Valued c.apply.result o c.apply.new.out) (sym (call_is s (function_meant a.f) (operand_meant a.text.now a.v) (operand_meant a.text.now a.w)))
    (subst (λ (p : Option Text × Option Text). Valued c.apply.result (applied_to (function_meant a.f) p.0 p.1) c.apply.new.out) (λ i. (F i, G i)) c.apply.ensures)
