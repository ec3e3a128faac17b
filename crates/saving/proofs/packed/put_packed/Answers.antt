-- `saving::packed::put_packed` meets its contract. The number is taken apart, and each of its parts stands for a name or a letter.
-- Assumes nothing.
use mathlib.Core.Path.{◌≡◌}
use Rattle.language.specs.State.{Assertion, Store}
use Rattle.store.proofs.Holders.{some_principals, some_variables}
use Rattle.value_text.proofs.Pieces.{rewritten}
use Rattle.saving.specs.Stores.{Named, Assertions}
use Rattle.saving.proofs.Meant.{Apart, apart, principal_below, principal_name, variable_below, variable_name}
use Rattle.saving.proofs.Lines.{line_of, line_room_lem}
use borrow.Author.Rules.{rules}
use Rattle.saving.proofs.packed.put_packed.Goals as goal

pub name_of-x-requires : goal.name_of-x-requires
name_of-x-requires c =
    let parted : Apart c.requires.store c.requires.assertion c.from-a.result = let a = c.args in
    let P = c.requires in
    apart P.store a.l a.principals.now a.principal_slots.now a.vars.now a.variable_slots.now P.names P.assertion a.number P.assertions _ c.from-a.ensures in
    let a = c.args in
    let P = c.requires in
    let A = parted in (
      some_variables P.store.variables a.vars.now a.l.vars a.variable_slots.now P.names.shared,
      variable_below P.store.variables a.vars.now a.l.vars a.variable_slots.now P.names.shared P.assertion.variable A.variable_known c.from-a.result.variable A.variable_is,
    )

pub name_of-q-requires : goal.name_of-q-requires
name_of-q-requires c =
    let parted : Apart c.requires.store c.requires.assertion c.from-a.result = let a = c.args in
    let P = c.requires in
    apart P.store a.l a.principals.now a.principal_slots.now a.vars.now a.variable_slots.now P.names P.assertion a.number P.assertions _ c.from-a.ensures in
    let a = c.args in
    let P = c.requires in
    let A = parted in (
      some_principals P.store.principals a.principals.now a.l.principals a.principal_slots.now P.names.principals,
      principal_below P.store.principals a.principals.now a.l.principals a.principal_slots.now P.names.principals P.assertion.from A.from_known c.from-a.result.from A.from_is,
    )

pub name_of-p-requires : goal.name_of-p-requires
name_of-p-requires c =
    let parted : Apart c.requires.store c.requires.assertion c.from-a.result = let a = c.args in
    let P = c.requires in
    apart P.store a.l a.principals.now a.principal_slots.now a.vars.now a.variable_slots.now P.names P.assertion a.number P.assertions _ c.from-a.ensures in
    let a = c.args in
    let P = c.requires in
    let A = parted in (
      some_principals P.store.principals a.principals.now a.l.principals a.principal_slots.now P.names.principals,
      principal_below P.store.principals a.principals.now a.l.principals a.principal_slots.now P.names.principals P.assertion.to A.to_known c.from-a.result.to A.to_is,
    )

pub put_assertion-requires : goal.put_assertion-requires
put_assertion-requires c =
    let parted : Apart c.requires.store c.requires.assertion c.from-a.result = let a = c.args in
    let P = c.requires in
    apart P.store a.l a.principals.now a.principal_slots.now a.vars.now a.variable_slots.now P.names P.assertion a.number P.assertions _ c.from-a.ensures in
    let spelt : (s : Store) (a : Assertion) → let g = c.args in Named s g.l g.principals.now g.principal_slots.now g.vars.now g.variable_slots.now → Assertions s a g.number → (c.name_of-x.result.now ≡ a.variable) × (c.name_of-q.result.now ≡ a.from) × (c.name_of-p.result.now ≡ a.to) = λ s a N C. let g = c.args in
    let A = apart s g.l g.principals.now g.principal_slots.now g.vars.now g.variable_slots.now N a g.number C c.from-a.result c.from-a.ensures in (
      variable_name s.variables g.vars.now g.l.vars g.variable_slots.now N.shared a.variable A.variable_known c.from-a.result.variable A.variable_is _ c.name_of-x.ensures,
      principal_name s.principals g.principals.now g.l.principals g.principal_slots.now N.principals a.from A.from_known c.from-a.result.from A.from_is _ c.name_of-q.ensures,
      principal_name s.principals g.principals.now g.l.principals g.principal_slots.now N.principals a.to A.to_known c.from-a.result.to A.to_is _ c.name_of-p.ensures,
    ) in
    let P = c.requires in
    let e = spelt P.store P.assertion P.names P.assertions in
    line_room_lem P.assertion c.letter_of.result _ _ _ c.args.at _ e.0 e.1 e.2 (c.letter_of.ensures P.assertion.right parted.right_is) P.room

pub returns : goal.returns
returns c s a N C =
    let spelt : (s : Store) (a : Assertion) → let g = c.args in Named s g.l g.principals.now g.principal_slots.now g.vars.now g.variable_slots.now → Assertions s a g.number → (c.name_of-x.result.now ≡ a.variable) × (c.name_of-q.result.now ≡ a.from) × (c.name_of-p.result.now ≡ a.to) = λ s a N C. let g = c.args in
    let A = apart s g.l g.principals.now g.principal_slots.now g.vars.now g.variable_slots.now N a g.number C c.from-a.result c.from-a.ensures in (
      variable_name s.variables g.vars.now g.l.vars g.variable_slots.now N.shared a.variable A.variable_known c.from-a.result.variable A.variable_is _ c.name_of-x.ensures,
      principal_name s.principals g.principals.now g.l.principals g.principal_slots.now N.principals a.from A.from_known c.from-a.result.from A.from_is _ c.name_of-q.ensures,
      principal_name s.principals g.principals.now g.l.principals g.principal_slots.now N.principals a.to A.to_known c.from-a.result.to A.to_is _ c.name_of-p.ensures,
    ) in
    let g = c.args in
    let A = apart s g.l g.principals.now g.principal_slots.now g.vars.now g.variable_slots.now N a g.number C _ c.from-a.ensures in
    let e = spelt s a N C in
    rewritten (line_of a c.letter_of.result _ _ _ e.0 e.1 e.2 (c.letter_of.ensures a.right A.right_is)) c.put_assertion.ensures
