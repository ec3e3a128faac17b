-- `foreach_source::copy_list` meets its contract. A value of y, no value of x and one that is no list leave nothing to go through.
-- Assumes nothing.
use mathlib.Core.Path.{◌≡◌, sym, ◌∙◌}
use mathlib.Core.Bool.{false}
use native.Mathlib.Omega.{arith}
use borrow.Author.Tests.{not-true, not-false}
use Rattle.language.specs.Text.{Text}
use Rattle.language.specs.Values.{Session, lookup, is_defined}
use Rattle.text.specs.Meaning.{part}
use Rattle.scopes.specs.Scopes.{ReadAs}
use Rattle.lookup.specs.Looks.{Scoped}
use Rattle.foreach_source.proofs.Sourcing.{other_there, no_list, list_copied, read_fits}
use borrow.Author.Rules.{rules}
use Rattle.foreach_source.proofs.copy_list.Goals as goal

pub returns-then-is_defined : goal.returns-then-is_defined
returns-then-is_defined c s S =
    let y_of : Text = part c.args.text.now c.args.y in
    let x-of : Text = part c.args.text.now c.args.x in
    other_there s y_of x-of (sym (c.is_defined.ensures s S) ∙ c.if-is_defined.true)

pub list_read-requires : goal.list_read-requires
list_read-requires c =
    let x-of : Text = part c.args.text.now c.args.x in
    record { value = lookup c.requires.some_light.session x-of; held = c.text_of-value.ensures c.requires.some_light.session c.requires.some_light.scoped }

pub returns-then-not-list_read : goal.returns-then-not-list_read
returns-then-not-list_read c s S =
    let y_of : Text = part c.args.text.now c.args.y in
    let x-of : Text = part c.args.text.now c.args.x in
    let Held : Session → Type 0 = λ s. let a = c.args in Scoped s a.l a.vars.now a.variable_slots.now a.locals.now a.local_slots.now in
    let undefined : (s : Session) → Held s → is_defined s y_of ≡ false = λ s S. sym (c.is_defined.ensures s S) ∙ c.if-is_defined.false in
    no_list s y_of x-of (undefined s S) c.list_read.result
    (c.list_read.ensures (lookup s x-of) (c.text_of-value.ensures s S)) (not-true c.list_read.result c.if-not-list_read.true-raw)

pub copy_in-n-requires : goal.copy_in-n-requires
copy_in-n-requires c =
    let x-of : Text = part c.args.text.now c.args.x in
    let k = read_fits c.requires.some_light.session x-of c.text_of-value.result.now (c.text_of-value.ensures c.requires.some_light.session c.requires.some_light.scoped) c.requires.some_light.is_light in
    omega (arith, k, c.requires.within.2)

pub returns : goal.returns
returns c s S =
    let y_of : Text = part c.args.text.now c.args.y in
    let x-of : Text = part c.args.text.now c.args.x in
    let Held : Session → Type 0 = λ s. let a = c.args in Scoped s a.l a.vars.now a.variable_slots.now a.locals.now a.local_slots.now in
    let undefined : (s : Session) → Held s → is_defined s y_of ≡ false = λ s S. sym (c.is_defined.ensures s S) ∙ c.if-is_defined.false in
    let R : ReadAs (lookup s x-of) c.text_of-value.result.now = c.text_of-value.ensures s S in
    list_copied s y_of x-of (undefined s S) c.text_of-value.result.now R c.list_read.result
    (c.list_read.ensures (lookup s x-of) R) (not-false c.list_read.result c.if-not-list_read.false-raw) _ _ _ c.copy_in-n.ensures
