-- `lookup::list_read` meets its contract. Nothing read is no list; else the value's kind says.
-- Assumes nothing.
use mathlib.Core.Path.{sym, ap, ◌∙◌}
use mathlib.Core.Option.{Option}
use Rattle.language.specs.Text.{present}
use Rattle.language.specs.State.{Value}
use Rattle.evaluate.proofs.Found.{nothing_read, value_text_lem}
use Rattle.lookup.specs.Looks.{elements_in}
use Rattle.lookup.proofs.Looking.{list_kind, list_said}
use borrow.Author.Rules.{rules}
use Rattle.lookup.proofs.list_read.Goals as goal

pub returns-then-value-eq0 : goal.returns-then-value-eq0
returns-then-value-eq0 c o r = sym (ap (λ (z : Option Value). present (elements_in z)) (nothing_read o c.args.value.now r c.if-value-eq0.true))

pub kind_of-kind-requires : goal.kind_of-kind-requires
kind_of-kind-requires c = value_text_lem c.requires.value c.args.value.now c.requires.held c.if-value-eq0.false

pub returns-in-Text : goal.returns-in-Text
returns-in-Text c o r = sym (ap list_kind c.in-Text.is) ∙ list_said o c.args.value.now r c.if-value-eq0.false c.kind_of-kind.result c.kind_of-kind.ensures

pub returns-in-Record : goal.returns-in-Record
returns-in-Record c o r = sym (ap list_kind c.in-Record.is) ∙ list_said o c.args.value.now r c.if-value-eq0.false c.kind_of-kind.result c.kind_of-kind.ensures

pub returns-in-List : goal.returns-in-List
returns-in-List c o r = sym (ap list_kind c.in-List.is) ∙ list_said o c.args.value.now r c.if-value-eq0.false c.kind_of-kind.result c.kind_of-kind.ensures
