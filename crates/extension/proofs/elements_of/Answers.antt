-- `extension::elements_of` meets its contract. By the value's kind.
-- Assumes nothing.
use native.Mathlib.Omega.{arith}
use Rattle.values.specs.declared.Kind.TheVariants as Is
use Rattle.extension.proofs.Extending.{adds_by}
use Rattle.extension.proofs.elements_of.Goals as goal

pub kind_of-kind-requires : goal.kind_of-kind-requires
kind_of-kind-requires c = record { value = c.requires.value; held = c.requires.is_value.held }

pub overflow_add-result : goal.overflow_add-result
overflow_add-result c = omega (arith, c.requires.is_value.light)

pub overflow_add-result-in-Record : goal.overflow_add-result-in-Record
overflow_add-result-in-Record c = omega (arith, c.requires.is_value.light)

pub returns-in-Text : goal.returns-in-Text
returns-in-Text c v W = adds_by v c.args.value.now c.args.weight W c.kind_of-kind.result Is.Text (c.kind_of-kind.ensures v W.held) c.in-Text.is

pub returns-in-Record : goal.returns-in-Record
returns-in-Record c v W = adds_by v c.args.value.now c.args.weight W c.kind_of-kind.result Is.Record (c.kind_of-kind.ensures v W.held) c.in-Record.is

pub returns-in-List : goal.returns-in-List
returns-in-List c v W = adds_by v c.args.value.now c.args.weight W c.kind_of-kind.result Is.List (c.kind_of-kind.ensures v W.held) c.in-List.is
