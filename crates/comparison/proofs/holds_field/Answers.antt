-- `comparison::holds_field` meets its contract. Labels are distinct, so the field is there where the text of its label is its text.
-- Assumes nothing.
use mathlib.Core.Path.{◌∙◌}
use Rattle.std.proofs.Common.{Some, None}
use Rattle.comparison.proofs.Fields.{held_found}
use Rattle.comparison.proofs.holds_field.Goals as goal

pub returns-in-Some : goal.returns-in-Some
returns-in-Some c fs h =
    c.same_bytes.ensures
    ∙ held_found c.args.first.now fs h (record { label = c.args.label.now; text = c.args.text.now }) (Some c.in-Some.s) (c.in-Some.ensures.meant _ h)

pub returns-in-None : goal.returns-in-None
returns-in-None c fs h =
    held_found c.args.first.now fs h (record { label = c.args.label.now; text = c.args.text.now }) None (c.in-None.ensures.meant _ h)
