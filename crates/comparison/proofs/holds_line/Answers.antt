-- `comparison::holds_line` meets its contract. A line that stands where a line starts is that of a field; else the field is looked for.
-- Assumes nothing.
use mathlib.Core.Path.{ap, ◌∙◌}
use mathlib.Core.List.{[]}
use Rattle.language.specs.Text.{any}
use Rattle.language.specs.Functions.{same_field}
use Rattle.comparison.proofs.Matches.{stands_held, read_field}
use Rattle.comparison.proofs.holds_line.Goals as goal

pub returns-then-stands : goal.returns-then-stands
returns-then-stands c fs g h G = stands_held c.args.first.now c.args.line.now fs g c.in-Some.place h G (c.stands.ensures c.if-stands.true)

pub returns : goal.returns
returns c fs g h G =
    c.holds_field.ensures fs h
    ∙ ap (λ f. any (same_field f) fs) (read_field c.args.line.now g G c.field_ends-ends.result (c.field_ends-ends.ensures.ends g [] G))
