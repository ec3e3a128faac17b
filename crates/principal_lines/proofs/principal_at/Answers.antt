use Rattle.std.proofs.Common.{◌∙◌}
use Rattle.principal_lines.specs.Principals.{form_meant}
use Rattle.principal_lines.proofs.OneLine.{principal_tab, principal_letter}
use Rattle.principal_lines.proofs.principal_at.Goals as goal

pub returns-then-byte_at-ne9 : goal.returns-then-byte_at-ne9
returns-then-byte_at-ne9 c = principal_tab (form_meant c.args.form) c.args.text.now c.args.at c.args.w (λ e. c.if-byte_at-ne9.true (c.byte_at.ensures ∙ e))

pub returns-else-first-eq78 : goal.returns-else-first-eq78
returns-else-first-eq78 c =
    principal_letter (form_meant c.args.form) c.args.text.now c.args.at c.args.w (λ z. c.if-first-eq80.false (c.byte_at-first.ensures ∙ z)) (λ z. c.if-first-eq78.false (c.byte_at-first.ensures ∙ z))
