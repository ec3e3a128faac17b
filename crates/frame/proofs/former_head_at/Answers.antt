use Rattle.std.proofs.Common.{◌≡◌, get_or, sym, ◌∙◌}
use Rattle.frame.proofs.Limits.{top_number, top_open, top_closed}
use Rattle.frame.proofs.former_head_at.Goals as goal

pub returns-in_err-e : goal.returns-in_err-e
returns-in_err-e c =
    let is-tab : get_or c.args.text.now 1 0 ≡ 9 = sym c.byte_at.ensures ∙ c.if-byte_at-ne9.false in
    rw c.from_residual.ensures (top_number c.args.text.now is-tab c.in_err-e.ensures)

pub returns-in-79 : goal.returns-in-79
returns-in-79 c =
    let is-tab : get_or c.args.text.now 1 0 ≡ 9 = sym c.byte_at.ensures ∙ c.if-byte_at-ne9.false in
    top_open c.args.text.now is-tab _ _ (sym c.byte_at-2.ensures ∙ c.in-79.is) c.in_ok-e.ensures

pub returns-in-67 : goal.returns-in-67
returns-in-67 c =
    let is-tab : get_or c.args.text.now 1 0 ≡ 9 = sym c.byte_at.ensures ∙ c.if-byte_at-ne9.false in
    top_closed c.args.text.now is-tab _ _ (sym c.byte_at-2.ensures ∙ c.in-67.is) c.in_ok-e.ensures
