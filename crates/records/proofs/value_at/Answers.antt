use Rattle.std.proofs.Common.{◌≡◌, ◌+◌, get_or, sym, ◌∙◌}
use Rattle.records.proofs.Values.{element_value, list_value}
use Rattle.records.proofs.value_at.Goals as goal

pub returns-then-byte_at-ne76 : goal.returns-then-byte_at-ne76
returns-then-byte_at-ne76 c = element_value c.args.text.now c.args.at c.args.w (λ e. c.if-byte_at-ne76.true (c.byte_at.ensures ∙ e)) c.element_at.result c.element_at.ensures

pub returns : goal.returns
returns c =
    let is-l : get_or c.args.text.now c.args.at 0 ≡ 76 = sym c.byte_at.ensures ∙ c.if-byte_at-ne76.false in
    let is_line : get_or c.args.text.now (c.args.at + 1) 0 ≡ 10 = sym c.byte_at-2.ensures ∙ c.if-byte_at-ne10.false in
    list_value c.args.text.now c.args.at c.args.w is-l is_line c.elements.result c.elements.ensures
