use Rattle.std.proofs.Common.{◌≡◌, ◌+◌, get_or, sym, ◌∙◌}
use Rattle.records.proofs.Values.{string_element_lem, record_element}
use Rattle.records.proofs.element_at.Goals as goal

pub returns-else-byte_at-ne9 : goal.returns-else-byte_at-ne9
returns-else-byte_at-ne9 c =
    let is-s : get_or c.args.text.now c.args.at 0 ≡ 83 = sym c.byte_at.ensures ∙ c.in-83.is in
    let is-tab : get_or c.args.text.now (c.args.at + 1) 0 ≡ 9 = sym c.byte_at-in-83.ensures ∙ c.if-byte_at-ne9.false in
    string_element_lem c.args.text.now c.args.at c.args.w is-s is-tab c.string_at.result c.string_at.ensures

pub returns-else-found-eq0 : goal.returns-else-found-eq0
returns-else-found-eq0 c =
    let is-r : get_or c.args.text.now c.args.at 0 ≡ 82 = sym c.byte_at.ensures ∙ c.in-82.is in
    let is_line : get_or c.args.text.now (c.args.at + 1) 0 ≡ 10 = sym c.byte_at-in-82.ensures ∙ c.if-byte_at-ne10.false in
    record_element c.args.text.now c.args.at c.args.w is-r is_line _ _ _ c.in_ok-found-in-82.ensures c.if-found-eq0.false
