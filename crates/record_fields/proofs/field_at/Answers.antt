use Rattle.std.proofs.Common.{◌≡◌, ◌+◌, get_or, sym, ◌∙◌, arith}
use Rattle.record_fields.proofs.Opening.{name_fits}
use Rattle.record_fields.proofs.Sorts.{field_tab, field_unnamed, field_stringless, field_good}
use Rattle.record_fields.proofs.field_at.Goals as goal

pub returns-then-byte_at-ne9 : goal.returns-then-byte_at-ne9
returns-then-byte_at-ne9 c = let a = c.args in field_tab a.text.now a.at a.w (λ e. c.if-byte_at-ne9.true (c.byte_at.ensures ∙ e))

pub returns-in_err-name_end : goal.returns-in_err-name_end
returns-in_err-name_end c =
    let tabbed : get_or c.args.text.now (c.args.at + 1) 0 ≡ 9 = sym c.byte_at.ensures ∙ c.if-byte_at-ne9.false in
    let a = c.args in
    rw c.from_residual.ensures (field_unnamed a.text.now a.at a.w c.requires.0 tabbed c.in_err-name_end.ensures)

pub string_at-requires : goal.string_at-requires
string_at-requires c =
    let f = c.in_ok-name_end.ensures in
    let l = name_fits _ _ _ _ f in (omega (arith, f.high), omega (arith, l))

pub returns-in_err-end : goal.returns-in_err-end
returns-in_err-end c =
    let tabbed : get_or c.args.text.now (c.args.at + 1) 0 ≡ 9 = sym c.byte_at.ensures ∙ c.if-byte_at-ne9.false in
    let a = c.args in
    rw c.from_residual-in_err-end.ensures
    (field_stringless a.text.now a.at a.w c.requires.0 tabbed c.in_ok-name_end.name_end c.in_ok-name_end.ensures c.in_err-end.ensures)

pub returns : goal.returns
returns c =
    let tabbed : get_or c.args.text.now (c.args.at + 1) 0 ≡ 9 = sym c.byte_at.ensures ∙ c.if-byte_at-ne9.false in
    let a = c.args in
    field_good a.text.now a.at a.w c.requires.0 tabbed c.in_ok-name_end.name_end c.in_ok-name_end.ensures c.in_ok-end.end c.in_ok-end.weighed c.in_ok-end.ensures
