use Rattle.std.proofs.Common.{◌≡◌, ◌+◌, get_or, sym, ◌∙◌}
use Rattle.records.proofs.Variables.{variable_tab, variable_unnamed, variable_heavy, variable_valueless, variable_good}
use Rattle.records.proofs.variable_at.Goals as goal

pub returns-then-byte_at-ne9 : goal.returns-then-byte_at-ne9
returns-then-byte_at-ne9 c = let a = c.args in variable_tab a.text.now a.at a.w (λ e. c.if-byte_at-ne9.true (c.byte_at.ensures ∙ e))

pub returns-in_err-name_end : goal.returns-in_err-name_end
returns-in_err-name_end c =
    let tabbed : get_or c.args.text.now (c.args.at + 1) 0 ≡ 9 = sym c.byte_at.ensures ∙ c.if-byte_at-ne9.false in
    let a = c.args in
    rw c.from_residual.ensures (variable_unnamed a.text.now a.at a.w c.requires.1 tabbed c.in_err-name_end.ensures)

pub returns-then-before-gt-LIMIT : goal.returns-then-before-gt-LIMIT
returns-then-before-gt-LIMIT c =
    let tabbed : get_or c.args.text.now (c.args.at + 1) 0 ≡ 9 = sym c.byte_at.ensures ∙ c.if-byte_at-ne9.false in
    let a = c.args in
    variable_heavy a.text.now a.at a.w c.requires.1 tabbed c.in_ok-name_end.name_end c.in_ok-name_end.ensures c.if-before-gt-LIMIT.true

pub returns-in_err-end : goal.returns-in_err-end
returns-in_err-end c =
    let tabbed : get_or c.args.text.now (c.args.at + 1) 0 ≡ 9 = sym c.byte_at.ensures ∙ c.if-byte_at-ne9.false in
    let a = c.args in
    rw c.from_residual-in_err-end.ensures
    (variable_valueless a.text.now a.at a.w c.requires.1 tabbed c.in_ok-name_end.name_end c.in_ok-name_end.ensures c.in_err-end.ensures)

pub returns : goal.returns
returns c =
    let tabbed : get_or c.args.text.now (c.args.at + 1) 0 ≡ 9 = sym c.byte_at.ensures ∙ c.if-byte_at-ne9.false in
    let a = c.args in
    variable_good a.text.now a.at a.w c.requires.1 tabbed c.in_ok-name_end.name_end c.in_ok-name_end.ensures c.in_ok-end.end c.in_ok-end.weighed c.in_ok-end.ensures
