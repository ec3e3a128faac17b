use Rattle.std.proofs.Common.{◌≡◌, ◌+◌, get_or, sym, ◌∙◌}
use Rattle.references.proofs.Members.{member_word, delegator_good}
use Rattle.references.proofs.delegator_at.Goals as goal

pub returns : goal.returns
returns c =
    let is-d : get_or c.args.text.now c.args.at 0 ≡ 68 = sym c.byte_at.ensures ∙ c.if-byte_at-ne68.false in
    let is-tab : get_or c.args.text.now (c.args.at + 1) 0 ≡ 9 = sym c.byte_at-else-byte_at-ne68.ensures ∙ c.if-byte_at-ne9.false in
    λ rows H.
    delegator_good rows c.args.text.now c.args.at is-d is-tab
    (member_word rows c.args.text.now c.args.from c.args.at c.args.count c.args.slots.now H) _ _ (c.in_ok-number.ensures rows H)
