use Rattle.references.proofs.Members.{member_word, unknown, is_known}
use Rattle.references.proofs.known_at.Goals as goal

pub returns-in_err-e : goal.returns-in_err-e
returns-in_err-e c =
    λ rows H.
    let a = c.args in
    rw c.from_residual.ensures (λ x r h d. c.in_err-e.ensures x r (member_word rows a.text.now a.from a.to a.count a.slots.now H x h) d)

pub returns-in_default : goal.returns-in_default
returns-in_default c =
    λ rows H.
    let a = c.args in
    unknown rows a.text.now a.from a.to a.count a.slots.now H a.stop c.requires.outside a.at c.in_ok-e.e c.in_ok-e.ensures
    (c.in_default.ensures rows H)

pub returns : goal.returns
returns c =
    λ rows H.
    let a = c.args in
    is_known rows a.text.now a.from a.to a.count a.slots.now H a.stop c.requires.outside a.at c.in_ok-e.e c.in_ok-e.ensures
    _ _ _ (c.in-Some.ensures rows H)
