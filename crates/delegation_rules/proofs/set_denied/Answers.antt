use mathlib.Core.Path.{sym, ◌∙◌}
use Rattle.named_rights.specs.Numbers.{variables}
use Rattle.delegation_rules.proofs.Denials.{aim_every, aim_only, set_reserved, set_all, set_one}
use borrow.Author.Rules.{rules}
use Rattle.delegation_rules.proofs.set_denied.Goals as goal

pub returns-then-neither : goal.returns-then-neither
returns-then-neither c s b t from of to R N = set_reserved s from of to t (sym (c.neither.ensures s b from R.running N.giver_is) ∙ c.if-neither.true)

pub returns-in-All : goal.returns-in-All
returns-in-All c s b t from of to R N =
    set_all s from of to t (aim_every (variables s.store) t (sym c.in-All.is ∙ N.aim_is))
    (sym (c.neither.ensures s b from R.running N.giver_is) ∙ c.if-neither.false)

pub returns-in-One : goal.returns-in-One
returns-in-One c s b t from of to R N =
    let A = aim_only (variables s.store) t _ (sym c.in-One.is ∙ N.aim_is) in
    c.lacks.ensures s b A.name from R A.number N.giver_is
    ∙ set_one s from of to t A.name A.is_only (sym (c.neither.ensures s b from R.running N.giver_is) ∙ c.if-neither.false)
