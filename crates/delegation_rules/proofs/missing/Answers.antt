use mathlib.Core.Path.{sym, ◌∙◌}
use Rattle.named_rights.specs.Numbers.{variables}
use Rattle.delegation_rules.proofs.Denials.{aim_every, aim_only}
use Rattle.delegation_rules.proofs.Existing.{no_principal, a_principal, lost_variable, without_taker, without_giver, with_all, with_one}
use borrow.Author.Rules.{rules}
use Rattle.delegation_rules.proofs.missing.Goals as goal

pub returns-then-l-k : goal.returns-then-l-k
returns-then-l-k c s b t from to R N = let a = c.args in without_taker s t from to (no_principal s a.l b R to a.k.taker N.taker_is c.if-l-k.true)

pub returns-then-l-k-2 : goal.returns-then-l-k-2
returns-then-l-k-2 c s b t from to R N = let a = c.args in without_giver s t from to (no_principal s a.l b R from a.k.giver N.giver_is c.if-l-k-2.true)

pub returns-in-All : goal.returns-in-All
returns-in-All c s b t from to R N =
    let a = c.args in
    with_all s t from to (aim_every (variables s.store) t (sym c.in-All.is ∙ N.aim_is))
    (a_principal s a.l b R to a.k.taker N.taker_is c.if-l-k.false) (a_principal s a.l b R from a.k.giver N.giver_is c.if-l-k-2.false)

pub returns-in-One : goal.returns-in-One
returns-in-One c s b t from to R N =
    let a = c.args in
    let A = aim_only (variables s.store) t _ (sym c.in-One.is ∙ N.aim_is) in
    lost_variable s a.l b R A.name _ A.number
    ∙ with_one s t from to A.name A.is_only
    (a_principal s a.l b R to a.k.taker N.taker_is c.if-l-k.false) (a_principal s a.l b R from a.k.giver N.giver_is c.if-l-k-2.false)
