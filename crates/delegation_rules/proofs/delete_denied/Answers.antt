use mathlib.Core.Path.{sym, ap, ◌∙◌}
use borrow.Author.Tests.{eq-eqb, ne_eqb}
use lib.Dec.{eqb}
use Rattle.language.specs.Syntax.{Name, Target}
use Rattle.language.specs.Values.{Session}
use Rattle.named_rights.specs.Numbers.{variables}
use Rattle.session.proofs.Admin.{sender_is, sender_admin}
use Rattle.delegation_rules.specs.Asking.{Names}
use Rattle.delegation_rules.proofs.Denials.{aim_every, Aimed, aim_only, delete_all, delete_taker, delete_admin, delete_other, delete_giver}
use borrow.Author.Rules.{rules}
use Rattle.delegation_rules.proofs.delete_denied.Goals as goal

pub returns-then-l-k : goal.returns-then-l-k
returns-then-l-k c s b t from of to R N =
    let one : (s : Session) (t : Target) (from to : Name) → Names s t from to c.args.k → Aimed (variables s.store) t c.in-One.x = λ s t from to N. aim_only (variables s.store) t c.in-One.x (sym c.in-One.is ∙ N.aim_is) in
    let a = c.args in
    let A = one s t from to N in
    delete_taker s from of to t A.name A.is_only
    (sender_is s a.l b R.running to ∙ ap (eqb a.l.sender) (sym N.taker_is) ∙ eq-eqb a.l.sender a.k.taker c.if-l-k.true)

pub returns-then-neither : goal.returns-then-neither
returns-then-neither c s b t from of to R N =
    let one : (s : Session) (t : Target) (from to : Name) → Names s t from to c.args.k → Aimed (variables s.store) t c.in-One.x = λ s t from to N. aim_only (variables s.store) t c.in-One.x (sym c.in-One.is ∙ N.aim_is) in
    let a = c.args in
    let A = one s t from to N in
    delete_other s from of to t A.name A.is_only
    (sender_is s a.l b R.running to ∙ ap (eqb a.l.sender) (sym N.taker_is) ∙ ne_eqb a.l.sender a.k.taker c.if-l-k.false)
    (sym (c.neither-in-One.ensures s b from R.running N.giver_is) ∙ c.if-neither.true)

pub returns-then-l-eq0 : goal.returns-then-l-eq0
returns-then-l-eq0 c s b t from of to R N =
    let one : (s : Session) (t : Target) (from to : Name) → Names s t from to c.args.k → Aimed (variables s.store) t c.in-One.x = λ s t from to N. aim_only (variables s.store) t c.in-One.x (sym c.in-One.is ∙ N.aim_is) in
    let a = c.args in
    let A = one s t from to N in
    delete_admin s from of to t A.name A.is_only (sender_admin s a.l b R.running ∙ eq-eqb a.l.sender 0 c.if-l-eq0.true)

pub returns-in-All : goal.returns-in-All
returns-in-All c s b t from of to R N =
    c.neither.ensures s b from R.running N.giver_is
    ∙ delete_all s from of to t (aim_every (variables s.store) t (sym c.in-All.is ∙ N.aim_is))

pub returns-else-l-eq0 : goal.returns-else-l-eq0
returns-else-l-eq0 c s b t from of to R N =
    let one : (s : Session) (t : Target) (from to : Name) → Names s t from to c.args.k → Aimed (variables s.store) t c.in-One.x = λ s t from to N. aim_only (variables s.store) t c.in-One.x (sym c.in-One.is ∙ N.aim_is) in
    let a = c.args in
    let A = one s t from to N in
    c.lacks.ensures s b A.name from R A.number N.giver_is
    ∙ delete_giver s from of to t A.name A.is_only R.running.ready.is_good.sender_known
    (sender_admin s a.l b R.running ∙ ne_eqb a.l.sender 0 c.if-l-eq0.false)
    (sender_is s a.l b R.running to ∙ ap (eqb a.l.sender) (sym N.taker_is) ∙ ne_eqb a.l.sender a.k.taker c.if-l-k.false)
    (sym (c.neither-in-One.ensures s b from R.running N.giver_is) ∙ c.if-neither.false)
