use mathlib.Core.Path.{sym, ap, ◌∙◌}
use mathlib.Core.Bool.{not}
use borrow.Author.Tests.{eq-eqb, ne_eqb}
use lib.Dec.{eqb}
use Rattle.session.proofs.Admin.{sender_is, sender_admin}
use Rattle.delegation_rules.proofs.Denials.{none_admin, none_other}
use Rattle.delegation_rules.proofs.neither.Goals as goal

pub returns-then-l-eq0 : goal.returns-then-l-eq0
returns-then-l-eq0 c s b from R e =
    let l = c.args.l in
    none_admin s from (sender_admin s l b R ∙ eq-eqb l.sender 0 c.if-l-eq0.true)

pub returns : goal.returns
returns c s b from R e =
    let l = c.args.l in
    ap not (ap (eqb l.sender) e ∙ sym (sender_is s l b R from)) ∙ none_other s from (sender_admin s l b R ∙ ne_eqb l.sender 0 c.if-l-eq0.false)
