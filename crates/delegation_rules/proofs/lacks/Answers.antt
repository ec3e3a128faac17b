use mathlib.Core.Path.{ap, subst, ◌∙◌}
use mathlib.Core.Bool.{not}
use Rattle.language.specs.Syntax.{delegate}
use Rattle.named_rights.specs.Numbers.{Standing}
use Rattle.session.proofs.Scoping.{store_valid}
use Rattle.delegation_rules.proofs.Existing.{no_principal, a_principal, no_variable, a_variable}
use Rattle.delegation_rules.proofs.Denials.{lacks_giver, lacks_variable, lacks_right}
use Rattle.delegation_rules.proofs.Fitting.{asks, fits}
use Rattle.delegation_rules.proofs.lacks.Goals as goal

pub returns-then-l-q : goal.returns-then-l-q
returns-then-l-q c s b y from R x e = let a = c.args in lacks_giver s from y (no_principal s a.l b R.running from a.q e c.if-l-q.true)

pub returns-then-l-x : goal.returns-then-l-x
returns-then-l-x c s b y from R x e = let a = c.args in lacks_variable s from y (no_variable s a.l b R.running y a.x x c.if-l-x.true)

pub may-requires : goal.may-requires
may-requires c = let p = c.requires in fits p.session c.args.l p.buffers c.args.assertions.now p.runs c.args.x c.if-l-x.false

pub returns : goal.returns
returns c s b y from R x e =
    let a = c.args in
    let hq = a_principal s a.l b R.running from a.q e c.if-l-q.false in
    let hx = a_variable s a.l b R.running y a.x x c.if-l-x.false in
    ap not (c.may.ensures s.store delegate y from (store_valid s a.l b R.running) (subst (Standing s.store a.l.asserted) R.stood R.running.assertions) (asks s a.l b R.running y from a.x a.q x e hx hq))
    ∙ lacks_right s from y hq hx
