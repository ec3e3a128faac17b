-- `creation::delegate_all` meets its contract: the targets are collected, and then entered.
-- Assumes nothing.
use mathlib.Core.Path.{◌≡◌}
use native.Mathlib.Omega.{arith}
use lib.ListN.{length, get_or}
use Rattle.language.specs.Syntax.{Name, delegate, rights}
use Rattle.language.specs.Values.{Session}
use Rattle.language.specs.Commands.{delegable}
use Rattle.session.specs.Sessions.{slices}
use Rattle.delegations.specs.Delegates.{Delegates}
use Rattle.creation.specs.Creating.{Gives}
use Rattle.creation.proofs.Giving.{counted, few, delegates}
use borrow.Author.Rules.{rules}
use Rattle.creation.proofs.delegate_all.Goals as goal

pub collect-n-requires : goal.collect-n-requires
collect-n-requires c =
    let a = c.args in
    let f = few c.requires.some_gives.session a.l _ a.q a.p c.requires.some_gives.from c.requires.some_gives.to c.requires.some_gives.gives in
    (f.0, f.1, f.2, f.3, c.requires.right_bound.1)

pub enter_all-requires : goal.enter_all-requires
enter_all-requires c =
    let gathered : (s : Session) (from to : Name) → let a = c.args in Gives s a.l (slices a.principals.now a.principal_slots.now a.vars.now a.variable_slots.now a.locals.now a.local_slots.now a.assertions.now) a.q a.p from to → Delegates s a.l (slices a.principals.now a.principal_slots.now a.vars.now a.variable_slots.now a.locals.now a.local_slots.now a.assertions.now) c.collect-n.new.targets c.collect-n.result a.q a.right a.p (delegable s.store from) from (get_or rights a.right delegate) to = λ s from to G. let a = c.args in
    let z : length c.collect-n.new.targets ≡ length a.targets.now = c.collect-n.auto.targets in
    delegates s a.l _ a.q a.p from to G a.right c.collect-n.result c.collect-n.new.targets c.requires.right_bound.0 c.collect-n.ensures.few (omega (arith, z, c.requires.right_bound.1))
    (c.collect-n.ensures.are s.store from (counted s a.l _ a.q a.p from to G) G.giver) in
    record { session = c.requires.some_gives.session; variables_named = delegable c.requires.some_gives.session.store c.requires.some_gives.from; from = c.requires.some_gives.from; of_right = get_or rights c.args.right delegate; to = c.requires.some_gives.to; delegates = gathered c.requires.some_gives.session c.requires.some_gives.from c.requires.some_gives.to c.requires.some_gives.gives }

pub returns : goal.returns
returns c s from to G =
    let gathered : (s : Session) (from to : Name) → let a = c.args in Gives s a.l (slices a.principals.now a.principal_slots.now a.vars.now a.variable_slots.now a.locals.now a.local_slots.now a.assertions.now) a.q a.p from to → Delegates s a.l (slices a.principals.now a.principal_slots.now a.vars.now a.variable_slots.now a.locals.now a.local_slots.now a.assertions.now) c.collect-n.new.targets c.collect-n.result a.q a.right a.p (delegable s.store from) from (get_or rights a.right delegate) to = λ s from to G. let a = c.args in
    let z : length c.collect-n.new.targets ≡ length a.targets.now = c.collect-n.auto.targets in
    delegates s a.l _ a.q a.p from to G a.right c.collect-n.result c.collect-n.new.targets c.requires.right_bound.0 c.collect-n.ensures.few (omega (arith, z, c.requires.right_bound.1))
    (c.collect-n.ensures.are s.store from (counted s a.l _ a.q a.p from to G) G.giver) in
    c.enter_all.ensures s (delegable s.store from) from (get_or rights c.args.right delegate) to (gathered s from to G)
