-- `creation::add` meets its contract. The weight is known before a byte moves.
-- Assumes nothing.
use native.Mathlib.Omega.{arith}
use Rattle.creation.proofs.Adding.{added_weighs, added_held, added_name, added_fits, added_running}
use borrow.Author.Rules.{rules}
use Rattle.creation.proofs.add.Goals as goal

pub overflow_add-weight : goal.overflow_add-weight
overflow_add-weight c = let N = c.requires.0.new in omega (arith, N.running.light)

pub overflow_add-weight-2 : goal.overflow_add-weight-2
overflow_add-weight-2 c = let N = c.requires.0.new in omega (arith, N.running.light, c.requires.1)

pub overflow_add-weight-3 : goal.overflow_add-weight-3
overflow_add-weight-3 c = let N = c.requires.0.new in omega (arith, N.running.light, c.requires.1, c.requires.2)

pub returns-then-weight-gt8192 : goal.returns-then-weight-gt8192
returns-then-weight-gt8192 c s b N =
    let a = c.args in
    omega (arith, c.if-weight-gt8192.true, added_weighs s a.l b a.principals.now a.principal_slots.now a.name.now a.password.now N)

pub add_principal-end-requires : goal.add_principal-end-requires
add_principal-end-requires c =
    let a = c.args in
    let P = c.requires.0 in
    added_fits P.session a.l P.buffers a.principals.now a.principal_slots.now a.name.now a.password.now P.new c.if-weight-gt8192.false

pub overflow_add-k : goal.overflow_add-k
overflow_add-k c =
    let a = c.args in
    let P = c.requires.0 in
    let f = added_fits P.session a.l P.buffers a.principals.now a.principal_slots.now a.name.now a.password.now P.new c.if-weight-gt8192.false in
    omega (arith, f.2)

pub returns : goal.returns
returns c s b N =
    let a = c.args in
    added_running s a.l b a.principals.now a.principal_slots.now a.name.now a.password.now N c.if-weight-gt8192.false
    c.add_principal-end.new.buf c.add_principal-end.new.slots c.add_principal-end.result
    (c.add_principal-end.ensures.held s.store.principals (added_held s a.l b a.principals.now a.principal_slots.now a.name.now a.password.now N)
    (added_name s a.l b a.principals.now a.principal_slots.now a.name.now a.password.now N)) c.add_principal-end.ensures.outside.within c.add_principal-end.auto.buf c.add_principal-end.auto.slots
