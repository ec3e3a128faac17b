-- `assignment::make` meets its contract. The variable is added where it and the assertions are not too heavy, and then they are entered.
-- Assumes nothing.
use mathlib.Core.Path.{◌≡◌, sym, subst, ◌∙◌}
use mathlib.Core.List.{List}
use Prim.Native.Nat.{ℕ, ◌+◌}
use native.Mathlib.Omega.{arith}
use lib.ListN.{length, take}
use lib.Seq.{length-take-le}
use Rattle.language.specs.Text.{Text}
use Rattle.language.specs.State.{Value, value_in, put}
use Rattle.language.specs.Values.{Session}
use Rattle.language.specs.Commands.{assign}
use mathlib.Core.Option.{none}
use Rattle.language.proofs.StateText.Clean.{name_length}
use Rattle.store.proofs.Holders.{some_principals}
use Rattle.session.specs.declared.Layout.{Layout}
use Rattle.session.specs.Sessions.{slices, Running}
use Rattle.session.proofs.Room.{records_few}
use Rattle.variable_text.specs.Puts.{Weighs, Became}
use Rattle.assignment.specs.Grants.{grant_weight}
use Rattle.variable_text.proofs.Weighing.{put_full, put_done}
use Rattle.assignment.proofs.Assigning.{shared_lie, sender_below, new_full, new_done, grants_room}
use Rattle.assignment.proofs.make.Goals as goal

pub slice_bounds-grant_weight-end : goal.slice_bounds-grant_weight-end
slice_bounds-grant_weight-end c = sym (length-take-le _ _ c.requires.0.some.running.principals_within)

pub grant_weight-extra-requires : goal.grant_weight-extra-requires
grant_weight-extra-requires c =
    let a = c.args in
    let S = c.requires.0.some in
    let b = slices a.principals.now a.principal_slots.now a.vars.now a.variable_slots.now S.locals S.local_slots a.assertions.now in (
      some_principals S.session.store.principals (take a.l.principals_len a.principals.now) a.l.principals a.principal_slots.now S.running.principals,
      sender_below S.session a.l b S.running,
      (name_length a.name.now c.requires.1).1,
    )

pub overflow_add-l : goal.overflow_add-l
overflow_add-l c = omega (arith, c.grant_weight-extra.ensures.small, c.requires.0.some.running.light)

pub add-put-requires : goal.add-put-requires
add-put-requires c =
    let a = c.args in
    let S = c.requires.0.some in
    let b = slices a.principals.now a.principal_slots.now a.vars.now a.variable_slots.now S.locals S.local_slots a.assertions.now in (
      record { variables = S.session.store.variables; lies = shared_lie S.session a.l b S.running (a.l.weight + c.grant_weight-extra.result) (omega arith) },
      c.requires.2,
      c.requires.1,
      omega (arith, c.grant_weight-extra.ensures.small, S.running.light),
    )

pub returns-in_default : goal.returns-in_default
returns-in_default c s lo lm v R el en W =
    let extra-is : let a = c.args in (s : Session) (lo : Text) (lm : List ℕ) → Running s a.l (slices a.principals.now a.principal_slots.now a.vars.now a.variable_slots.now lo lm a.assertions.now) → c.grant_weight-extra.result ≡ grant_weight (length a.name.now) s.sender = λ s lo lm R. c.grant_weight-extra.ensures.weighs s.store.principals s.sender R.principals R.ready.is_good.store_shape.order R.sender in
    let a = c.args in
    let b = slices a.principals.now a.principal_slots.now a.vars.now a.variable_slots.now lo lm a.assertions.now in
    new_full s a.l b R a.name.now v W.held.is_valid c.requires.1 en c.grant_weight-extra.result (extra-is s lo lm R) el
    (put_full s.store.variables (put a.name.now v s.store.variables) (a.l.weight + c.grant_weight-extra.result) c.add-put.result c.add-put.new.buf (a.l.vars + 1) c.add-put.new.slots
    (c.add-put.ensures s.store.variables v (shared_lie s a.l b R (a.l.weight + c.grant_weight-extra.result) (omega arith)) en W) c.in_default.is)

pub grant-asserted-requires : goal.grant-asserted-requires
grant-asserted-requires c =
    let extra-is : let a = c.args in (s : Session) (lo : Text) (lm : List ℕ) → Running s a.l (slices a.principals.now a.principal_slots.now a.vars.now a.variable_slots.now lo lm a.assertions.now) → c.grant_weight-extra.result ≡ grant_weight (length a.name.now) s.sender = λ s lo lm R. c.grant_weight-extra.ensures.weighs s.store.principals s.sender R.principals R.ready.is_good.store_shape.order R.sender in
    let became : let a = c.args in (s : Session) (lo : Text) (lm : List ℕ) (v : Value) → Running s a.l (slices a.principals.now a.principal_slots.now a.vars.now a.variable_slots.now lo lm a.assertions.now) → value_in s.store.variables a.name.now ≡ none → Weighs v a.value.now a.weight → Became s.store.variables (put a.name.now v s.store.variables) (a.l.weight + c.grant_weight-extra.result) c.add-put.new.buf c.in-Done.len (a.l.vars + 1) c.add-put.new.slots c.in-Done.w = λ s lo lm v R n W. let a = c.args in
    let b = slices a.principals.now a.principal_slots.now a.vars.now a.variable_slots.now lo lm a.assertions.now in
    put_done s.store.variables (put a.name.now v s.store.variables) (a.l.weight + c.grant_weight-extra.result) c.add-put.result c.add-put.new.buf (a.l.vars + 1) c.add-put.new.slots
    (c.add-put.ensures s.store.variables v (shared_lie s a.l b R (a.l.weight + c.grant_weight-extra.result) (omega arith)) n W) c.in-Done.len c.in-Done.w c.in-Done.is in
    let a = c.args in
    let S = c.requires.0.some in
    let U = c.requires.2 in
    let b = slices a.principals.now a.principal_slots.now a.vars.now a.variable_slots.now S.locals S.local_slots a.assertions.now in
    grants_room S.session a.l b S.running a.name.now U.value U.is_value.held.is_valid c.requires.1 c.requires.0.is_new c.grant_weight-extra.result
    (extra-is S.session S.locals S.local_slots S.running) _ _ _ _
    (became S.session S.locals S.local_slots U.value S.running c.requires.0.is_new U.is_value)

pub overflow_add-count : goal.overflow_add-count
overflow_add-count c =
    let a = c.args in
    let S = c.requires.0.some in
    let b = slices a.principals.now a.principal_slots.now a.vars.now a.variable_slots.now S.locals S.local_slots a.assertions.now in
    omega (arith, records_few S.session a.l b S.running, S.running.light)

pub returns : goal.returns
returns c s lo lm v R el en W =
    let extra-is : let a = c.args in (s : Session) (lo : Text) (lm : List ℕ) → Running s a.l (slices a.principals.now a.principal_slots.now a.vars.now a.variable_slots.now lo lm a.assertions.now) → c.grant_weight-extra.result ≡ grant_weight (length a.name.now) s.sender = λ s lo lm R. c.grant_weight-extra.ensures.weighs s.store.principals s.sender R.principals R.ready.is_good.store_shape.order R.sender in
    let became : let a = c.args in (s : Session) (lo : Text) (lm : List ℕ) (v : Value) → Running s a.l (slices a.principals.now a.principal_slots.now a.vars.now a.variable_slots.now lo lm a.assertions.now) → value_in s.store.variables a.name.now ≡ none → Weighs v a.value.now a.weight → Became s.store.variables (put a.name.now v s.store.variables) (a.l.weight + c.grant_weight-extra.result) c.add-put.new.buf c.in-Done.len (a.l.vars + 1) c.add-put.new.slots c.in-Done.w = λ s lo lm v R n W. let a = c.args in
    let b = slices a.principals.now a.principal_slots.now a.vars.now a.variable_slots.now lo lm a.assertions.now in
    put_done s.store.variables (put a.name.now v s.store.variables) (a.l.weight + c.grant_weight-extra.result) c.add-put.result c.add-put.new.buf (a.l.vars + 1) c.add-put.new.slots
    (c.add-put.ensures s.store.variables v (shared_lie s a.l b R (a.l.weight + c.grant_weight-extra.result) (omega arith)) n W) c.in-Done.len c.in-Done.w c.in-Done.is in
    let a = c.args in
    let b = slices a.principals.now a.principal_slots.now a.vars.now a.variable_slots.now lo lm a.assertions.now in
    subst (λ (k : Layout). Running (assign s a.name.now v) k (slices a.principals.now a.principal_slots.now c.add-put.new.buf c.add-put.new.slots lo lm c.grant-asserted.new.assertions)) (sym c.with_shared.ensures)
    (new_done s a.l b R a.name.now v W.held.is_valid c.requires.1 en c.grant_weight-extra.result (extra-is s lo lm R) el c.add-put.new.buf c.add-put.new.slots
    c.grant-asserted.new.assertions c.in-Done.len c.in-Done.w c.grant-asserted.result c.add-put.auto.buf (became s lo lm v R en W) (c.grant-asserted.auto.assertions ∙ R.sized.assertions_size) (omega (arith, c.grant-asserted.auto.assertions, c.grant-asserted.ensures.0)) c.grant-asserted.ensures.1)
