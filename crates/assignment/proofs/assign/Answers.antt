-- `assignment::assign` meets its contract. A local of that name gets the value; where there is none, a shared variable does.
-- Assumes nothing.
use mathlib.Core.Path.{◌≡◌, sym, subst}
use mathlib.Core.List.{map}
use lib.ListN.{take}
use lib.Seq.{length-take-le}
use Rattle.language.specs.State.{put}
use Rattle.language.specs.Values.{Session}
use Rattle.language.specs.Commands.{assign}
use Rattle.store.specs.Rows.{variable_row, place}
use Rattle.store.proofs.Holders.{variables_rows, some_variables}
use Rattle.session.specs.declared.Layout.{Layout}
use Rattle.session.specs.Sessions.{slices, Running}
use Rattle.variable_text.proofs.Weighing.{put_full, put_done}
use Rattle.assignment.proofs.Assigning.{there, not_there, there_below, locals_lie, local_full, local_done}
use Rattle.assignment.proofs.assign.Goals as goal

pub slice_bounds-find-end-2 : goal.slice_bounds-find-end-2
slice_bounds-find-end-2 c = sym (length-take-le _ _ c.requires.some_running.running.locals_within)

pub find-requires : goal.find-requires
find-requires c =
    let a = c.args in
    some_variables c.requires.some_running.session.locals (take a.l.locals_len a.locals.now) a.l.locals a.local_slots.now c.requires.some_running.running.local_variables

pub assign_shared-requires : goal.assign_shared-requires
assign_shared-requires c =
    let a = c.args in
    (record { session = c.requires.some_running.session; locals = a.locals.now; local_slots = a.local_slots.now; running = c.requires.some_running.running }, c.requires.t.0, c.requires.t.1)

pub returns-in_default : goal.returns-in_default
returns-in_default c s v R W =
    let looked-up : let a = c.args in (s : Session) → Running s a.l (slices a.principals.now a.principal_slots.now a.vars.now a.variable_slots.now a.locals.now a.local_slots.now a.assertions.now) → c.find.result ≡ place (map variable_row s.locals) a.name.now = λ s R. let a = c.args in
    c.find.ensures (map variable_row s.locals) (variables_rows s.locals (take a.l.locals_len a.locals.now) a.l.locals a.local_slots.now R.local_variables) in
    let a = c.args in
    c.assign_shared.ensures s a.locals.now a.local_slots.now v R
    (not_there s.locals (take a.l.locals_len a.locals.now) a.l.locals a.local_slots.now R.local_variables a.name.now c.find.result (looked-up s R)
    c.in_default.is) W

pub replace-put-requires : goal.replace-put-requires
replace-put-requires c =
    let looked-up : let a = c.args in (s : Session) → Running s a.l (slices a.principals.now a.principal_slots.now a.vars.now a.variable_slots.now a.locals.now a.local_slots.now a.assertions.now) → c.find.result ≡ place (map variable_row s.locals) a.name.now = λ s R. let a = c.args in
    c.find.ensures (map variable_row s.locals) (variables_rows s.locals (take a.l.locals_len a.locals.now) a.l.locals a.local_slots.now R.local_variables) in
    let a = c.args in
    let b = slices a.principals.now a.principal_slots.now a.vars.now a.variable_slots.now a.locals.now a.local_slots.now a.assertions.now in
    let q = looked-up c.requires.some_running.session c.requires.some_running.running in
    let t = take a.l.locals_len a.locals.now in (
      record {
        variables = c.requires.some_running.session.locals;
        name = a.name.now;
        lies = locals_lie c.requires.some_running.session a.l b c.requires.some_running.running;
        below = there_below c.requires.some_running.session.locals t a.l.locals a.local_slots.now c.requires.some_running.running.local_variables a.name.now c.find.result q c.in-Some.found.number c.in-Some.found.start c.in-Some.found.end c.in-Some.is;
        is_number = (there c.requires.some_running.session.locals t a.l.locals a.local_slots.now c.requires.some_running.running.local_variables a.name.now c.find.result q c.in-Some.found.number c.in-Some.found.start c.in-Some.found.end c.in-Some.is).number;
      },
      c.requires.t.1,
      c.requires.some_running.running.light,
    )

pub returns-in_default-put : goal.returns-in_default-put
returns-in_default-put c s v R W =
    let looked-up : let a = c.args in (s : Session) → Running s a.l (slices a.principals.now a.principal_slots.now a.vars.now a.variable_slots.now a.locals.now a.local_slots.now a.assertions.now) → c.find.result ≡ place (map variable_row s.locals) a.name.now = λ s R. let a = c.args in
    c.find.ensures (map variable_row s.locals) (variables_rows s.locals (take a.l.locals_len a.locals.now) a.l.locals a.local_slots.now R.local_variables) in
    let a = c.args in
    let b = slices a.principals.now a.principal_slots.now a.vars.now a.variable_slots.now a.locals.now a.local_slots.now a.assertions.now in
    let F = there s.locals (take a.l.locals_len a.locals.now) a.l.locals a.local_slots.now R.local_variables a.name.now c.find.result (looked-up s R) c.in-Some.found.number c.in-Some.found.start c.in-Some.found.end c.in-Some.is in
    local_full s a.l b R a.name.now v W.held.is_valid _ F.is_value
    (put_full s.locals (put a.name.now v s.locals) a.l.weight c.replace-put.result c.replace-put.new.buf a.l.locals c.replace-put.new.slots
    (c.replace-put.ensures s.locals a.name.now v (locals_lie s a.l b R) F.number W) c.in_default-put.is)

pub returns : goal.returns
returns c s v R W =
    let looked-up : let a = c.args in (s : Session) → Running s a.l (slices a.principals.now a.principal_slots.now a.vars.now a.variable_slots.now a.locals.now a.local_slots.now a.assertions.now) → c.find.result ≡ place (map variable_row s.locals) a.name.now = λ s R. let a = c.args in
    c.find.ensures (map variable_row s.locals) (variables_rows s.locals (take a.l.locals_len a.locals.now) a.l.locals a.local_slots.now R.local_variables) in
    let a = c.args in
    let b = slices a.principals.now a.principal_slots.now a.vars.now a.variable_slots.now a.locals.now a.local_slots.now a.assertions.now in
    let F = there s.locals (take a.l.locals_len a.locals.now) a.l.locals a.local_slots.now R.local_variables a.name.now c.find.result (looked-up s R) c.in-Some.found.number c.in-Some.found.start c.in-Some.found.end c.in-Some.is in
    subst (λ (k : Layout). Running (assign s a.name.now v) k (slices a.principals.now a.principal_slots.now a.vars.now a.variable_slots.now c.replace-put.new.buf c.replace-put.new.slots a.assertions.now)) (sym c.with_locals.ensures)
    (local_done s a.l b R a.name.now v W.held.is_valid _ F.is_value c.replace-put.new.buf c.replace-put.new.slots c.in-Done.n c.in-Done.w c.replace-put.auto.buf
    (put_done s.locals (put a.name.now v s.locals) a.l.weight c.replace-put.result c.replace-put.new.buf a.l.locals c.replace-put.new.slots
    (c.replace-put.ensures s.locals a.name.now v (locals_lie s a.l b R) F.number W) c.in-Done.n c.in-Done.w c.in-Done.is))
