-- `extension::join` meets its contract. A local list of that name gets the elements; where there is none, a shared list does.
-- Assumes nothing.
use mathlib.Core.Path.{◌≡◌, sym, subst}
use mathlib.Core.List.{map, List, ◌++◌}
use native.Mathlib.Omega.{arith}
use lib.ListN.{take}
use lib.Seq.{length-take-le}
use Rattle.language.specs.State.{put, value_in, Element, list}
use Rattle.language.specs.Values.{Session}
use Prim.Native.Nat.{◌<◌}
use Rattle.language.specs.Weight.{limit}
use Rattle.language.specs.Commands.{assign, session_weight}
use Rattle.store.specs.Rows.{variable_row, place}
use Rattle.store.proofs.Holders.{variables_rows, some_variables}
use Rattle.session.specs.declared.Layout.{Layout}
use Rattle.session.specs.Sessions.{slices, Running}
use Rattle.variable_text.proofs.Weighing.{both_valid, put_full, put_done}
use Rattle.extension.proofs.Extending.{extend_adds, in_first, in_second}
use Rattle.extension.specs.Extensions.{added_by, Adds}
use Rattle.assignment.specs.Assignments.{Assigns}
use Rattle.assignment.proofs.Assigning.{there, not_there, there_below, locals_lie, local_full, local_done}
use Rattle.extension.proofs.join.Goals as goal

pub elements_of-more-requires : goal.elements_of-more-requires
elements_of-more-requires c = c.requires.t.1

pub slice_bounds-find-end-2 : goal.slice_bounds-find-end-2
slice_bounds-find-end-2 c = sym (length-take-le _ _ c.requires.some_list.running.locals_within)

pub find-requires : goal.find-requires
find-requires c =
    let a = c.args in
    some_variables c.requires.some_list.session.locals (take a.l.locals_len a.locals.now) a.l.locals a.local_slots.now c.requires.some_list.running.local_variables

pub slice_bounds-join_shared-count : goal.slice_bounds-join_shared-count
slice_bounds-join_shared-count c =
    let its_own : Adds c.requires.t.1.value c.args.value.now c.elements_of-more.result.from c.elements_of-more.result.weight = c.elements_of-more.ensures c.requires.t.1.value c.requires.t.1.is_value in
    omega (arith, its_own.within)

pub slice_bounds-join_shared-start : goal.slice_bounds-join_shared-start
slice_bounds-join_shared-start c =
    let its_own : Adds c.requires.t.1.value c.args.value.now c.elements_of-more.result.from c.elements_of-more.result.weight = c.elements_of-more.ensures c.requires.t.1.value c.requires.t.1.is_value in
    omega (arith, its_own.within)

pub slice_bounds-join_shared-end : goal.slice_bounds-join_shared-end
slice_bounds-join_shared-end c =
    let its_own : Adds c.requires.t.1.value c.args.value.now c.elements_of-more.result.from c.elements_of-more.result.weight = c.elements_of-more.ensures c.requires.t.1.value c.requires.t.1.is_value in
    omega (arith, its_own.within)

pub join_shared-requires : goal.join_shared-requires
join_shared-requires c =
    let looked-up : let a = c.args in (s : Session) → Running s a.l (slices a.principals.now a.principal_slots.now a.vars.now a.variable_slots.now a.locals.now a.local_slots.now a.assertions.now) → c.find.result ≡ place (map variable_row s.locals) a.name.now = λ s R. let a = c.args in
    c.find.ensures (map variable_row s.locals) (variables_rows s.locals (take a.l.locals_len a.locals.now) a.l.locals a.local_slots.now R.local_variables) in
    let its_own : Adds c.requires.t.1.value c.args.value.now c.elements_of-more.result.from c.elements_of-more.result.weight = c.elements_of-more.ensures c.requires.t.1.value c.requires.t.1.is_value in
    let a = c.args in
    let A = its_own in
    let n = not_there c.requires.some_list.session.locals (take a.l.locals_len a.locals.now) a.l.locals a.local_slots.now c.requires.some_list.running.local_variables a.name.now c.find.result (looked-up c.requires.some_list.session c.requires.some_list.running)
    c.in_default.is in (
      record {
        some_shared = record { session = c.requires.some_list.session; locals = a.locals.now; local_slots = a.local_slots.now; running = c.requires.some_list.running };
        elements = c.requires.some_list.elements;
        more = added_by c.requires.t.1.value;
        is_list = in_second (value_in c.requires.some_list.session.locals a.name.now) (value_in c.requires.some_list.session.store.variables a.name.now) n c.requires.some_list.is_list;
        extra = A.extra;
      },
      c.requires.t.0,
      A.small,
    )

pub returns-in_default : goal.returns-in_default
returns-in_default c s v es R i W =
    let looked-up : let a = c.args in (s : Session) → Running s a.l (slices a.principals.now a.principal_slots.now a.vars.now a.variable_slots.now a.locals.now a.local_slots.now a.assertions.now) → c.find.result ≡ place (map variable_row s.locals) a.name.now = λ s R. let a = c.args in
    c.find.ensures (map variable_row s.locals) (variables_rows s.locals (take a.l.locals_len a.locals.now) a.l.locals a.local_slots.now R.local_variables) in
    let a = c.args in
    let n = not_there s.locals (take a.l.locals_len a.locals.now) a.l.locals a.local_slots.now R.local_variables a.name.now c.find.result (looked-up s R) c.in_default.is in
    subst (λ (z : List Element). Assigns c.join_shared.result (assign s a.name.now (list z)) (slices a.principals.now a.principal_slots.now c.join_shared.new.vars c.join_shared.new.variable_slots a.locals.now a.local_slots.now a.assertions.now))
    (extend_adds es v) (c.join_shared.ensures s a.locals.now a.local_slots.now es (added_by v) R n (in_second (value_in s.locals a.name.now) (value_in s.store.variables a.name.now) n i) (c.elements_of-more.ensures v W).extra)

pub slice_bounds-extend-count : goal.slice_bounds-extend-count
slice_bounds-extend-count c =
    let its_own : Adds c.requires.t.1.value c.args.value.now c.elements_of-more.result.from c.elements_of-more.result.weight = c.elements_of-more.ensures c.requires.t.1.value c.requires.t.1.is_value in
    omega (arith, its_own.within)

pub slice_bounds-extend-start : goal.slice_bounds-extend-start
slice_bounds-extend-start c =
    let its_own : Adds c.requires.t.1.value c.args.value.now c.elements_of-more.result.from c.elements_of-more.result.weight = c.elements_of-more.ensures c.requires.t.1.value c.requires.t.1.is_value in
    omega (arith, its_own.within)

pub slice_bounds-extend-end : goal.slice_bounds-extend-end
slice_bounds-extend-end c =
    let its_own : Adds c.requires.t.1.value c.args.value.now c.elements_of-more.result.from c.elements_of-more.result.weight = c.elements_of-more.ensures c.requires.t.1.value c.requires.t.1.is_value in
    omega (arith, its_own.within)

pub extend-put-requires : goal.extend-put-requires
extend-put-requires c =
    let looked-up : let a = c.args in (s : Session) → Running s a.l (slices a.principals.now a.principal_slots.now a.vars.now a.variable_slots.now a.locals.now a.local_slots.now a.assertions.now) → c.find.result ≡ place (map variable_row s.locals) a.name.now = λ s R. let a = c.args in
    c.find.ensures (map variable_row s.locals) (variables_rows s.locals (take a.l.locals_len a.locals.now) a.l.locals a.local_slots.now R.local_variables) in
    let its_own : Adds c.requires.t.1.value c.args.value.now c.elements_of-more.result.from c.elements_of-more.result.weight = c.elements_of-more.ensures c.requires.t.1.value c.requires.t.1.is_value in
    let a = c.args in
    let A = its_own in
    let b = slices a.principals.now a.principal_slots.now a.vars.now a.variable_slots.now a.locals.now a.local_slots.now a.assertions.now in
    let q = looked-up c.requires.some_list.session c.requires.some_list.running in
    let t = take a.l.locals_len a.locals.now in
    let F = there c.requires.some_list.session.locals t a.l.locals a.local_slots.now c.requires.some_list.running.local_variables a.name.now c.find.result q c.in-Some.found.number c.in-Some.found.start c.in-Some.found.end c.in-Some.is in (
      record {
        variables = c.requires.some_list.session.locals;
        name = a.name.now;
        elements = c.requires.some_list.elements;
        more = added_by c.requires.t.1.value;
        lies = locals_lie c.requires.some_list.session a.l b c.requires.some_list.running;
        below = there_below c.requires.some_list.session.locals t a.l.locals a.local_slots.now c.requires.some_list.running.local_variables a.name.now c.find.result q c.in-Some.found.number c.in-Some.found.start c.in-Some.found.end c.in-Some.is;
        is_number = F.number;
        is_list = in_first (value_in c.requires.some_list.session.locals a.name.now) (value_in c.requires.some_list.session.store.variables a.name.now) F.is_value c.requires.some_list.is_list;
        extra = A.extra;
      },
      c.requires.some_list.running.light,
      A.small,
    )

pub returns-in_default-put : goal.returns-in_default-put
returns-in_default-put c s v es R i W =
    let looked-up : let a = c.args in (s : Session) → Running s a.l (slices a.principals.now a.principal_slots.now a.vars.now a.variable_slots.now a.locals.now a.local_slots.now a.assertions.now) → c.find.result ≡ place (map variable_row s.locals) a.name.now = λ s R. let a = c.args in
    c.find.ensures (map variable_row s.locals) (variables_rows s.locals (take a.l.locals_len a.locals.now) a.l.locals a.local_slots.now R.local_variables) in
    let a = c.args in
    let b = slices a.principals.now a.principal_slots.now a.vars.now a.variable_slots.now a.locals.now a.local_slots.now a.assertions.now in
    let t = take a.l.locals_len a.locals.now in
    let q = looked-up s R in
    let fs = added_by v in
    let X = (c.elements_of-more.ensures v W).extra in
    let k = there_below s.locals t a.l.locals a.local_slots.now R.local_variables a.name.now c.find.result q c.in-Some.found.number c.in-Some.found.start c.in-Some.found.end c.in-Some.is in
    let F = there s.locals t a.l.locals a.local_slots.now R.local_variables a.name.now c.find.result q c.in-Some.found.number c.in-Some.found.start c.in-Some.found.end c.in-Some.is in
    let j = in_first (value_in s.locals a.name.now) (value_in s.store.variables a.name.now) F.is_value i in
    let L = locals_lie s a.l b R in
    let h = both_valid L a.name.now c.in-Some.found.number k F.number es fs j _ _ X in
    subst (λ (z : List Element). limit < session_weight (assign s a.name.now (list z))) (extend_adds es v)
    (local_full s a.l b R a.name.now (list (es ++ fs)) h (list es) j
    (put_full s.locals (put a.name.now (list (es ++ fs)) s.locals) a.l.weight c.extend-put.result c.extend-put.new.buf a.l.locals c.extend-put.new.slots
    (c.extend-put.ensures s.locals a.name.now es fs L F.number j X) c.in_default-put.is))

pub returns : goal.returns
returns c s v es R i W =
    let looked-up : let a = c.args in (s : Session) → Running s a.l (slices a.principals.now a.principal_slots.now a.vars.now a.variable_slots.now a.locals.now a.local_slots.now a.assertions.now) → c.find.result ≡ place (map variable_row s.locals) a.name.now = λ s R. let a = c.args in
    c.find.ensures (map variable_row s.locals) (variables_rows s.locals (take a.l.locals_len a.locals.now) a.l.locals a.local_slots.now R.local_variables) in
    let a = c.args in
    let b = slices a.principals.now a.principal_slots.now a.vars.now a.variable_slots.now a.locals.now a.local_slots.now a.assertions.now in
    let t = take a.l.locals_len a.locals.now in
    let q = looked-up s R in
    let fs = added_by v in
    let X = (c.elements_of-more.ensures v W).extra in
    let k = there_below s.locals t a.l.locals a.local_slots.now R.local_variables a.name.now c.find.result q c.in-Some.found.number c.in-Some.found.start c.in-Some.found.end c.in-Some.is in
    let F = there s.locals t a.l.locals a.local_slots.now R.local_variables a.name.now c.find.result q c.in-Some.found.number c.in-Some.found.start c.in-Some.found.end c.in-Some.is in
    let j = in_first (value_in s.locals a.name.now) (value_in s.store.variables a.name.now) F.is_value i in
    let L = locals_lie s a.l b R in
    let h = both_valid L a.name.now c.in-Some.found.number k F.number es fs j _ _ X in
    subst (λ (z : List Element). Running (assign s a.name.now (list z)) c.with_locals.result (slices a.principals.now a.principal_slots.now a.vars.now a.variable_slots.now c.extend-put.new.buf c.extend-put.new.slots a.assertions.now)) (extend_adds es v)
    (subst (λ (k : Layout). Running (assign s a.name.now (list (es ++ fs))) k (slices a.principals.now a.principal_slots.now a.vars.now a.variable_slots.now c.extend-put.new.buf c.extend-put.new.slots a.assertions.now)) (sym c.with_locals.ensures)
    (local_done s a.l b R a.name.now (list (es ++ fs)) h (list es) j c.extend-put.new.buf c.extend-put.new.slots c.in-Done.n c.in-Done.w c.extend-put.auto.buf
    (put_done s.locals (put a.name.now (list (es ++ fs)) s.locals) a.l.weight c.extend-put.result c.extend-put.new.buf a.l.locals c.extend-put.new.slots
    (c.extend-put.ensures s.locals a.name.now es fs L F.number j X) c.in-Done.n c.in-Done.w c.in-Done.is)))
