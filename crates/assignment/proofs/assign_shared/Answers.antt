-- `assignment::assign_shared` meets its contract. A shared variable of that name gets the value; where there is none, one is made.
-- Assumes nothing.
use mathlib.Core.Path.{◌≡◌, sym, subst}
use mathlib.Core.List.{List, map}
use Prim.Native.Nat.{ℕ}
use native.Mathlib.Omega.{arith}
use lib.ListN.{take}
use lib.Seq.{length-take-le}
use Rattle.language.specs.Text.{Text}
use Rattle.language.specs.State.{put}
use Rattle.language.specs.Values.{Session}
use Rattle.language.specs.Commands.{assign}
use Rattle.store.specs.Rows.{variable_row, place}
use Rattle.store.proofs.Holders.{variables_rows, some_variables}
use Rattle.session.specs.declared.Layout.{Layout}
use Rattle.session.specs.Sessions.{slices, Running}
use Rattle.variable_text.proofs.Weighing.{put_full, put_done}
use Rattle.assignment.proofs.Assigning.{there, not_there, there_below, shared_lie, shared_full, shared_done}
use Rattle.assignment.proofs.assign_shared.Goals as goal

pub slice_bounds-find-end-2 : goal.slice_bounds-find-end-2
slice_bounds-find-end-2 c = sym (length-take-le _ _ c.requires.0.running.vars_within)

pub find-requires : goal.find-requires
find-requires c =
    let a = c.args in
    let S = c.requires.0 in
    some_variables S.session.store.variables (take a.l.vars_len a.vars.now) a.l.vars a.variable_slots.now S.running.variables

pub make-requires : goal.make-requires
make-requires c =
    let looked-up : let a = c.args in (s : Session) (lo : Text) (lm : List ℕ) → Running s a.l (slices a.principals.now a.principal_slots.now a.vars.now a.variable_slots.now lo lm a.assertions.now) → c.find.result ≡ place (map variable_row s.store.variables) a.name.now = λ s lo lm R. let a = c.args in
    c.find.ensures (map variable_row s.store.variables) (variables_rows s.store.variables (take a.l.vars_len a.vars.now) a.l.vars a.variable_slots.now R.variables) in
    let a = c.args in
    let S = c.requires.0 in (
      record {
        some = S;
        is_new = not_there S.session.store.variables (take a.l.vars_len a.vars.now) a.l.vars a.variable_slots.now S.running.variables a.name.now c.find.result
            (looked-up S.session S.locals S.local_slots S.running) c.in_default.is;
      },
      c.requires.1,
      c.requires.2,
    )

pub returns-in_default : goal.returns-in_default
returns-in_default c s lo lm v R el W =
    let looked-up : let a = c.args in (s : Session) (lo : Text) (lm : List ℕ) → Running s a.l (slices a.principals.now a.principal_slots.now a.vars.now a.variable_slots.now lo lm a.assertions.now) → c.find.result ≡ place (map variable_row s.store.variables) a.name.now = λ s lo lm R. let a = c.args in
    c.find.ensures (map variable_row s.store.variables) (variables_rows s.store.variables (take a.l.vars_len a.vars.now) a.l.vars a.variable_slots.now R.variables) in
    let a = c.args in
    c.make.ensures s lo lm v R el
    (not_there s.store.variables (take a.l.vars_len a.vars.now) a.l.vars a.variable_slots.now R.variables a.name.now c.find.result (looked-up s lo lm R)
    c.in_default.is) W

pub replace-put-requires : goal.replace-put-requires
replace-put-requires c =
    let looked-up : let a = c.args in (s : Session) (lo : Text) (lm : List ℕ) → Running s a.l (slices a.principals.now a.principal_slots.now a.vars.now a.variable_slots.now lo lm a.assertions.now) → c.find.result ≡ place (map variable_row s.store.variables) a.name.now = λ s lo lm R. let a = c.args in
    c.find.ensures (map variable_row s.store.variables) (variables_rows s.store.variables (take a.l.vars_len a.vars.now) a.l.vars a.variable_slots.now R.variables) in
    let a = c.args in
    let S = c.requires.0 in
    let b = slices a.principals.now a.principal_slots.now a.vars.now a.variable_slots.now S.locals S.local_slots a.assertions.now in
    let q = looked-up S.session S.locals S.local_slots S.running in
    let t = take a.l.vars_len a.vars.now in (
      record {
        variables = S.session.store.variables;
        name = a.name.now;
        lies = shared_lie S.session a.l b S.running a.l.weight (omega arith);
        below = there_below S.session.store.variables t a.l.vars a.variable_slots.now S.running.variables a.name.now c.find.result q c.in-Some.found.number c.in-Some.found.start c.in-Some.found.end c.in-Some.is;
        is_number = (there S.session.store.variables t a.l.vars a.variable_slots.now S.running.variables a.name.now c.find.result q c.in-Some.found.number c.in-Some.found.start c.in-Some.found.end c.in-Some.is).number;
      },
      c.requires.2,
      S.running.light,
    )

pub returns-in_default-put : goal.returns-in_default-put
returns-in_default-put c s lo lm v R el W =
    let looked-up : let a = c.args in (s : Session) (lo : Text) (lm : List ℕ) → Running s a.l (slices a.principals.now a.principal_slots.now a.vars.now a.variable_slots.now lo lm a.assertions.now) → c.find.result ≡ place (map variable_row s.store.variables) a.name.now = λ s lo lm R. let a = c.args in
    c.find.ensures (map variable_row s.store.variables) (variables_rows s.store.variables (take a.l.vars_len a.vars.now) a.l.vars a.variable_slots.now R.variables) in
    let a = c.args in
    let b = slices a.principals.now a.principal_slots.now a.vars.now a.variable_slots.now lo lm a.assertions.now in
    let F = there s.store.variables (take a.l.vars_len a.vars.now) a.l.vars a.variable_slots.now R.variables a.name.now c.find.result (looked-up s lo lm R) c.in-Some.found.number c.in-Some.found.start c.in-Some.found.end c.in-Some.is in
    shared_full s a.l b R a.name.now v W.held.is_valid c.requires.1 el _ F.is_value
    (put_full s.store.variables (put a.name.now v s.store.variables) a.l.weight c.replace-put.result c.replace-put.new.buf a.l.vars c.replace-put.new.slots
    (c.replace-put.ensures s.store.variables a.name.now v (shared_lie s a.l b R a.l.weight (omega arith)) F.number W) c.in_default-put.is)

pub returns : goal.returns
returns c s lo lm v R el W =
    let looked-up : let a = c.args in (s : Session) (lo : Text) (lm : List ℕ) → Running s a.l (slices a.principals.now a.principal_slots.now a.vars.now a.variable_slots.now lo lm a.assertions.now) → c.find.result ≡ place (map variable_row s.store.variables) a.name.now = λ s lo lm R. let a = c.args in
    c.find.ensures (map variable_row s.store.variables) (variables_rows s.store.variables (take a.l.vars_len a.vars.now) a.l.vars a.variable_slots.now R.variables) in
    let a = c.args in
    let b = slices a.principals.now a.principal_slots.now a.vars.now a.variable_slots.now lo lm a.assertions.now in
    let F = there s.store.variables (take a.l.vars_len a.vars.now) a.l.vars a.variable_slots.now R.variables a.name.now c.find.result (looked-up s lo lm R) c.in-Some.found.number c.in-Some.found.start c.in-Some.found.end c.in-Some.is in
    subst (λ (k : Layout). Running (assign s a.name.now v) k (slices a.principals.now a.principal_slots.now c.replace-put.new.buf c.replace-put.new.slots lo lm a.assertions.now)) (sym c.with_shared.ensures)
    (shared_done s a.l b R a.name.now v W.held.is_valid c.requires.1 el _ F.is_value c.replace-put.new.buf c.replace-put.new.slots c.in-Done.n c.in-Done.w c.replace-put.auto.buf
    (put_done s.store.variables (put a.name.now v s.store.variables) a.l.weight c.replace-put.result c.replace-put.new.buf a.l.vars c.replace-put.new.slots
    (c.replace-put.ensures s.store.variables a.name.now v (shared_lie s a.l b R a.l.weight (omega arith)) F.number W) c.in-Done.n c.in-Done.w c.in-Done.is))
