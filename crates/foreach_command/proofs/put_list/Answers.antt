-- `foreach_command::put_list` meets its contract. What is too heavy is FULL; else the new list is assigned.
-- Assumes nothing.
use mathlib.Core.Path.{◌≡◌, sym, subst}
use mathlib.Core.List.{List}
use native.Mathlib.Omega.{arith}
use lib.ListN.{take}
use lib.Seq.{length-take-le}
use Rattle.language.specs.Text.{Text}
use Rattle.language.specs.State.{Element, list}
use Rattle.language.specs.Outcomes.{Outcome}
use Rattle.language.specs.Values.{Session}
use Rattle.language.specs.Commands.{assign}
use Rattle.text.specs.Meaning.{part}
use Rattle.session.specs.Sessions.{Slices, slices, Running}
use Rattle.session.proofs.Weighed.{ends_full, ends_done}
use Rattle.assignment.specs.declared.Assigned.{Assigned}
use Rattle.assignment.specs.Assignments.{Assigns}
use Rattle.variable_text.specs.Puts.{Weighs}
use Rattle.foreach_piece.specs.Drafts.{AsList, Light, Drafted}
use Rattle.foreach_command.proofs.Weighing.{put_in, list_put, ends_heavy}
use borrow.Author.Rules.{rules}
use Rattle.foreach_command.proofs.put_list.Goals as goal

pub returns-then-weight-gt8192 : goal.returns-then-weight-gt8192
returns-then-weight-gt8192 c s k line o R D n e =
    let x-of : Text = part c.args.text.now c.args.x in
    ends_heavy s k x-of line o n e (D.heavy c.if-weight-gt8192.true)

pub slice_bounds-assign-count : goal.slice_bounds-assign-count
slice_bounds-assign-count c = omega (arith, c.requires.within.0.0, c.requires.within.0.1)

pub slice_bounds-assign-start : goal.slice_bounds-assign-start
slice_bounds-assign-start c = omega (arith, c.requires.within.0.0, c.requires.within.0.1)

pub slice_bounds-assign-end : goal.slice_bounds-assign-end
slice_bounds-assign-end c = omega (arith, c.requires.within.0.0, c.requires.within.0.1)

pub slice_bounds-assign-end-2 : goal.slice_bounds-assign-end-2
slice_bounds-assign-end-2 c = sym (length-take-le _ _ c.requires.within.2.drafted.within)

pub assign-put-requires : goal.assign-put-requires
assign-put-requires c =
    let light : (o : Outcome (List Element)) → Drafted AsList o c.args.new.now c.args.d → Light AsList o c.args.new.now c.args.d = λ o D. D.light c.if-weight-gt8192.false in
    let weighs : (o : Outcome (List Element)) (D : Drafted AsList o c.args.new.now c.args.d) → Weighs (list (light o D).result) (take c.args.d.len c.args.new.now) c.args.d.weight = λ o D. let L = light o D in record { held = L.held; weighs = L.weighs; light = c.if-weight-gt8192.false } in
    record {
      some_running = c.requires.some_running;
      t = (c.requires.within.1, record { value = list (light c.requires.within.2.outcome c.requires.within.2.drafted).result; is_value = weighs c.requires.within.2.outcome c.requires.within.2.drafted });
    }

pub returns-in_default : goal.returns-in_default
returns-in_default c s k line o R D n e =
    let x-of : Text = part c.args.text.now c.args.x in
    let light : (o : Outcome (List Element)) → Drafted AsList o c.args.new.now c.args.d → Light AsList o c.args.new.now c.args.d = λ o D. D.light c.if-weight-gt8192.false in
    let lent : Slices = let a = c.args in slices a.principals.now a.principal_slots.now a.vars.now a.variable_slots.now a.locals.now a.local_slots.now a.assertions.now in
    let weighs : (o : Outcome (List Element)) (D : Drafted AsList o c.args.new.now c.args.d) → Weighs (list (light o D).result) (take c.args.d.len c.args.new.now) c.args.d.weight = λ o D. let L = light o D in record { held = L.held; weighs = L.weighs; light = c.if-weight-gt8192.false } in
    let assigned : (s : Session) (o : Outcome (List Element)) (R : Running s c.args.l lent) (D : Drafted AsList o c.args.new.now c.args.d) (r : Assigned) → c.assign-put.result ≡ r → Assigns r (assign s x-of (list (light o D).result)) (slices c.args.principals.now c.args.principal_slots.now c.assign-put.new.vars c.assign-put.new.variable_slots c.assign-put.new.locals c.assign-put.new.local_slots c.assign-put.new.assertions) = λ s o R D r e. subst (λ (m : Assigned). Assigns m (assign s x-of (list (light o D).result))
    (slices c.args.principals.now c.args.principal_slots.now c.assign-put.new.vars c.assign-put.new.variable_slots c.assign-put.new.locals c.assign-put.new.local_slots c.assign-put.new.assertions)) e
    (c.assign-put.ensures s (list (light o D).result) R (weighs o D)) in
    let L = light o D in
    ends_full s k (put_in s x-of line L.result) n (list_put s k x-of line o n e L.result L.is_result) (assigned s o R D _ c.in_default.is)

pub returns : goal.returns
returns c s k line o R D n e =
    let x-of : Text = part c.args.text.now c.args.x in
    let light : (o : Outcome (List Element)) → Drafted AsList o c.args.new.now c.args.d → Light AsList o c.args.new.now c.args.d = λ o D. D.light c.if-weight-gt8192.false in
    let lent : Slices = let a = c.args in slices a.principals.now a.principal_slots.now a.vars.now a.variable_slots.now a.locals.now a.local_slots.now a.assertions.now in
    let weighs : (o : Outcome (List Element)) (D : Drafted AsList o c.args.new.now c.args.d) → Weighs (list (light o D).result) (take c.args.d.len c.args.new.now) c.args.d.weight = λ o D. let L = light o D in record { held = L.held; weighs = L.weighs; light = c.if-weight-gt8192.false } in
    let assigned : (s : Session) (o : Outcome (List Element)) (R : Running s c.args.l lent) (D : Drafted AsList o c.args.new.now c.args.d) (r : Assigned) → c.assign-put.result ≡ r → Assigns r (assign s x-of (list (light o D).result)) (slices c.args.principals.now c.args.principal_slots.now c.assign-put.new.vars c.assign-put.new.variable_slots c.assign-put.new.locals c.assign-put.new.local_slots c.assign-put.new.assertions) = λ s o R D r e. subst (λ (m : Assigned). Assigns m (assign s x-of (list (light o D).result))
    (slices c.args.principals.now c.args.principal_slots.now c.assign-put.new.vars c.assign-put.new.variable_slots c.assign-put.new.locals c.assign-put.new.local_slots c.assign-put.new.assertions)) e
    (c.assign-put.ensures s (list (light o D).result) R (weighs o D)) in
    let L = light o D in
    ends_done s k (put_in s x-of line L.result) n (list_put s k x-of line o n e L.result L.is_result) _ _ (assigned s o R D _ c.in-Done.is)
