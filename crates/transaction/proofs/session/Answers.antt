-- `transaction::session` meets its contract. What begins holds the session, and what is performed ends as defined.
-- Assumes nothing.
use mathlib.Core.Path.{sym, ap, ◌∙◌}
use mathlib.Core.List.{[]}
use lib.ListN.{replicate, length-replicate}
use Prim.Native.Nat.{ℕ, ◌-◌}
use native.Mathlib.Omega.{arith}
use Rattle.language.specs.Run.{tallied, run}
use Rattle.language.specs.Calls.{Buffers, end_reply}
use Rattle.opening.proofs.Checks.{checked_some_valid}
use Rattle.validate.proofs.States.{store_valid}
use Rattle.session.specs.Sessions.{Slices, slices, Running}
use Rattle.parser.specs.Bodies.{body_from}
use Rattle.outcome.specs.Ends.{end_on, Ends}
use Rattle.ending.specs.Endings.{end_or}
use Rattle.ending.proofs.Closings.{closed_tallied}
use Rattle.admission.proofs.Programs.{sent, opened}
use Rattle.transaction.specs.Admitted.{Admitted}
use Rattle.transaction.proofs.Programs.{commands_performed}
use Rattle.transaction.proofs.Replies.{end_reply_lem}
use borrow.Author.Rules.{rules}
use Rattle.transaction.proofs.session.Goals as goal

pub begin-start-requires : goal.begin-start-requires
begin-start-requires c =
    let g = c.args in record {
      some_valid = checked_some_valid g.state.now g.principal_slots.now g.variable_slots.now g.assertions.now g.parts c.requires.admitted.understood;
      sized = record {
        principals_size = length-replicate {A = ℕ} 11008 0;
        principal_slots_size = c.requires.principal_slots_len.0;
        vars_size = c.requires.state_len.1;
        variable_slots_size = c.requires.principal_slots_len.1;
        locals_size = length-replicate {A = ℕ} 32768 0;
        local_slots_size = length-replicate {A = ℕ} 4096 0;
        assertions_size = c.requires.principal_slots_len.2;
      };
    }

pub perform-performed-requires : goal.perform-performed-requires
perform-performed-requires c =
    let Known : Type 0 = let a = c.args in Admitted a.state.now a.principal_slots.now a.variable_slots.now a.assertions.now a.parts a.program.now a.sender a.at in
    let begun : Slices = let a = c.args in slices c.begin-start.new.principals a.principal_slots.now c.begin-start.new.vars a.variable_slots.now (replicate 32768 0) (replicate 4096 0) a.assertions.now in
    let begins : (a : Known) → Running (opened a.understood.state a.sent_by.opening) c.begin-start.result begun = λ a. c.begin-start.ensures a.understood.state (sent a.sent_by.opening []) a.understood.represents (store_valid a.understood) a.sent_by.logged_in a.sent_by.numbered in
    record {
      some_running = record { session = opened c.requires.admitted.understood.state c.requires.admitted.sent_by.opening; running = begins c.requires.admitted };
      value_len = (length-replicate {A = ℕ} 45056 0, length-replicate {A = ℕ} 4096 0);
      at_in_bounds = (c.requires.admitted.sent_by.placed, c.requires.admitted.sent_by.not_longer, c.requires.state_len.2);
    }

pub slice_bounds-settle-end : goal.slice_bounds-settle-end
slice_bounds-settle-end c = sym (c.perform-performed.auto.principals ∙ c.begin-start.auto.principals ∙ length-replicate {A = ℕ} 11008 0)

pub slice_bounds-settle-end-2 : goal.slice_bounds-settle-end-2
slice_bounds-settle-end-2 c = sym (c.perform-performed.auto.locals ∙ length-replicate {A = ℕ} 32768 0)

pub slice_bounds-settle-end-3 : goal.slice_bounds-settle-end-3
slice_bounds-settle-end-3 c = sym (c.perform-performed.auto.local_slots ∙ length-replicate {A = ℕ} 4096 0)

pub settle-requires : goal.settle-requires
settle-requires c =
    let Known : Type 0 = let a = c.args in Admitted a.state.now a.principal_slots.now a.variable_slots.now a.assertions.now a.parts a.program.now a.sender a.at in
    let left : Slices = slices c.perform-performed.new.principals c.perform-performed.new.principal_slots c.perform-performed.new.vars c.perform-performed.new.variable_slots c.perform-performed.new.locals c.perform-performed.new.local_slots c.perform-performed.new.assertions in
    let begun : Slices = let a = c.args in slices c.begin-start.new.principals a.principal_slots.now c.begin-start.new.vars a.variable_slots.now (replicate 32768 0) (replicate 4096 0) a.assertions.now in
    let begins : (a : Known) → Running (opened a.understood.state a.sent_by.opening) c.begin-start.result begun = λ a. c.begin-start.ensures a.understood.state (sent a.sent_by.opening []) a.understood.represents (store_valid a.understood) a.sent_by.logged_in a.sent_by.numbered in
    let ends : (a : Known) → Ends c.perform-performed.result a.sent_by.opening.sender (end_on (opened a.understood.state a.sent_by.opening) (body_from c.args.program.now c.args.at)) left c.args.output.now c.perform-performed.new.output = λ a. c.perform-performed.ensures (opened a.understood.state a.sent_by.opening) (begins a) in
    let g = c.args in record {
      some_end = record { sender = c.requires.admitted.sent_by.opening.sender; end = end_on (opened c.requires.admitted.understood.state c.requires.admitted.sent_by.opening) (body_from g.program.now g.at); before = g.output.now; ends = ends c.requires.admitted };
      work_len = (
        c.perform-performed.auto.vars ∙ c.begin-start.auto.vars ∙ c.requires.state_len.1,
        c.requires.state_len.0,
        c.perform-performed.auto.output ∙ c.requires.state_len.2,
        omega (arith, c.requires.admitted.understood.represents.used_within, c.requires.state_len.0),
        c.requires.admitted.understood.represents.rest_zero ∙ ap (λ (n : ℕ). replicate (n - g.parts.used) 0) c.requires.state_len.0,
      );
    }

pub shape_of-work : goal.shape_of-work
shape_of-work c = c.settle.auto.work ∙ c.perform-performed.auto.vars ∙ c.begin-start.auto.vars

pub returns : goal.returns
returns c a =
    let lent : Buffers = let a = c.args in record { state = a.state.now; work = a.work.now; output = a.output.now } in
    let Known : Type 0 = let a = c.args in Admitted a.state.now a.principal_slots.now a.variable_slots.now a.assertions.now a.parts a.program.now a.sender a.at in
    let left : Slices = slices c.perform-performed.new.principals c.perform-performed.new.principal_slots c.perform-performed.new.vars c.perform-performed.new.variable_slots c.perform-performed.new.locals c.perform-performed.new.local_slots c.perform-performed.new.assertions in
    let begun : Slices = let a = c.args in slices c.begin-start.new.principals a.principal_slots.now c.begin-start.new.vars a.variable_slots.now (replicate 32768 0) (replicate 4096 0) a.assertions.now in
    let begins : (a : Known) → Running (opened a.understood.state a.sent_by.opening) c.begin-start.result begun = λ a. c.begin-start.ensures a.understood.state (sent a.sent_by.opening []) a.understood.represents (store_valid a.understood) a.sent_by.logged_in a.sent_by.numbered in
    let ends : (a : Known) → Ends c.perform-performed.result a.sent_by.opening.sender (end_on (opened a.understood.state a.sent_by.opening) (body_from c.args.program.now c.args.at)) left c.args.output.now c.perform-performed.new.output = λ a. c.perform-performed.ensures (opened a.understood.state a.sent_by.opening) (begins a) in
    let g = c.args in
    let s = a.understood.state in
    let o = body_from g.program.now g.at in
    let e = end_on (opened s a.sent_by.opening) o in
    let q = a.sent_by.opening.sender in
    let S = c.settle.ensures q e c.args.output.now (ends a) in
    end_reply_lem lent (tallied q (end_or e)) _ _ _ _ (closed_tallied q (end_or e) S.0) S.1
    ∙ ap (end_reply lent) (sym (ap (run s) a.sent_by.parsed ∙ commands_performed s a.sent_by.opening o a.sent_by.logged_in))
