-- `transaction::start` meets its contract. A text that is refused at its login has one line; any other is run by its session.
-- Assumes nothing.
use Rattle.language.specs.Programs.{parse}
use Rattle.language.specs.Run.{run}
use Rattle.language.specs.Calls.{Buffers}
use Rattle.ending.proofs.Closings.{closed_refusal, kept}
use Rattle.transaction.proofs.Replies.{end_reply_lem}
use Rattle.transaction.proofs.start.Goals as goal

pub session-requires : goal.session-requires
session-requires c =
    let a = c.args in
    let u = c.requires.understood in
    record {
      admitted = record { understood = u; sent_by = c.in-Ok.ensures a.variable_slots.now a.assertions.now u.state u.represents };
      state_len = c.requires.state_len;
      principal_slots_len = c.requires.principal_slots_len;
    }

pub returns-in-Ok : goal.returns-in-Ok
returns-in-Ok c u =
    let a = c.args in
    c.session.ensures (record { understood = u; sent_by = c.in-Ok.ensures a.variable_slots.now a.assertions.now u.state u.represents })

pub returns-in-Err : goal.returns-in-Err
returns-in-Err c u =
    let a = c.args in
    let lent : Buffers = record { state = a.state.now; work = a.work.now; output = a.output.now } in
    let h = c.in-Err.ensures a.variable_slots.now a.assertions.now u.state u.represents in
    end_reply_lem lent (run u.state (parse a.program.now)) _ _ _ _ (closed_refusal c.refuse.ensures h) (kept c.refuse.ensures h a.state.now)
