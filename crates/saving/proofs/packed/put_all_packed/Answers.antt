-- `saving::packed::put_all_packed` meets its contract. The loop's invariant: the lines of the assertions before this one are written.
-- Assumes nothing.
use native.Mathlib.Omega.{arith}
use Rattle.value_text.proofs.Pieces.{written_length}
use Rattle.saving.proofs.Lines.{assertion_at, assertion_at_lem, assertion_room, assertion_written}
use Rattle.saving.proofs.packed.put_all_packed.Goals as goal

pub put_packed-p-requires : goal.put_packed-p-requires
put_packed-p-requires c =
    let a = c.args in
    let P = c.requires in
    let l = c.loop-number in
    let w = l.invariant P.store P.names P.assertions in
    record {
      store = P.store;
      assertion = assertion_at P.store l.number-index;
      names = P.names;
      assertions = assertion_at_lem P.store a.l a.principals.now a.principal_slots.now a.vars.now a.variable_slots.now a.assertions.now P.names P.assertions l.number-index c.loop-number-test.true;
      room = omega (arith, written_length w, assertion_room P.store a.l a.principals.now a.principal_slots.now a.vars.now a.variable_slots.now a.assertions.now P.names P.assertions l.number-index c.loop-number-test.true a.out.now l.out a.at l.p w P.room);
    }

pub loop-number-preserved : goal.loop-number-preserved
loop-number-preserved c s N S =
    let a = c.args in
    let l = c.loop-number in
    assertion_written s a.l a.principals.now a.principal_slots.now a.vars.now a.variable_slots.now a.assertions.now N S l.number-index c.loop-number-test.true a.out.now l.out _ a.at l.p _
    (l.invariant s N S)
    (c.put_packed-p.ensures s (assertion_at s l.number-index) N (assertion_at_lem s a.l a.principals.now a.principal_slots.now a.vars.now a.variable_slots.now a.assertions.now N S l.number-index c.loop-number-test.true))
