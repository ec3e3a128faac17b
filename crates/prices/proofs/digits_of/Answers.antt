-- `prices::digits_of` meets its contract. The loop's invariant: n and the digits that are left make the number, and n has at most one digit more than
-- bytes were passed.
-- Assumes nothing.
use mathlib.Core.Path.{◌∙◌}
use native.Mathlib.Omega.{arith}
use lib.ListN.{get_or}
use Rattle.prices.proofs.Readings.{digits_step, within_step, within_bound}
use Rattle.prices.proofs.digits_of.Goals as goal

pub with_digit-n-requires : goal.with_digit-n-requires
with_digit-n-requires c = within_bound c.loop-b.b-index c.loop-b.n (omega arith) c.loop-b.invariant.0

pub loop-b-preserved : goal.loop-b-preserved
loop-b-preserved c =
    let l = c.loop-b in
    let t = c.args.text.now in
    let b = get_or t l.b-index 0 in
    (rw c.with_digit-n.ensures (within_step l.b-index l.n b l.invariant.0), rw c.with_digit-n.ensures (l.invariant.1 ∙ digits_step l.n t l.b-index (omega arith)))
