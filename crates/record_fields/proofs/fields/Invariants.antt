use Prim.Native.Nat.{◌-◌, ◌≤◌}
use lib.ListN.{length}
use Rattle.record_fields.proofs.Labels.{Filling}
use Rattle.record_fields.proofs.fields.Given as goal

abbrev pub invariant-loop-at : goal.invariant-loop-at
invariant-loop-at l = (l.now ≤ 8193) × Filling l.text l.at l.w l.slots l.i l.n l.now

abbrev pub decreases-loop-at : goal.decreases-loop-at
decreases-loop-at l = length l.text - l.i
