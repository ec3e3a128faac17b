use Prim.Native.Nat.{◌-◌, ◌≤◌}
use lib.ListN.{length}
use Rattle.records.proofs.Values.{Listing}
use Rattle.records.proofs.elements.Given as goal

abbrev pub invariant-loop-slots : goal.invariant-loop-slots
invariant-loop-slots l = (l.now ≤ 8192) × Listing l.text l.at l.w l.i l.now

abbrev pub decreases-loop-slots : goal.decreases-loop-slots
decreases-loop-slots l = length l.text - l.i
