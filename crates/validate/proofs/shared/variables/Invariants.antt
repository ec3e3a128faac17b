use Prim.Native.Nat.{◌-◌, ◌≤◌}
use lib.ListN.{length}
use Rattle.validate.proofs.Vars.{Sharing}
use Rattle.validate.proofs.shared.variables.Given as goal

abbrev pub invariant-loop-at : goal.invariant-loop-at
invariant-loop-at l = (l.now ≤ 8192) × Sharing l.text l.at l.w l.slots l.i l.n l.now

abbrev pub decreases-loop-at : goal.decreases-loop-at
decreases-loop-at l = length l.text - l.i
