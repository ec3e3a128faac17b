use Prim.Native.Nat.{◌-◌, ◌≤◌}
use lib.ListN.{length}
use Rattle.language.specs.State.{Value}
use Rattle.values.specs.Encoding.{Holds}
use Rattle.values.proofs.Searching.{Unseen}
use Rattle.values.proofs.field_in.Given as goal

abbrev pub invariant-loop-at : goal.invariant-loop-at
invariant-loop-at l = (l.at ≤ length l.text) × ((v : Value) → Holds v l.text → Unseen l.text l.label v l.at)

abbrev pub decreases-loop-at : goal.decreases-loop-at
decreases-loop-at l = length l.text - l.at
