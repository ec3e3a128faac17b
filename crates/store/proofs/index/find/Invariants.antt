use mathlib.Core.List.{List}
use Prim.Native.Nat.{◌-◌, ◌≤◌}
use Rattle.store.specs.Rows.{Row, Rows}
use Rattle.store.proofs.Lookups.{Passed}
use Rattle.store.proofs.index.find.Given as goal

abbrev pub invariant-loop-k : goal.invariant-loop-k
invariant-loop-k l = (l.i ≤ l.count) × ((rows : List Row) → Rows rows l.text l.count l.slots → Passed rows l.name l.i)

abbrev pub decreases-loop-k : goal.decreases-loop-k
decreases-loop-k l = l.count - l.i
