use Prim.Native.Nat.{◌-◌, ◌≤◌}
use mathlib.Core.List.{List}
use lib.ListN.{length}
use Rattle.language.specs.State.{Field}
use Rattle.comparison.specs.Records.{HoldsRecord}
use Rattle.comparison.proofs.Comparing.{Left}
use Rattle.comparison.proofs.holds_lines.Given as goal

abbrev pub invariant-loop-at : goal.invariant-loop-at
invariant-loop-at l = (l.at ≤ length l.second) × ((fs gs : List Field) → HoldsRecord fs l.first → HoldsRecord gs l.second → Left l.second fs gs l.at)

abbrev pub decreases-loop-at : goal.decreases-loop-at
decreases-loop-at l = length l.second - l.at
