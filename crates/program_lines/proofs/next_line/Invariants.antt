use mathlib.Core.Path.{◌≡◌}
use Prim.Native.Nat.{◌-◌, ◌≤◌}
use lib.ListN.{length}
use Rattle.program_lines.specs.Lines.{written_from}
use Rattle.program_lines.proofs.next_line.Given as goal

abbrev pub invariant-loop-n : goal.invariant-loop-n
invariant-loop-n l = (l.at ≤ l.p) × (l.p ≤ length l.text) × (written_from l.text l.at ≡ written_from l.text l.p)

abbrev pub decreases-loop-n : goal.decreases-loop-n
decreases-loop-n l = length l.text - l.p
