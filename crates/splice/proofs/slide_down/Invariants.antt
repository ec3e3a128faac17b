use mathlib.Core.Path.{◌≡◌}
use Prim.Native.Nat.{◌-◌, ◌≤◌}
use lib.ListN.{length}
use Rattle.text.specs.Parts.{part}
use Rattle.splice.specs.Splices.{over}
use Rattle.splice.proofs.slide_down.Given as goal

abbrev pub invariant-loop-i : goal.invariant-loop-i
invariant-loop-i l = (l.from ≤ l.i) × (l.i ≤ l.len) × (l.buf ≡ over l.initial.buf l.to (part l.initial.buf l.from l.i)) × (length l.buf ≡ length l.initial.buf) × (length l.block ≡ 256)

abbrev pub decreases-loop-i : goal.decreases-loop-i
decreases-loop-i l = l.len - l.i
