use mathlib.Core.List.{List}
use Prim.Native.Nat.{◌-◌, ◌≤◌}
use lib.ListN.{length}
use Rattle.text.specs.Parts.{part}
use Rattle.store.specs.Rows.{Row, Rows, row_names}
use Rattle.assertion_lines.proofs.AssertionLists.{Asserting}
use Rattle.assertion_lines.proofs.assertions.Given as goal

abbrev pub invariant-loop-roll : goal.invariant-loop-roll
invariant-loop-roll l = (l.now ≤ 8192) × (l.i ≤ length l.text) × (l.n ≤ 2048) ×
    ((prows vrows : List Row) → Rows prows (part l.text l.roll.principals_from l.roll.principals_to) l.roll.principals l.principals → Rows vrows (part l.text l.roll.vars_from l.roll.vars_to) l.roll.vars l.vars → Asserting
    (row_names prows) (row_names vrows) l.text l.at l.w l.assertions l.i l.n l.now)

abbrev pub decreases-loop-roll : goal.decreases-loop-roll
decreases-loop-roll l = length l.text - l.i
