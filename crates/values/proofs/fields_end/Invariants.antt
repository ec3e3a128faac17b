use Prim.Native.Nat.{◌-◌, ◌≤◌}
use mathlib.Core.List.{List}
use lib.ListN.{length}
use Rattle.language.specs.Text.{Text}
use Rattle.language.specs.State.{Field}
use Rattle.values.specs.Places.{FieldsAt}
use Rattle.values.proofs.Lines.{FieldsLeft}
use Rattle.values.proofs.fields_end.Given as goal

abbrev pub invariant-loop-i : goal.invariant-loop-i
invariant-loop-i l = (l.i ≤ length l.text) × ((fs : List Field) (rest : Text) → FieldsAt l.text l.at fs rest → FieldsLeft l.text l.at fs rest l.i)

abbrev pub decreases-loop-i : goal.decreases-loop-i
decreases-loop-i l = length l.text - l.i
