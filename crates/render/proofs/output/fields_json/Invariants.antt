use mathlib.Core.Path.{◌≡◌}
use Prim.Native.Nat.{◌-◌, ◌≤◌}
use mathlib.Core.List.{List}
use lib.ListN.{length}
use Rattle.language.specs.Text.{Text}
use Rattle.language.specs.State.{Field}
use Rattle.values.specs.Places.{FieldsAt}
use Rattle.render.proofs.Rendering.{FieldsGoing}
use Rattle.render.proofs.output.fields_json.Given as goal

abbrev pub invariant-loop-moved : goal.invariant-loop-moved
invariant-loop-moved l = (l.moved.read ≤ length l.text) × (length l.out ≡ length l.initial.out) × ((fs : List Field) (rest : Text) → FieldsAt l.text l.at fs rest → FieldsGoing l.text l.at fs rest l.initial.out l.o l.moved.read l.moved.wrote l.sep l.out)

abbrev pub decreases-loop-moved : goal.decreases-loop-moved
decreases-loop-moved l = length l.text - l.moved.read
