use mathlib.Core.Path.{◌≡◌}
use Prim.Native.Nat.{◌-◌, ◌≤◌}
use mathlib.Core.List.{List}
use lib.ListN.{length}
use Rattle.language.specs.State.{Element}
use Rattle.values.specs.Places.{Elements}
use Rattle.render.proofs.Elements.{ElementsGoing}
use Rattle.render.proofs.output.elements_json.Given as goal

abbrev pub invariant-loop-moved : goal.invariant-loop-moved
invariant-loop-moved l = (l.moved.read ≤ length l.text) × (length l.out ≡ length l.initial.out) × ((es : List Element) → Elements l.text l.at es → ElementsGoing l.text es l.initial.out l.o l.moved.read l.moved.wrote l.before l.out)

abbrev pub decreases-loop-moved : goal.decreases-loop-moved
decreases-loop-moved l = length l.text - l.moved.read
