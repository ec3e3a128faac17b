-- The loop of `foreach_list::make_all`: so_far is what became of the elements before at, and the others stand from there on. The measure is what is left of the list's text.
-- Assumes nothing.
use mathlib.Core.Path.{◌≡◌}
use Prim.Native.Nat.{◌-◌, ◌≤◌}
use mathlib.Core.List.{List}
use lib.ListN.{length}
use Rattle.language.specs.Syntax.{Expr}
use Rattle.language.specs.State.{Element, list}
use Rattle.language.specs.Values.{Session}
use Rattle.text.specs.Meaning.{part}
use Rattle.values.specs.Encoding.{Holds}
use Rattle.evaluate.specs.Drafts.{Lent}
use Rattle.lets.specs.Reaching.{texts}
use Rattle.foreach_element.specs.Turning.{Turning}
use Rattle.foreach_list.proofs.Looping.{Reached}
use Rattle.foreach_list.proofs.make_all.Given as goal

abbrev pub invariant-loop-s : goal.invariant-loop-s
invariant-loop-s l =
    Lent l.value l.labels × (32768 ≤ length l.out)
    × ((s : Session) (x : Expr) (es : List Element) → Turning s x l.text (texts l.shared l.slots l.count l.initial.scope l.initial.local_slots) l.len l.number l.y l.e l.assertions l.n l.principals l.sender l.known → Holds (list es) l.elements
    → Turning s x l.text (texts l.shared l.slots l.count l.scope l.local_slots) l.len l.number l.y l.e l.assertions l.n l.principals l.sender l.known × Reached l.way s (part l.text l.y) x es l.elements l.at l.out l.so_far)
    × (length l.scope ≡ length l.initial.scope) × (length l.local_slots ≡ length l.initial.local_slots) × (length l.heads ≡ length l.initial.heads) × (length l.lens ≡ length l.initial.lens)
    × (length l.counts ≡ length l.initial.counts) × (length l.bounds ≡ length l.initial.bounds) × (length l.value ≡ length l.initial.value) × (length l.out ≡ length l.initial.out)
    × (length l.labels ≡ length l.initial.labels)

abbrev pub decreases-loop-s : goal.decreases-loop-s
decreases-loop-s l = length l.elements - l.at
