use mathlib.Core.List.{List}
use Rattle.language.specs.Values.{Session}
use Rattle.lets.specs.Frames.{Frame}
use Rattle.lets.specs.Reaching.{texts}
use Rattle.lets.specs.Standing.{AllStanding}
use Rattle.lets.proofs.Sunken.{Sunk}
use Rattle.lets.proofs.sinking.sink.Given as goal

abbrev pub invariant-loop-d : goal.invariant-loop-d
invariant-loop-d l = (s : Session) (frames : List Frame) → AllStanding s frames l.text (texts l.shared l.slots l.count l.scope l.local_slots) l.heads l.lens l.counts l.depth → Sunk s frames l.text (texts l.shared l.slots l.count l.scope l.local_slots) l.heads l.lens l.counts l.d

abbrev pub decreases-loop-d : goal.decreases-loop-d
decreases-loop-d l = l.d
