use Rattle.std.proofs.Common.{◌-◌, length}
use Rattle.language.specs.Syntax.{Expr}
use Rattle.language.specs.Values.{Session}
use Rattle.permits.specs.Permits.{Sends}
use Rattle.permits.specs.Knowledge.{terms, Knows}
use Rattle.evaluate.specs.Drafts.{Lent}
use Rattle.lets.specs.Reaching.{texts, stack, Reached, Sized}
use Rattle.lets.specs.Giving.{Starts}
use Rattle.lets.proofs.answer.Given as goal

abbrev pub invariant-loop-further : goal.invariant-loop-further
invariant-loop-further l = record {
  sized : Sized (texts l.shared l.slots l.count l.scope l.local_slots) (stack l.heads l.lens l.counts l.bounds) l.len l.number;
  lent : Lent l.out l.labels;
  reached : (s : Session) (x : Expr) → Starts s x l.text (texts l.shared l.slots l.count l.initial.scope l.initial.local_slots) l.len l.number l.at
      → Sends s l.shared l.slots l.count l.assertions l.n l.principals l.sender → Knows l.fn.known s (terms x)
      → Reached s x l.text (texts l.shared l.slots l.count l.scope l.local_slots) (stack l.heads l.lens l.counts l.bounds) l.len l.number l.place;
}

abbrev pub decreases-loop-further : goal.decreases-loop-further
decreases-loop-further l = length l.text - l.place.p
