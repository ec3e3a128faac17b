use Rattle.std.proofs.Common.{drop}
use Rattle.frame.specs.Edges.{total}
use Rattle.frame.proofs.Limits.{Seen}
use Rattle.frame.proofs.zeros_from.Given as goal

abbrev pub invariant-loop-b : goal.invariant-loop-b
invariant-loop-b l = Seen l.seen (total l.rest) (total (drop l.b-index l.rest))
