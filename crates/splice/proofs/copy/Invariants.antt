use Rattle.std.proofs.Common.{◌≡◌}
use lib.Seq.{paste}
use Rattle.splice.proofs.copy.Given as goal

abbrev pub invariant-loop-i : goal.invariant-loop-i
invariant-loop-i g l = l.dst ≡ paste l.initial.dst l.at l.src l.i
