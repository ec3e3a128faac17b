use Prim.Native.Nat.{◌-◌}
use lib.ListN.{length}
use Rattle.parser_c.proofs.Walking.{Going}
use Rattle.parser_c.proofs.list.Given as goal

abbrev pub invariant-loop-read : goal.invariant-loop-read
invariant-loop-read l = Going l.text l.at l.initial.kinds l.kinds l.p l.n

abbrev pub decreases-loop-read : goal.decreases-loop-read
decreases-loop-read l = length l.text - l.p
