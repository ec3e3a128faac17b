use Rattle.std.proofs.Common.{◌≡◌, ◌+◌, ◌-◌, ◌++◌, map, take, drop}
use Rattle.splice.proofs.shift.Given as goal

abbrev pub invariant-loop-slot : goal.invariant-loop-slot
invariant-loop-slot l = l.slot-items ≡ map (λ x. x + l.new - l.old) (take l.slot-index l.initial.slot-items) ++ drop l.slot-index l.initial.slot-items
