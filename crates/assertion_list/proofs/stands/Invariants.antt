use mathlib.Core.Path.{◌≡◌}
use lib.ListN.{take}
use Rattle.assertion_list.specs.Asserting.{stands_in}
use Rattle.assertion_list.proofs.stands.Given as goal

abbrev pub invariant-loop-b : goal.invariant-loop-b
invariant-loop-b l = l.hit ≡ stands_in (take l.b-index l.list) l.a
