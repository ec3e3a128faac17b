use lib.ListN.{take}
use Rattle.value_text.specs.Writing.{Written}
use Rattle.bring.specs.Counts.{counted}
use Rattle.bring.proofs.rewrite.put_counted.Given as goal

abbrev pub invariant-loop-b : goal.invariant-loop-b
invariant-loop-b l = Written l.initial.out l.at (counted (take l.b-index l.text)) l.p l.out
