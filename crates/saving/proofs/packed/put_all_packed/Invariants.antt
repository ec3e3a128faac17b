use lib.ListN.{take}
use Rattle.language.specs.Text.{joined}
use Rattle.language.specs.State.{Store}
use Rattle.language.specs.Encode.{assertion_text}
use Rattle.named_rights.specs.Numbers.{Standing}
use Rattle.value_text.specs.Writing.{Written}
use Rattle.saving.specs.Stores.{Named}
use Rattle.saving.proofs.packed.put_all_packed.Given as goal

abbrev pub invariant-loop-number : goal.invariant-loop-number
invariant-loop-number l = (s : Store) → Named s l.l l.principals l.principal_slots l.vars l.variable_slots → Standing s l.l.asserted l.assertions → Written l.initial.out l.at (joined assertion_text (take l.number-index s.assertions)) l.p l.out
