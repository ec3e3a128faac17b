use mathlib.Core.List.{map}
use native.Mathlib.Omega.{arith}
use Rattle.store.specs.Rows.{variable_row}
use Rattle.store.proofs.Holders.{variables_rows}
use Rattle.store.proofs.Places.{lies_here}
use Rattle.contents.proofs.Passwords.{value_there}
use Rattle.contents.proofs.value_of.Goals as goal

pub overflow_add-result : goal.overflow_add-result
overflow_add-result c =
    let l = lies_here c.requires.0 c.requires.1 c.nth-place.ensures in omega arith

pub returns : goal.returns
returns c vs W =
    let a = c.args in
    value_there vs a.text.now a.count a.slots.now W a.number c.requires.1 c.nth-place.result
    (c.nth-place.ensures (map variable_row vs) (variables_rows vs a.text.now a.count a.slots.now W))
