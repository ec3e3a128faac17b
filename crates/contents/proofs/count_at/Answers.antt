use mathlib.Core.List.{map}
use native.Mathlib.Omega.{arith}
use Rattle.store.specs.Rows.{principal_row}
use Rattle.store.proofs.Holders.{principals_rows}
use Rattle.store.proofs.Places.{lies_here}
use Rattle.contents.proofs.Passwords.{second_byte, count_there}
use Rattle.contents.proofs.count_at.Goals as goal

pub overflow_add-place : goal.overflow_add-place
overflow_add-place c =
    let l = lies_here c.requires.0 c.requires.1 c.nth-place.ensures in omega arith

pub last_tab-requires : goal.last_tab-requires
last_tab-requires c =
    let a = c.args in
    let S = c.requires.0 in
    let l = lies_here S c.requires.1 c.nth-place.ensures in (
      omega arith,
      omega arith,
      second_byte S.rows a.text.now a.count a.slots.now S.held a.number c.requires.1 c.nth-place.result (c.nth-place.ensures S.rows S.held),
    )

pub returns : goal.returns
returns c =
    let a = c.args in
    let l = lies_here c.requires.0 c.requires.1 c.nth-place.ensures in
    let L = c.last_tab.ensures in
    record {
      inside = (omega arith, omega arith);
      counted = λ ks K. count_there ks a.text.now a.count a.slots.now K a.number c.requires.1 c.nth-place.result
          (c.nth-place.ensures (map principal_row ks) (principals_rows ks a.text.now a.count a.slots.now K)) _ c.last_tab.result L;
    }
