use mathlib.Core.List.{map}
use native.Mathlib.Omega.{arith}
use Rattle.store.specs.Rows.{principal_row}
use Rattle.store.proofs.Holders.{principals_rows}
use Rattle.store.proofs.Places.{lies_here}
use Rattle.contents.proofs.Passwords.{no_password, kept_password}
use Rattle.contents.proofs.password_of.Goals as goal

pub bounds-text-place : goal.bounds-text-place
bounds-text-place c =
    let l = lies_here c.requires.0 c.requires.1 c.nth-place.ensures in omega arith

pub returns-then-text-place-ne80 : goal.returns-then-text-place-ne80
returns-then-text-place-ne80 c ks K =
    let a = c.args in
    no_password ks a.text.now a.count a.slots.now K a.number c.requires.1 c.nth-place.result
    (c.nth-place.ensures (map principal_row ks) (principals_rows ks a.text.now a.count a.slots.now K)) c.if-text-place-ne80.true

pub overflow_add-start : goal.overflow_add-start
overflow_add-start c =
    let l = lies_here c.requires.0 c.requires.1 c.nth-place.ensures in omega arith

pub returns : goal.returns
returns c ks K =
    let a = c.args in
    kept_password ks a.text.now a.count a.slots.now K a.number c.requires.1 c.nth-place.result
    (c.nth-place.ensures (map principal_row ks) (principals_rows ks a.text.now a.count a.slots.now K)) c.if-text-place-ne80.false c.count_at-digits.result (c.count_at-digits.ensures.counted ks K)
