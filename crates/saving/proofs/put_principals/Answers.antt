-- `saving::put_principals` meets its contract. Three pieces: the text up to the sender's count, the raised count, and the rest.
-- Assumes nothing.
use native.Mathlib.Omega.{arith}
use lib.Seq.{length-take-le}
use mathlib.Core.Path.{refl, sym}
use Rattle.value_text.proofs.Pieces.{◌▸◌, rewritten, written_length}
use Rattle.saving.proofs.Raising.{some_counted, sender_below, count_fits, start_inside, end_inside, tallied_text, tallied_size}
use borrow.Author.Rules.{rules}
use Rattle.saving.proofs.put_principals.Goals as goal

pub count_of-old-requires : goal.count_of-old-requires
count_of-old-requires c =
    let a = c.args in
    let P = c.requires in
    (some_counted P.store P.name a.l a.principals.now a.principal_slots.now P.sent, sender_below P.store P.name a.l a.principals.now a.principal_slots.now P.sent)

pub slice_bounds-copy_in-end : goal.slice_bounds-copy_in-end
slice_bounds-copy_in-end c =
    let a = c.args in
    let P = c.requires in
    sym (length-take-le _ _ (start_inside P.store P.name a.l a.principals.now a.principal_slots.now P.sent _ c.count_of-old.ensures))

pub copy_in-a-requires : goal.copy_in-a-requires
copy_in-a-requires c =
    let a = c.args in
    let P = c.requires in
    omega (arith, P.room, tallied_size P.store P.name a.l a.principals.now a.principal_slots.now P.sent _ c.count_of-old.ensures _ refl)

pub counted-more-requires : goal.counted-more-requires
counted-more-requires c =
    let a = c.args in
    let P = c.requires in
    count_fits P.store P.name a.l a.principals.now a.principal_slots.now P.sent _ c.count_of-old.ensures

pub put_decimal-b-requires : goal.put_decimal-b-requires
put_decimal-b-requires c =
    let a = c.args in
    let P = c.requires in
    let z = tallied_size P.store P.name a.l a.principals.now a.principal_slots.now P.sent _ c.count_of-old.ensures _ c.counted-more.ensures.0 in
    omega (arith, P.room, z, c.copy_in-a.ensures.ends, written_length c.copy_in-a.ensures)

pub slice_bounds-copy_in-count : goal.slice_bounds-copy_in-count
slice_bounds-copy_in-count c =
    let a = c.args in
    let P = c.requires in
    end_inside P.store P.name a.l a.principals.now a.principal_slots.now P.sent _ c.count_of-old.ensures

pub slice_bounds-copy_in-start : goal.slice_bounds-copy_in-start
slice_bounds-copy_in-start c =
    let a = c.args in
    let P = c.requires in
    end_inside P.store P.name a.l a.principals.now a.principal_slots.now P.sent _ c.count_of-old.ensures

pub copy_in-requires : goal.copy_in-requires
copy_in-requires c =
    let a = c.args in
    let P = c.requires in
    let z = tallied_size P.store P.name a.l a.principals.now a.principal_slots.now P.sent _ c.count_of-old.ensures _ c.counted-more.ensures.0 in
    omega (arith, P.room, z, c.copy_in-a.ensures.ends, written_length c.copy_in-a.ensures, c.put_decimal-b.ensures.ends, written_length c.put_decimal-b.ensures)

pub returns : goal.returns
returns c s p S =
    let a = c.args in
    rewritten (tallied_text s p a.l a.principals.now a.principal_slots.now S _ c.count_of-old.ensures _ c.counted-more.ensures.0)
    (c.copy_in-a.ensures ▸ c.put_decimal-b.ensures ▸ c.copy_in.ensures)
