use mathlib.Core.Path.{sym}
use mathlib.Core.List.{List, map}
use Prim.Native.Nat.{◌+◌, ◌-◌}
use native.Mathlib.Omega.{arith}
use lib.ListN.{take}
use lib.Seq.{length-take-le}
use Rattle.language.specs.State.{Principal}
use Rattle.store.specs.Held.{Principals}
use Rattle.store.specs.Rows.{principal_row, Placed}
use Rattle.store.specs.Contents.{principal_at}
use Rattle.store.proofs.Holders.{principals_rows, some_principals}
use Rattle.store.proofs.Places.{Lies, lies}
use Rattle.edits.specs.Changes.{passworded}
use Rattle.edits.proofs.Rewriting.{respelled_spot}
use Rattle.edits.proofs.PasswordChanges.{kept_respelled, kept_size, with_held}
use Rattle.edits.proofs.change.write_password.Goals as goal

pub slice_bounds-nth-end-2 : goal.slice_bounds-nth-end-2
slice_bounds-nth-end-2 c = sym (length-take-le _ _ c.requires.1)

pub nth-place-requires : goal.nth-place-requires
nth-place-requires c =
    let a = c.args in
    let S = c.requires.2 in
    (some_principals S.principals (take a.len a.buf.now) a.count a.slots.now S.held, S.below)

pub overflow_add-from : goal.overflow_add-from
overflow_add-from c =
    let placed : (ks : List Principal) → let a = c.args in Principals ks (take a.len a.buf.now) a.count a.slots.now → Placed (map principal_row ks) a.number c.nth-place.result = λ ks K. let a = c.args in c.nth-place.ensures (map principal_row ks) (principals_rows ks (take a.len a.buf.now) a.count a.slots.now K) in
    let safe : let a = c.args in Lies (take a.len a.buf.now) c.nth-place.result = let a = c.args in
    let S = c.requires.2 in
    let t = take a.len a.buf.now in
    lies (map principal_row S.principals) t a.count a.slots.now (principals_rows S.principals t a.count a.slots.now S.held) a.number S.below c.nth-place.result (placed S.principals S.held) in
    let l = safe in omega (arith, l.middle, l.last, c.requires.2.held.small)

pub slice_bounds-count_at-end-2 : goal.slice_bounds-count_at-end-2
slice_bounds-count_at-end-2 c = sym (length-take-le _ _ c.requires.1)

pub count_at-digits-requires : goal.count_at-digits-requires
count_at-digits-requires c =
    let a = c.args in
    let S = c.requires.2 in
    (some_principals S.principals (take a.len a.buf.now) a.count a.slots.now S.held, S.below)

pub rewrite-requires : goal.rewrite-requires
rewrite-requires c =
    let placed : (ks : List Principal) → let a = c.args in Principals ks (take a.len a.buf.now) a.count a.slots.now → Placed (map principal_row ks) a.number c.nth-place.result = λ ks K. let a = c.args in c.nth-place.ensures (map principal_row ks) (principals_rows ks (take a.len a.buf.now) a.count a.slots.now K) in
    let a = c.args in
    let p = c.requires in
    let S = p.2 in
    let t = take a.len a.buf.now in
    let P = placed S.principals S.held in
    let C = c.count_at-digits.ensures.counted S.principals S.held in
    let R = kept_respelled S.principals t a.count a.slots.now S.held a.number S.below c.nth-place.result P c.count_at-digits.result C S.old a.password.now S.kept in
    let z = kept_size S.principals t a.count a.slots.now S.held a.number S.below c.nth-place.result P c.count_at-digits.result C S.old a.password.now S.kept in (
      p.0,
      p.1,
      respelled_spot (map principal_row S.principals) t a.count a.slots.now (principals_rows S.principals t a.count a.slots.now S.held) a.number
          (c.nth-place.result.mid + 1) (c.count_at-digits.result - 1) a.password.now (principal_row (passworded a.password.now (principal_at S.principals a.number))) S.below R,
      omega (arith, z, S.fits, length-take-le a.len a.buf.now p.1),
    )

pub returns : goal.returns
returns c =
    let placed : (ks : List Principal) → let a = c.args in Principals ks (take a.len a.buf.now) a.count a.slots.now → Placed (map principal_row ks) a.number c.nth-place.result = λ ks K. let a = c.args in c.nth-place.ensures (map principal_row ks) (principals_rows ks (take a.len a.buf.now) a.count a.slots.now K) in
    let a = c.args in
    let t = take a.len a.buf.now in
    let k = c.requires.2.below in
    let w = a.password.now in record {
      outside = c.rewrite.ensures.outside;
      held = λ ks old K e.
          with_held ks t a.count a.slots.now K a.number k w (take c.rewrite.result c.rewrite.new.buf) c.rewrite.new.slots
          (c.rewrite.ensures.held (map principal_row ks) (principal_row (passworded w (principal_at ks a.number))) (principals_rows ks t a.count a.slots.now K)
          (kept_respelled ks t a.count a.slots.now K a.number k c.nth-place.result (placed ks K) c.count_at-digits.result (c.count_at-digits.ensures.counted ks K) old w e));
    }
