use mathlib.Core.Path.{◌≡◌, sym, ◌∙◌}
use mathlib.Core.List.{List, [], ◌∷◌, map}
use Prim.Native.Nat.{◌+◌, ◌≤◌, ◌<◌}
use native.Mathlib.Omega.{arith}
use lib.ListN.{length, take}
use lib.Seq.{length-take-le}
use Rattle.language.specs.State.{Principal}
use Rattle.store.specs.Held.{Principals}
use Rattle.store.specs.Rows.{principal_row, Placed}
use Rattle.store.specs.Contents.{principal_at}
use Rattle.store.proofs.Holders.{principals_rows, some_principals}
use Rattle.store.proofs.Places.{lies}
use Rattle.edits.proofs.Rewriting.{respelled_spot}
use Rattle.edits.proofs.PasswordChanges.{tabbed, bare_respelled, opened, store_outside}
use Rattle.edits.proofs.change.open_line.Goals as goal

pub slice_bounds-nth-end-2 : goal.slice_bounds-nth-end-2
slice_bounds-nth-end-2 c =
    let fits : c.args.len ≤ length c.args.buf.now = omega (arith, c.requires.1) in
    sym (length-take-le _ _ fits)

pub nth-place-requires : goal.nth-place-requires
nth-place-requires c =
    let a = c.args in
    let S = c.requires.2 in
    (some_principals S.principals (take a.len a.buf.now) a.count a.slots.now S.held, S.below)

pub rewrite-n-requires : goal.rewrite-n-requires
rewrite-n-requires c =
    let placed : (ks : List Principal) → let a = c.args in Principals ks (take a.len a.buf.now) a.count a.slots.now → Placed (map principal_row ks) a.number c.nth-place.result = λ ks K. let a = c.args in c.nth-place.ensures (map principal_row ks) (principals_rows ks (take a.len a.buf.now) a.count a.slots.now K) in
    let fits : c.args.len ≤ length c.args.buf.now = omega (arith, c.requires.1) in
    let safe : (c.nth-place.result.start < c.nth-place.result.mid) × (c.nth-place.result.mid ≤ c.args.len) = let a = c.args in
    let S = c.requires.2 in
    let t = take a.len a.buf.now in
    let l = lies (map principal_row S.principals) t a.count a.slots.now (principals_rows S.principals t a.count a.slots.now S.held) a.number S.below c.nth-place.result (placed S.principals S.held) in
    let n = length-take-le a.len a.buf.now fits in
    (omega (arith, l.first), omega (arith, l.middle, l.last, n)) in
    let a = c.args in
    let p = c.requires in
    let S = p.2 in
    let t = take a.len a.buf.now in
    let P = placed S.principals S.held in
    let R = bare_respelled S.principals t a.count a.slots.now S.held a.number S.below c.nth-place.result P S.bare in (
      p.0,
      fits,
      respelled_spot (map principal_row S.principals) t a.count a.slots.now (principals_rows S.principals t a.count a.slots.now S.held) a.number
          c.nth-place.result.mid c.nth-place.result.mid (9 ∷ []) (tabbed (principal_at S.principals a.number)) S.below R,
      omega (arith, safe, p.1),
    )

pub bounds-buf-start : goal.bounds-buf-start
bounds-buf-start c =
    let placed : (ks : List Principal) → let a = c.args in Principals ks (take a.len a.buf.now) a.count a.slots.now → Placed (map principal_row ks) a.number c.nth-place.result = λ ks K. let a = c.args in c.nth-place.ensures (map principal_row ks) (principals_rows ks (take a.len a.buf.now) a.count a.slots.now K) in
    let fits : c.args.len ≤ length c.args.buf.now = omega (arith, c.requires.1) in
    let safe : (c.nth-place.result.start < c.nth-place.result.mid) × (c.nth-place.result.mid ≤ c.args.len) = let a = c.args in
    let S = c.requires.2 in
    let t = take a.len a.buf.now in
    let l = lies (map principal_row S.principals) t a.count a.slots.now (principals_rows S.principals t a.count a.slots.now S.held) a.number S.below c.nth-place.result (placed S.principals S.held) in
    let n = length-take-le a.len a.buf.now fits in
    (omega (arith, l.first), omega (arith, l.middle, l.last, n)) in
    omega (arith, safe, c.requires.1, c.rewrite-n.auto.buf)

pub returns : goal.returns
returns c =
    let placed : (ks : List Principal) → let a = c.args in Principals ks (take a.len a.buf.now) a.count a.slots.now → Placed (map principal_row ks) a.number c.nth-place.result = λ ks K. let a = c.args in c.nth-place.ensures (map principal_row ks) (principals_rows ks (take a.len a.buf.now) a.count a.slots.now K) in
    let fits : c.args.len ≤ length c.args.buf.now = omega (arith, c.requires.1) in
    let safe : (c.nth-place.result.start < c.nth-place.result.mid) × (c.nth-place.result.mid ≤ c.args.len) = let a = c.args in
    let S = c.requires.2 in
    let t = take a.len a.buf.now in
    let l = lies (map principal_row S.principals) t a.count a.slots.now (principals_rows S.principals t a.count a.slots.now S.held) a.number S.below c.nth-place.result (placed S.principals S.held) in
    let n = length-take-le a.len a.buf.now fits in
    (omega (arith, l.first), omega (arith, l.middle, l.last, n)) in
    let a = c.args in
    let t = take a.len a.buf.now in
    let k = c.requires.2.below in
    let f = safe in
    let size : c.rewrite-n.result ≡ a.len + 1 = c.rewrite-n.ensures.size ∙ omega (arith, f) in record {
      size = size;
      outside = store_outside a.buf.now c.rewrite-n.new.buf c.rewrite-n.result a.slots.now c.rewrite-n.new.slots a.count c.nth-place.result.start 80 (omega (arith, f, size)) c.rewrite-n.ensures.outside;
      held = λ ks K e.
          opened ks t a.count a.slots.now K a.number k c.rewrite-n.new.buf c.rewrite-n.result c.nth-place.result.start c.rewrite-n.new.slots
          (c.rewrite-n.ensures.held (map principal_row ks) (tabbed (principal_at ks a.number)) (principals_rows ks t a.count a.slots.now K)
          (bare_respelled ks t a.count a.slots.now K a.number k c.nth-place.result (placed ks K) e))
          (placed ks K).starts (omega (arith, f, size));
    }
