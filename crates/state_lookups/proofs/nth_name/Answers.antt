use mathlib.Core.Path.{refl, sym, subst}
use Prim.Native.Nat.{◌+◌}
use native.Mathlib.Omega.{arith}
use Rattle.store.proofs.Places.{Lies, lies}
use Rattle.splice.proofs.Splicing.{length_part}
use Rattle.state_lookups.specs.Looks.{Look, Says}
use Rattle.state_lookups.proofs.Lookups.{name_gone, name_here}
use Rattle.state_lookups.proofs.nth_name.Goals as goal

pub returns-then-count-number : goal.returns-then-count-number
returns-then-count-number c rows H =
    let a = c.args in
    subst (λ (l : Look). Says l a.out.now a.out.now 4294967298) (sym (name_gone rows a.number (omega (arith, c.if-count-number.true, H.counted))))
    (record { number_is = refl; written = refl })

pub overflow_add-from : goal.overflow_add-from
overflow_add-from c =
    let safe : Lies c.args.text.now c.nth-place.result = let a = c.args in
    let p = c.requires.0 in
    lies p.rows a.text.now a.count a.slots.now p.held a.number c.if-count-number.false c.nth-place.result (c.nth-place.ensures p.rows p.held) in
    let l = safe in omega (arith, l.first, l.middle, l.last)

pub slice_bounds-write-count : goal.slice_bounds-write-count
slice_bounds-write-count c =
    let safe : Lies c.args.text.now c.nth-place.result = let a = c.args in
    let p = c.requires.0 in
    lies p.rows a.text.now a.count a.slots.now p.held a.number c.if-count-number.false c.nth-place.result (c.nth-place.ensures p.rows p.held) in
    let l = safe in omega (arith, l.first, l.middle, l.last)

pub slice_bounds-write-start : goal.slice_bounds-write-start
slice_bounds-write-start c =
    let safe : Lies c.args.text.now c.nth-place.result = let a = c.args in
    let p = c.requires.0 in
    lies p.rows a.text.now a.count a.slots.now p.held a.number c.if-count-number.false c.nth-place.result (c.nth-place.ensures p.rows p.held) in
    let l = safe in omega (arith, l.first, l.middle, l.last)

pub slice_bounds-write-end : goal.slice_bounds-write-end
slice_bounds-write-end c =
    let safe : Lies c.args.text.now c.nth-place.result = let a = c.args in
    let p = c.requires.0 in
    lies p.rows a.text.now a.count a.slots.now p.held a.number c.if-count-number.false c.nth-place.result (c.nth-place.ensures p.rows p.held) in
    let l = safe in omega (arith, l.first, l.middle, l.last)

pub write-requires : goal.write-requires
write-requires c =
    let safe : Lies c.args.text.now c.nth-place.result = let a = c.args in
    let p = c.requires.0 in
    lies p.rows a.text.now a.count a.slots.now p.held a.number c.if-count-number.false c.nth-place.result (c.nth-place.ensures p.rows p.held) in
    let p = c.requires in
    let l = safe in
    let n = length_part c.args.text.now (c.nth-place.result.start + 2) c.nth-place.result.mid l.first (omega (arith, l.middle, l.last)) in
    (omega (arith, c.if-count-number.false, p.1), omega (arith, n, l.middle, l.last, p.2), omega (arith, n, l.middle, l.last, p.2, p.3))

pub returns : goal.returns
returns c rows H =
    let a = c.args in
    subst (λ (l : Look). Says l a.out.now c.write.new.out c.write.result)
    (sym (name_here rows a.number a.text.now a.count a.slots.now H c.if-count-number.false c.nth-place.result (c.nth-place.ensures rows H)))
    c.write.ensures
