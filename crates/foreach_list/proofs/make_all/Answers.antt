-- `foreach_list::make_all` meets its contract. The elements are tried one after the other, and what a turn leaves is ready for the next.
-- Assumes nothing.
use mathlib.Core.Path.{refl, sym, ◌∙◌}
use native.Mathlib.Omega.{arith}
use Rattle.text.specs.Meaning.{part}
use Rattle.values.proofs.Listing.{stepped}
use Rattle.foreach_list.proofs.Looping.{reached_start, some_rest, some_so_far, reached_end, reached_over, light_element, reached_on, still, same_room}
use Rattle.foreach_list.proofs.make_all.Goals as goal

pub first_element-at-requires : goal.first_element-at-requires
first_element-at-requires c =
    let L = c.requires.some_list.0 in record { elements = L.elements; held = L.held }

pub start-requires : goal.start-requires
start-requires c = c.requires.some_list.2

pub loop-s-init : goal.loop-s-init
loop-s-init c =
    let a = c.args in
    let P = c.requires.some_list in (
      P.1,
      omega (arith, P.2, c.start.auto.out),
      λ s x es I h. (I, reached_start a.way s (part a.text.now a.y) x es a.elements.now _ _ _ (c.first_element-at.ensures es h) c.start.ensures),
      refl,
      refl,
      refl,
      refl,
      refl,
      refl,
      refl,
      refl,
      refl,
    )

pub next_element-requires : goal.next_element-requires
next_element-requires c =
    let T = c.requires.some_turning in
    let E = c.requires.some_list.0 in
    some_rest _ _ _ _ _ _ _ _ _ (c.loop-s.invariant.2 T.session T.expression E.elements T.turning E.held).1

pub returns : goal.returns
returns c s x es I h =
    let a = c.args in
    let k = c.loop-s in
    let q = k.invariant.2 s x es I h in
    let R = q.1 in (
      reached_end a.way s (part a.text.now a.y) x es a.elements.now k.at k.out k.so_far R (c.in_default.ensures R.rest R.here),
      q.0,
    )

pub slice_bounds-turn-count : goal.slice_bounds-turn-count
slice_bounds-turn-count c =
    let T = c.requires.some_turning in
    let E = c.requires.some_list.0 in
    let R = (c.loop-s.invariant.2 T.session T.expression E.elements T.turning E.held).1 in
    let N = stepped c.args.elements.now c.loop-s.at R.rest c.in-Some.s (c.in-Some.ensures R.rest R.here) in
    omega (arith, N.taken.within.0, N.taken.within.1)

pub slice_bounds-turn-start : goal.slice_bounds-turn-start
slice_bounds-turn-start c =
    let T = c.requires.some_turning in
    let E = c.requires.some_list.0 in
    let R = (c.loop-s.invariant.2 T.session T.expression E.elements T.turning E.held).1 in
    let N = stepped c.args.elements.now c.loop-s.at R.rest c.in-Some.s (c.in-Some.ensures R.rest R.here) in
    omega (arith, N.taken.within.0, N.taken.within.1)

pub slice_bounds-turn-end : goal.slice_bounds-turn-end
slice_bounds-turn-end c =
    let T = c.requires.some_turning in
    let E = c.requires.some_list.0 in
    let R = (c.loop-s.invariant.2 T.session T.expression E.elements T.turning E.held).1 in
    let N = stepped c.args.elements.now c.loop-s.at R.rest c.in-Some.s (c.in-Some.ensures R.rest R.here) in
    omega (arith, N.taken.within.0, N.taken.within.1)

pub turn-one-requires : goal.turn-one-requires
turn-one-requires c =
    let a = c.args in
    let L = c.loop-s in
    let T = c.requires.some_turning in
    let E = c.requires.some_list.0 in
    let q = L.invariant.2 T.session T.expression E.elements T.turning E.held in
    let R = q.1 in
    let N = stepped a.elements.now L.at R.rest c.in-Some.s (c.in-Some.ensures R.rest R.here) in record {
      some_turning = still T L.scope L.local_slots q.0 L.invariant.4;
      room = same_room a.e L.scope L.local_slots L.heads L.lens L.counts L.bounds c.requires.room L.invariant.3 L.invariant.4 L.invariant.5 L.invariant.6 L.invariant.7 L.invariant.8;
      some_element = (record { element = N.element; held = N.taken.held; light = light_element _ _ _ _ _ _ _ _ _ R c.in-Some.s N E.light }, L.invariant.0);
    }

pub join-so_far-requires : goal.join-so_far-requires
join-so_far-requires c =
    let L = c.loop-s in
    let T = c.requires.some_turning in
    let E = c.requires.some_list.0 in
    let q = L.invariant.2 T.session T.expression E.elements T.turning E.held in
    let R = q.1 in
    let N = stepped c.args.elements.now L.at R.rest c.in-Some.s (c.in-Some.ensures R.rest R.here) in (
      some_so_far _ _ _ _ _ _ _ _ _ R,
      record { session = T.session; names = _; outcome = _; made_of = (c.turn-one.ensures T.session T.expression N.element q.0 N.taken.held).0 },
      L.invariant.1,
    )

pub returns-then-is_over : goal.returns-then-is_over
returns-then-is_over c s x es I h =
    let a = c.args in
    let L = c.loop-s in
    let q = L.invariant.2 s x es I h in
    let R = q.1 in
    let N = stepped a.elements.now L.at R.rest c.in-Some.s (c.in-Some.ensures R.rest R.here) in
    let t = c.turn-one.ensures s x N.element q.0 N.taken.held in
    let M = reached_on a.way s (part a.text.now a.y) x es a.elements.now L.at L.out L.so_far R c.in-Some.s N c.join-so_far.new.out c.join-so_far.result (c.join-so_far.ensures s _ _ _ _ R.so_far t.0) in (
      reached_over a.way s (part a.text.now a.y) x es a.elements.now c.in-Some.s.end c.join-so_far.new.out c.join-so_far.result M a.known I.knows (sym c.is_over.ensures ∙ c.if-is_over.true),
      t.1,
    )

pub loop-s-smaller : goal.loop-s-smaller
loop-s-smaller c =
    let T = c.requires.some_turning in
    let E = c.requires.some_list.0 in
    let R = (c.loop-s.invariant.2 T.session T.expression E.elements T.turning E.held).1 in
    let N = stepped c.args.elements.now c.loop-s.at R.rest c.in-Some.s (c.in-Some.ensures R.rest R.here) in
    omega (arith, N.taken.within.0, N.taken.within.1, N.taken.ahead)

pub loop-s-preserved : goal.loop-s-preserved
loop-s-preserved c =
    let a = c.args in
    let L = c.loop-s in
    let t = c.turn-one in
    let j = c.join-so_far in (
      record { out_size = omega (arith, L.invariant.0.out_size, t.auto.out); slots_size = omega (arith, L.invariant.0.slots_size, t.auto.labels) },
      omega (arith, L.invariant.1, j.auto.out),
      λ s x es I h.
          let q = L.invariant.2 s x es I h in
          let R = q.1 in
          let N = stepped a.elements.now L.at R.rest c.in-Some.s (c.in-Some.ensures R.rest R.here) in
          let u = t.ensures s x N.element q.0 N.taken.held in
          (u.1, reached_on a.way s (part a.text.now a.y) x es a.elements.now L.at L.out L.so_far R c.in-Some.s N j.new.out j.result (j.ensures s _ _ _ _ R.so_far u.0)),
      omega (arith, L.invariant.3, t.auto.scope),
      omega (arith, L.invariant.4, t.auto.local_slots),
      omega (arith, L.invariant.5, t.auto.heads),
      omega (arith, L.invariant.6, t.auto.lens),
      omega (arith, L.invariant.7, t.auto.counts),
      omega (arith, L.invariant.8, t.auto.bounds),
      omega (arith, L.invariant.9, t.auto.out),
      omega (arith, L.invariant.10, j.auto.out),
      omega (arith, L.invariant.11, t.auto.labels),
    )
