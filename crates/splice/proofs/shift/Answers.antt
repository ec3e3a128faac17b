use mathlib.Core.Path.{◌≡◌, sym, ap, ap₂, ◌∙◌}
use mathlib.Core.List.{List, ◌++◌, map, append-nil}
use Prim.Native.Nat.{ℕ, ◌+◌, ◌-◌, ◌<◌}
use native.Mathlib.Omega.{arith}
use lib.ListN.{length, get_or, set, take, drop, drop_of_length-le}
use lib.Seq.{take_all, drop-drop}
use Rattle.std.proofs.lemmas.List.{length-take, get_or_default}
use Rattle.std.proofs.lemmas.List.Edits.{map_over_more, get_or-between}
use Rattle.text.specs.Parts.{part}
use Rattle.splice.specs.Splices.{shifted}
use Rattle.splice.proofs.Sliding.{shifted_none}
use Rattle.splice.proofs.Splicing.{mapped_at}
use Rattle.splice.proofs.shift.Goals as goal

pub returns-then-old-new : goal.returns-then-old-new
returns-then-old-new c =
    let a = c.args in
    sym (ap (shifted a.slots.now a.from a.to a.old) (sym c.if-old-new.true) ∙ shifted_none a.slots.now a.from a.to a.old (omega arith))

-- the slot at hand is as it was
module _ (items slots : List ℕ) (from to i old new : ℕ) (some : i < length (part slots from to)) (so_far : items ≡ map (λ x. x + new - old) (take i (part slots from to)) ++ drop i (part slots from to)) where
  inside : from + i < to
  inside = omega (arith, length-take (to - from) (drop from slots))

  here : get_or items i 0 ≡ get_or slots (from + i) 0
  here = ap (λ (m : List ℕ). get_or m i 0) so_far ∙ mapped_at (λ x. x + new - old) (part slots from to) i some ∙ get_or-between slots from to i 0 inside

pub overflow_sub-slot : goal.overflow_sub-slot
overflow_sub-slot c =
    let a = c.args in
    let l = c.loop-slot in
    let n = inside l.slot-items a.slots.now a.from a.to l.slot-index a.old a.new c.loop-slot-test.true l.invariant in
    omega (arith, here l.slot-items a.slots.now a.from a.to l.slot-index a.old a.new c.loop-slot-test.true l.invariant, c.requires.2 (a.from + l.slot-index) (omega arith) n)

pub overflow_add-slot : goal.overflow_add-slot
overflow_add-slot c =
    let a = c.args in
    let l = c.loop-slot in
    let n = inside l.slot-items a.slots.now a.from a.to l.slot-index a.old a.new c.loop-slot-test.true l.invariant in
    record { fits = omega (arith, here l.slot-items a.slots.now a.from a.to l.slot-index a.old a.new c.loop-slot-test.true l.invariant, c.requires.2 (a.from + l.slot-index) (omega arith) n) }

pub loop-slot-preserved : goal.loop-slot-preserved
loop-slot-preserved c =
    let a = c.args in
    let l = c.loop-slot in
    let n = inside l.slot-items a.slots.now a.from a.to l.slot-index a.old a.new c.loop-slot-test.true l.invariant in
    let x : ℕ = get_or l.slot-items l.slot-index 0 in
    let moved : x - a.old + a.new ≡ x + a.new - a.old = omega (arith, here l.slot-items a.slots.now a.from a.to l.slot-index a.old a.new c.loop-slot-test.true l.invariant, c.requires.2 (a.from + l.slot-index) (omega arith) n) in
    ap (set l.slot-items l.slot-index) moved
    ∙ map_over_more (λ (m : ℕ). m + a.new - a.old) (part a.slots.now a.from a.to) l.slot-items l.slot-index x c.loop-slot-test.true l.invariant (get_or_default l.slot-items l.slot-index 0 x (omega arith))

pub returns : goal.returns
returns c =
    let a = c.args in
    let l = c.loop-slot in
    let s = a.slots.now in
    let f : ℕ → ℕ = λ x. x + a.new - a.old in
    let whole = take_all l.slot-index (part s a.from a.to) c.loop-slot-test.false in
    let none = drop_of_length-le (part s a.from a.to) {i = l.slot-index} c.loop-slot-test.false in
    let done : l.slot-items ≡ map f (part s a.from a.to) = l.invariant ∙ ap₂ (λ (u v : List ℕ). map f u ++ v) whole none ∙ append-nil (map f (part s a.from a.to)) in
    let after : a.from + (a.to - a.from) ≡ a.to = omega arith in
    ap₂ (λ (u v : List ℕ). take a.from s ++ (u ++ v)) done (drop-drop (a.to - a.from) a.from s ∙ ap (λ (n : ℕ). drop n s) after)
