-- A text's tail moved within its buffer, block by block, and what that and a copy leave of the text.
-- Assumes nothing.
use mathlib.Core.Path.{◌≡◌, refl, sym, ap, ◌∙◌}
use mathlib.Core.List.{List, [], ◌∷◌, ◌++◌, map, append_assoc}
use Prim.Native.Nat.{ℕ, ◌+◌, ◌-◌, ◌≤◌}
use native.Mathlib.Omega.{arith}
use lib.ListN.{length, take, drop, length-append, take-append-drop}
use lib.Seq.{take-add, take-take, drop-drop, take-append-le, drop_at, length-take-le}
use Rattle.language.specs.Text.{Text}
use Rattle.text.specs.Parts.{part}
use Rattle.splice.specs.Splices.{over, spliced, shifted}
use Rattle.splice.proofs.Splicing.{part_take, length_part, length_over, drop_over, over_on, over_front}

-- ---- before and behind what was written over

pub take_before : (d src : Text) (at n : ℕ) → n ≤ at → at ≤ length d → take n (over d at src) ≡ take n d
take_before d src at n h l =
    take-append-le n (take at d) (src ++ drop (at + length src) d) (omega (arith, length-take-le at d l)) ∙ take-take n at d h

pub part_before : (d src : Text) (at s e : ℕ) → s ≤ e → e ≤ at → at + length src ≤ length d → part (over d at src) s e ≡ part d s e
part_before d src at s e h k l =
    part_take (over d at src) s e h (omega (arith, length_over d src at l))
    ∙ ap (drop s) (take_before d src at e k (omega arith)) ∙ sym (part_take d s e h (omega arith))

pub part_behind : (d src : Text) (at s e : ℕ) → at + length src ≤ s → at ≤ length d → part (over d at src) s e ≡ part d s e
part_behind d src at s e h l =
    let n : ℕ = at + length src in
    let q : n + (s - n) ≡ s = omega arith in
    ap (take (e - s))
    (ap (λ (j : ℕ). drop j (over d at src)) (sym q) ∙ sym (drop-drop (s - n) n (over d at src)) ∙ ap (drop (s - n)) (drop_over d src at l)
    ∙ drop-drop (s - n) n d ∙ ap (λ (j : ℕ). drop j d) q)

-- one text written, and then the one before it
pub over_front_of : (d a b : Text) (at : ℕ) → at + length a ≤ length d → over (over d (at + length a) b) at a ≡ over d at (a ++ b)
over_front_of d a b at h =
    let n : ℕ = at + length a in
    let z : Text = drop (n + length b) d in
    let rest : drop n (over d n b) ≡ b ++ z = drop_at (take n d) (b ++ z) n (length-take-le n d h) in
    let e : n + length b ≡ at + length (a ++ b) = omega (arith, length-append a b) in
    (λ i. take_before d b n at (let q : at ≤ n = omega arith in q) h i ++ (a ++ rest i))
    ∙ ap (λ (l : Text). take at d ++ l) (sym (append_assoc a b z)) ∙ ap (λ (j : ℕ). take at d ++ ((a ++ b) ++ drop j d)) e

-- ---- parts side by side

pub part_on : (d : Text) (s m e : ℕ) → s ≤ m → m ≤ e → part d s m ++ part d m e ≡ part d s e
part_on d s m e h k =
    let q : e - s ≡ m - s + (e - m) = omega arith in
    let r : s + (m - s) ≡ m = omega arith in
    sym (ap (λ (n : ℕ). take n (drop s d)) q ∙ take-add (m - s) (e - m) (drop s d)
    ∙ ap (λ (l : Text). part d s m ++ take (e - m) l) (drop-drop (m - s) s d ∙ ap (λ (n : ℕ). drop n d) r))

pub part_none : (d : Text) (s : ℕ) → part d s s ≡ []
part_none d s = ap (λ (n : ℕ). take n (drop s d)) (let q : s - s ≡ 0 = omega arith in q)

pub over_none : (d : Text) (at : ℕ) → over d at [] ≡ d
over_none d at = ap (λ (n : ℕ). take at d ++ drop n d) (let q : at + 0 ≡ at = omega arith in q) ∙ take-append-drop at d

pub over_empty : (d : Text) (at s : ℕ) → over d at (part d s s) ≡ d
over_empty d at s = ap (over d at) (part_none d s) ∙ over_none d at

-- what stands before a part, the part, and what stands behind it
pub rejoined : (d : Text) (s e : ℕ) → s ≤ e → take s d ++ (part d s e ++ drop e d) ≡ d
rejoined d s e h =
    let q : e ≡ s + (e - s) = omega arith in
    ap (λ (n : ℕ). take s d ++ (part d s e ++ drop n d)) q
    ∙ ap (λ (l : Text). take s d ++ (part d s e ++ l)) (sym (drop-drop (e - s) s d))
    ∙ ap (λ (l : Text). take s d ++ l) (take-append-drop (e - s) (drop s d)) ∙ take-append-drop s d

pub over_same : (d : Text) (s e : ℕ) → s ≤ e → e ≤ length d → over d s (part d s e) ≡ d
over_same d s e h l =
    let q : s + length (part d s e) ≡ e = omega (arith, length_part d s e h l) in
    ap (λ (n : ℕ). take s d ++ (part d s e ++ drop n d)) q ∙ rejoined d s e h

-- ---- by blocks

-- what goes through a block comes out of it
pub through : (block src : Text) (n : ℕ) → length src ≡ n → take n (over block 0 src) ≡ src
through block src n e = ap (λ (j : ℕ). take j (over block 0 src)) (sym e) ∙ over_front block src

-- one block more moved down
module _ (d now : Text) (from to i e : ℕ) (h : to ≤ from) (k : from ≤ i) (m : i ≤ e) (l : e ≤ length d) (was : now ≡ over d to (part d from i)) where
  down_length : length (part d from i) ≡ i - from
  down_length = length_part d from i k (omega arith)

  down_same : part now i e ≡ part d i e
  down_same = ap (λ (t : Text). part t i e) was ∙ part_behind d (part d from i) to i e (omega (arith, down_length)) (omega arith)

  pub down_more : over now (i - (from - to)) (part now i e) ≡ over d to (part d from e)
  down_more =
      let at : i - (from - to) ≡ to + length (part d from i) = omega (arith, down_length) in
      ap (λ (x : Text). over now (i - (from - to)) x) down_same
      ∙ ap (λ (n : ℕ). over now n (part d i e)) at
      ∙ ap (λ (t : Text). over t (to + length (part d from i)) (part d i e)) was
      ∙ over_on d (part d from i) (part d i e) to (omega arith)
      ∙ ap (over d to) (part_on d from i e k m)

-- one block more moved up
module _ (d now : Text) (gap s i len : ℕ) (h : s ≤ i) (k : i ≤ len) (l : len + gap ≤ length d) (was : now ≡ over d (i + gap) (part d i len)) where
  up_same : part now s i ≡ part d s i
  up_same =
      ap (λ (t : Text). part t s i) was
      ∙ part_before d (part d i len) (i + gap) s i h (omega arith) (omega (arith, length_part d i len k (omega arith)))

  pub up_more : over now (s + gap) (part now s i) ≡ over d (s + gap) (part d s len)
  up_more =
      let at : i + gap ≡ s + gap + length (part d s i) = omega (arith, length_part d s i h (omega arith)) in
      ap (λ (x : Text). over now (s + gap) x) up_same
      ∙ ap (λ (t : Text). over t (s + gap) (part d s i)) (was ∙ ap (λ (n : ℕ). over d n (part d i len)) at)
      ∙ over_front_of d (part d s i) (part d i len) (s + gap) (omega (arith, at))
      ∙ ap (over d (s + gap)) (part_on d s i len h k)

-- ---- the tail moved, and src written before it

pub moved_and_written : (d src : Text) (len from to : ℕ) → from ≤ to → to ≤ len → len ≤ length d → from + length src + (len - to) ≤ length d
    → over (over d (from + length src) (part d to len)) from src ≡ spliced d len from to src
moved_and_written d src len from to h k l m =
    let tail : Text = part d to len in
    let e : from + length (src ++ tail) ≡ from + length src + (len - to) = omega (arith, length-append src tail, length_part d to len k l) in
    over_front_of d src tail from (omega arith)
    ∙ ap (λ (n : ℕ). take from d ++ ((src ++ tail) ++ drop n d)) e
    ∙ ap (λ (x : Text). take from d ++ x) (append_assoc src tail (drop (from + length src + (len - to)) d))

-- ---- slots of records that did not move

up_and_down : (n : ℕ) (m : List ℕ) → map (λ x. x + n - n) m ≡ m
up_and_down n [] = refl
up_and_down n (a ∷ m) = λ i. (let q : a + n - n ≡ a = omega arith in q) i ∷ up_and_down n m i

pub shifted_none : (slots : List ℕ) (from to n : ℕ) → from ≤ to → shifted slots from to n n ≡ slots
shifted_none slots from to n h =
    ap (λ (m : List ℕ). take from slots ++ (m ++ drop to slots)) (up_and_down n (part slots from to)) ∙ rejoined slots from to h
