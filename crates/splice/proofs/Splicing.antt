-- Copies into a list; numbers moved in place.
-- Assumes nothing.
use mathlib.Core.Path.{◌≡◌, refl, sym, ap, ◌∙◌}
use mathlib.Core.List.{List, [], ◌∷◌, ◌++◌, map, append_assoc}
use Prim.Native.Nat.{ℕ, suc, ◌+◌, ◌-◌, ◌≤◌, ◌<◌}
use native.Mathlib.Numerals.{add-one}
use native.Mathlib.Omega.{arith}
use lib.ListN.{length, get_or, set, take, drop, length-append, length-drop, length-map}
use lib.Seq.{paste, take-add, drop-drop, take_at, drop_at, drop-cons, get_or_at, length-take-le, take-length, set_split}
use Rattle.language.specs.Text.{Text}
use Rattle.splice.specs.Splices.{over}

pub paste_over : {X : Type 0} (d src : List X) (at : ℕ) → paste d at src (length src) ≡ over d at src
paste_over {X = X} d src at =
    append_assoc (take at d) (take (length src) src) (drop (at + length src) d)
    ∙ ap (λ (l : List X). take at d ++ (l ++ drop (at + length src) d)) (take-length src)

pub length_over : (d src : Text) (at : ℕ) → at + length src ≤ length d → length (over d at src) ≡ length d
length_over d src at h =
    omega (arith, length-append (take at d) (src ++ drop (at + length src) d), length-append src (drop (at + length src) d), length-take-le at d (omega arith), length-drop (at + length src) d)

-- a part by its length, and by its end
pub part_take : {A : Type 0} (l : List A) (s e : ℕ) → s ≤ e → s ≤ length l → take (e - s) (drop s l) ≡ drop s (take e l)
part_take l s e h k =
    let q : e ≡ s + (e - s) = omega arith in
    sym (ap (λ (n : ℕ). drop s (take n l)) q ∙ ap (drop s) (take-add s (e - s) l) ∙ drop_at (take s l) (take (e - s) (drop s l)) s (length-take-le s l k))

pub length_part : {A : Type 0} (l : List A) (s e : ℕ) → s ≤ e → e ≤ length l → length (take (e - s) (drop s l)) ≡ e - s
length_part l s e h k = length-take-le (e - s) (drop s l) (omega (arith, length-drop s l))

-- up to the end of what was written, and from there on
pub take_over : (d src : Text) (at : ℕ) → at ≤ length d → take (at + length src) (over d at src) ≡ take at d ++ src
take_over d src at h =
    ap (take (at + length src)) (sym (append_assoc (take at d) src (drop (at + length src) d)))
    ∙ take_at (take at d ++ src) (drop (at + length src) d) (at + length src) (omega (arith, length-append (take at d) src, length-take-le at d h))

pub drop_over : (d src : Text) (at : ℕ) → at ≤ length d → drop (at + length src) (over d at src) ≡ drop (at + length src) d
drop_over d src at h =
    ap (drop (at + length src)) (sym (append_assoc (take at d) src (drop (at + length src) d)))
    ∙ drop_at (take at d ++ src) (drop (at + length src) d) (at + length src) (omega (arith, length-append (take at d) src, length-take-le at d h))

-- one text written, and the next one after it
pub over_on : (d a b : Text) (at : ℕ) → at ≤ length d → over (over d at a) (at + length a) b ≡ over d at (a ++ b)
over_on d a b at h =
    let n : at + length a + length b ≡ at + length (a ++ b) = omega (arith, length-append a b) in
    let rest : drop (at + length a + length b) (over d at a) ≡ drop (at + length (a ++ b)) d =
    sym (drop-drop (length b) (at + length a) (over d at a)) ∙ ap (drop (length b)) (drop_over d a at h) ∙ drop-drop (length b) (at + length a) d ∙ ap (λ (j : ℕ). drop j d) n in
    (λ i. take_over d a at h i ++ (b ++ rest i))
    ∙ append_assoc (take at d) a (b ++ drop (at + length (a ++ b)) d)
    ∙ ap (λ (l : Text). take at d ++ l) (sym (append_assoc a b (drop (at + length (a ++ b)) d)))

-- a store is a text of one byte written
pub set_over : (d : Text) (i b : ℕ) → i < length d → set d i b ≡ over d i (b ∷ [])
set_over d i b h = set_split d i b h ∙ ap (λ (n : ℕ). take i d ++ (b ∷ drop n d)) (sym (add-one i))

-- what was written over the front of a list
pub over_front : (d src : Text) → take (length src) (over d 0 src) ≡ src
over_front d src = take_at src (drop (0 + length src) d) (length src) refl

-- ---- numbers moved in place

-- where the first i are done, the one at i is as it was
pub mapped_at : (f : ℕ → ℕ) (xs : List ℕ) (i : ℕ) → i < length xs → get_or (map f (take i xs) ++ drop i xs) i 0 ≡ get_or xs i 0
mapped_at f xs i h =
    ap (λ (r : List ℕ). get_or (map f (take i xs) ++ r) i 0) (drop-cons xs i 0 h)
    ∙ get_or_at (map f (take i xs)) (get_or xs i 0) (drop (suc i) xs) 0 i (length-map (take i xs) f ∙ length-take-le i xs (omega arith))
