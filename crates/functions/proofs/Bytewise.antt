-- A byte in small letters, a text byte by byte, and a text that is cut.
-- Assumes nothing.
use mathlib.Core.Path.{◌≡◌, sym, ap, ◌∙◌}
use Prim.Native.Nat.{ℕ, ◌+◌, ◌-◌, ◌≤◌, ◌<◌, min}
use Rattle.std.proofs.Common.{inl, inr, ◌⊎◌}
use Rattle.std.proofs.lemmas.Bool.{cases_lt}
use mathlib.Core.List.{[], ◌∷◌, ◌++◌, map, append-nil}
use native.Mathlib.Omega.{arith}
use lib.ListN.{length, get_or, take, drop, length-append, length-drop, drop_of_length-le, get_or-map}
use lib.Seq.{take_all}
use Rattle.language.specs.Text.{Text, bytes}
use Rattle.language.specs.Encode.{line_of, value_text}
use Rattle.language.specs.Functions.{lower_byte, cut}
use Rattle.value_text.specs.Writing.{Written, field_line}

-- the byte at a place
pub lower_at : (t : Text) (i : ℕ) → lower_byte (get_or t i 0) ≡ get_or (map lower_byte t) i 0
lower_at t i = sym (get_or-map lower_byte t i 0)

-- a text that is cut past its end is cut at its end
pub cut_past : (t : Text) (n k : ℕ) → length t ≡ k → k < n → (take k t ≡ take n t) × (drop k t ≡ drop n t)
cut_past t n k e h =
    (take_all k t (omega (arith, e)) ∙ sym (take_all n t (omega (arith, e, h))), drop_of_length-le t {i = k} (omega (arith, e)) ∙ sym (drop_of_length-le t {i = n} (omega (arith, e, h))))

-- cut at n, or at its end before it
cut_short : (t : Text) (n m : ℕ) → m ≡ min n (length t) → (take m t ≡ take n t) × (drop m t ≡ drop n t)
cut_short t n m e = go (cases_lt (length t) n)
  where
    go : (length t < n) ⊎ (n ≤ length t) → (take m t ≡ take n t) × (drop m t ≡ drop n t)
    go (inl h) = cut_past t n m (omega arith) (omega arith)
    go (inr h) = let q : m ≡ n = omega arith in (ap (λ (k : ℕ). take k t) q, ap (λ (k : ℕ). drop k t) q)

-- the rest of a text, as a part of it
pub rest_part : (t : Text) (k : ℕ) → take (length t - k) (drop k t) ≡ drop k t
rest_part t k = take_all (length t - k) (drop k t) (omega (arith, length-drop k t))

-- ---- a record of two fields

-- where a field's line ends
pub field_end : {a b : Text} {at r : ℕ} (x u : Text) → Written a at (field_line x u) r b → r ≡ at + (length x + length u + 4)
field_end x u W = omega (arith, W.ends, length-append x (9 ∷ (u ++ 10 ∷ [])), length-append u (10 ∷ []))

-- the lines of a text that is cut are those of its two parts
pub cut_lines : (t : Text) (n m : ℕ) (u v : Text) → m ≡ min n (length t) → u ≡ take m t → v ≡ drop m t
    → line_of (bytes "R" ∷ []) ++ (field_line (bytes "fst") u ++ field_line (bytes "snd") v) ≡ value_text (cut t n)
cut_lines t n m u v e f g =
    let s = cut_short t n m e in
    rw (f ∙ s.0, g ∙ s.1) (ap (λ (w : Text). line_of (bytes "R" ∷ []) ++ (field_line (bytes "fst") (take n t) ++ w)) (sym (append-nil (field_line (bytes "snd") (drop n t)))))
