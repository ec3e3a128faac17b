-- Laws of the first line and of the bytes after the last.
-- Assumes nothing.
use mathlib.Core.Path.{◌≡◌, refl, sym, ap, ◌∙◌}
use Prim.Native.Nat.{ℕ, zero, suc, ◌+◌, ◌≤◌, ◌<◌}
use native.Mathlib.Omega.{arith}
use mathlib.Core.Bool.{Bool, true, false}
use mathlib.Core.List.{[], ◌∷◌, ◌++◌, append_assoc}
use lib.Dec.{leb→le, le→leb}
use lib.ListN.{length, get_or, drop, replicate}
use Rattle.language.specs.Text.{Text, when◌then◌else◌, decimal}
use Rattle.language.specs.State.{last_count}
use Rattle.language.specs.Former.{former_head}
use Rattle.language.proofs.StateText.Clean.{decimal_number}
use Rattle.language.proofs.StateText.Digits.{decimal_digits}
use Rattle.language.specs.Decode.{number}
use Rattle.lines.specs.Cuts.{Digits, is_digit}
use Rattle.lines.proofs.Cuts.{unique}
use Rattle.record_fields.specs.Sections.{Reads, Fails, any_text}
use Rattle.record_fields.proofs.Opening.{twice, tail_of, byte_here}
use Rattle.frame.specs.Edges.{Top, top_text, fine_top, FormerTop, total}

-- ---- zero bytes

pub zero_bytes : (t : Text) → total t ≡ 0 → t ≡ replicate (length t) 0
zero_bytes [] h = refl
zero_bytes (b ∷ t) h =
    let z : b ≡ 0 = omega arith in
    let r : t ≡ replicate (length t) 0 = zero_bytes t (omega arith) in
    ap (λ (x : ℕ). x ∷ t) z ∙ ap (λ (x : Text). 0 ∷ x) r

pub bytes_zero : (n : ℕ) → total (replicate n 0) ≡ 0
bytes_zero zero = refl
bytes_zero (suc n) = let h = bytes_zero n in omega arith

-- of bytes that sum up to a, those left sum up to b: none of the others is over 0, or one is
abbrev pub Seen : Bool → ℕ → ℕ → Type 0
Seen false a b = a ≡ b
Seen true a b = 0 < a

-- ---- the letter of the first line

letter_of : Bool → ℕ
letter_of b = when b then 79 else 67

letter_low : (b : Bool) → 0 < letter_of b
unfolding letter_of
letter_low true = omega arith
letter_low false = omega arith

one_letter : (b c : Bool) → letter_of b ≡ letter_of c → b ≡ c
unfolding letter_of
one_letter true true e = refl
one_letter true false e = absurd (omega arith)
one_letter false true e = absurd (omega arith)
one_letter false false e = refl

-- ---- the former first line

top_text_lem : (b : Bool) (n : ℕ) (q : Text) → former_head b n ++ q ≡ letter_of b ∷ 9 ∷ (decimal n ++ 10 ∷ q)
unfolding letter_of
top_text_lem true n q = ap (λ (l : Text). 79 ∷ 9 ∷ l) (append_assoc (decimal n) (10 ∷ []) q)
top_text_lem false n q = ap (λ (l : Text). 67 ∷ 9 ∷ l) (append_assoc (decimal n) (10 ∷ []) q)

module _ (t : Text) where
  module _ (is-tab : get_or t 1 0 ≡ 9) where
    -- what follows the letter and the tab
    behind : (h : Top) (q : Text) → drop 0 t ≡ top_text h ++ q → (get_or t 0 0 ≡ letter_of h.is_open) × (drop 2 t ≡ decimal h.count ++ 10 ∷ q)
    behind h q d =
        let e = d ∙ top_text_lem h.is_open h.count q in
        let l : get_or t 0 0 ≡ letter_of h.is_open = byte_here t 0 _ e in
        (l, tail_of 9 9 _ _ (tail_of (letter_of h.is_open) (letter_of h.is_open) _ _ (sym (twice t 0 (letter_of h.is_open) 9 (letter_low h.is_open) (omega arith) l is-tab) ∙ e)))

    pub top_number : ((n : ℕ) (r : Text) → n ≤ last_count → drop 2 t ≡ decimal n ++ 10 ∷ r → ⊥) → Fails top_text fine_top any_text t 0
    top_number never h q f c d = never h.count q (leb→le h.count 4294967295 f) (behind h q d).1

    top_good : (b : Bool) (n e : ℕ) → get_or t 0 0 ≡ letter_of b → Digits t 2 n e → Reads top_text fine_top any_text t 0 (record { is_open = b; count = n }) (e + 1)
    top_good b n e l D = record {
      low = omega arith;
      high = omega (arith, D.high);
      is_fine = le→leb n 4294967295 D.bound;
      here = twice t 0 (letter_of b) 9 (letter_low b) (omega arith) l is-tab ∙ ap (λ (x : Text). letter_of b ∷ 9 ∷ x) D.here ∙ sym (top_text_lem b n (drop (e + 1) t));
      only = λ h q f c d.
          let (k, r) = behind h q d in
          let bound : h.count ≤ 4294967295 = leb→le h.count 4294967295 f in
          let (same, left) = unique is_digit 10 refl (decimal h.count) (decimal n) q (drop (e + 1) t) (decimal_digits h.count bound) (decimal_digits n D.bound) (sym r ∙ D.here) in
          let m : h.count ≡ n = sym (decimal_number h.count bound) ∙ ap (number 0) same ∙ decimal_number n D.bound in
          let o : h.is_open ≡ b = one_letter h.is_open b (sym k ∙ l) in
          (ap (λ (x : Bool). record { is_open = x; count = h.count }) o ∙ ap (λ (x : ℕ). record { is_open = b; count = x }) m, left);
    }

    pub top_open : (n e : ℕ) → get_or t 0 0 ≡ 79 → Digits t 2 n e → FormerTop t true (e + 1)
    unfolding letter_of
    top_open n e l D = record { count = n; reads = top_good true n e l D }

    pub top_closed : (n e : ℕ) → get_or t 0 0 ≡ 67 → Digits t 2 n e → FormerTop t false (e + 1)
    unfolding letter_of
    top_closed n e l D = record { count = n; reads = top_good false n e l D }
