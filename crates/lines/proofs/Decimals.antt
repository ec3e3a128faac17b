-- Laws of decimal numbers: the digits of a number, and the texts that are digits of a number.
-- Assumes nothing.
use mathlib.Core.Path.{◌≡◌, refl, sym, ap, subst, ◌∙◌}
use Prim.Native.Nat.{ℕ, zero, suc, ◌+◌, ◌*◌, ◌-◌, ◌/◌, ◌%◌, ◌≤◌, ◌<◌}
use native.Mathlib.Omega.{arith}
use native.Mathlib.Numerals.{add-one}
use mathlib.Core.Bool.{Bool, true, false}
use mathlib.Core.List.{[], ◌∷◌, ◌++◌}
use lib.Dec.{T, leb, leb→le, ltb, lit≤}
use lib.ListN.{length, get_or, drop, length-append, length-drop, get_or-append}
use lib.Seq.{drop-cons, length-take-le, get_or-take, get_or-drop}
use borrow.Author.Tests.{le-ltb, lt-ltb, ltb-false}
use Rattle.language.specs.Text.{Text, when◌then◌else◌, all, digits, decimal}
use Rattle.language.specs.Decode.{number}
use Rattle.language.proofs.Logic.Tests.{both, and}
use Rattle.language.proofs.StateText.Clean.{decimal_number, digits_length, number_append}
use Rattle.language.proofs.StateText.Digits.{decimal_digits}
use Rattle.lines.specs.Cuts.{is_digit, Field, Worth, Digits}
use Rattle.text.specs.Parts.{part}
use Rattle.lines.proofs.Cuts.{unique}

pub all_at : (p : ℕ → Bool) (w : Text) (i : ℕ) → i < length w → T (all p w) → T (p (get_or w i 0))
all_at p [] i l h = absurd (omega arith)
all_at p (b ∷ w) zero l h = (both (p b) (all p w) h).0
all_at p (b ∷ w) (suc i) l h = all_at p w i (omega arith) (both (p b) (all p w) h).1

pub digit_range : (b : ℕ) → T (is_digit b) → (48 ≤ b) × (b ≤ 57)
digit_range b h = let (l, u) = both (leb 48 b) (leb b 57) h in (leb→le 48 b l, leb→le b 57 u)

-- ---- the value of a text

pub number_grows : (n : ℕ) (t : Text) → n ≤ number n t
number_grows n [] = omega arith
number_grows n (b ∷ t) = let h : n * 10 + (b - 48) ≤ number (n * 10 + (b - 48)) t = number_grows (n * 10 + (b - 48)) t in omega arith

pub number_step : (n : ℕ) (w : Text) (i : ℕ) → i < length w → number n (drop i w) ≡ number (n * 10 + (get_or w i 0 - 48)) (drop (i + 1) w)
number_step n w i h = rw (add-one, drop-cons w i 0 h)

-- ---- the digits of a number

digits_some : (k n : ℕ) → 0 < length (digits k n)
digits_some zero n = lit≤ tt
digits_some (suc k) n = go (ltb n 10)
  where
    go : (c : Bool) → 0 < length (when c then (48 + n) ∷ [] else digits k (n / 10) ++ ((48 + n % 10) ∷ []))
    go true = lit≤ tt
    go false = omega (arith, length-append (digits k (n / 10)) ((48 + n % 10) ∷ []))

-- only zero begins with a zero
digits_zero : (k n : ℕ) → get_or (digits k n) 0 0 ≡ 48 → n ≡ 0
digits_zero zero n h = omega arith
digits_zero (suc k) n h = go (ltb n 10) refl (digits_zero k (n / 10)) h
  where
    go : (c : Bool) → ltb n 10 ≡ c → (get_or (digits k (n / 10)) 0 0 ≡ 48 → n / 10 ≡ 0)
        → get_or (when c then (48 + n) ∷ [] else digits k (n / 10) ++ ((48 + n % 10) ∷ [])) 0 0 ≡ 48 → n ≡ 0
    go true e ih g = omega arith
    go false e ih g =
        let m : n / 10 ≡ 0 = ih (sym (get_or-append (digits k (n / 10)) ((48 + n % 10) ∷ []) 0 0 (digits_some k (n / 10))) ∙ g) in
        let l : 10 ≤ n = ltb-false n 10 e in
        absurd (omega arith)

pub record Spelled (w : Text) : Type 0 where
  pub some : 0 < length w
  pub few : length w ≤ 10
  pub first : get_or w 0 0 ≡ 48 → length w ≡ 1

pub decimal_spelled : (n : ℕ) → Spelled (decimal n)
decimal_spelled n = record {
  some = digits_some 9 n;
  few = digits_length 9 n;
  first = λ h. ap (λ (k : ℕ). length (decimal k)) (digits_zero 9 n h);
}

-- ---- and back: a text that is spelled so is the digits of its value

cut_last : (b : ℕ) (w : Text) → (u : Text) × (c : ℕ) × (b ∷ w ≡ u ++ c ∷ [])
cut_last b [] = ([], b, refl)
cut_last b (d ∷ w) = let (u, c, e) = cut_last d w in (b ∷ u, c, ap (λ (l : Text). b ∷ l) e)

all_last : (p : ℕ → Bool) (u : Text) (c : ℕ) → T (all p (u ++ c ∷ [])) → T (all p u) × T (p c)
all_last p [] c h = (tt, (both (p c) true h).0)
all_last p (b ∷ u) c h =
    let (h₁, h₂) = both (p b) (all p (u ++ c ∷ [])) h in
    let (r, s) = all_last p u c h₂ in
    (and (p b) (all p u) h₁ r, s)

-- a text whose first digit is not zero is worth 1 at least
positive : (b : ℕ) (w : Text) → T (is_digit b) → (b ≡ 48 → ⊥) → 1 ≤ number 0 (b ∷ w)
positive b w h n =
    let (l, u) = digit_range b h in
    let g : 0 * 10 + (b - 48) ≤ number (0 * 10 + (b - 48)) w = number_grows (0 * 10 + (b - 48)) w in
    let m : 48 < b = elim_lt b l n in
    omega arith
  where
    elim_lt : (b : ℕ) → 48 ≤ b → (b ≡ 48 → ⊥) → 48 < b
    elim_lt b l n = omega arith

digits_back : (k : ℕ) (u : Text) (c : ℕ) → length u ≤ k → T (all is_digit (u ++ c ∷ [])) → (get_or (u ++ c ∷ []) 0 0 ≡ 48 → length (u ++ c ∷ []) ≡ 1)
    → digits k (number 0 (u ++ c ∷ [])) ≡ u ++ c ∷ []
digits_back zero [] c l h f = let (a, b) = digit_range c (both (is_digit c) true h).0 in ap (λ (x : ℕ). x ∷ []) (omega arith)
digits_back zero (b ∷ u) c l h f = absurd (omega arith)
digits_back (suc k) [] c l h f =
    let (a, b) = digit_range c (both (is_digit c) true h).0 in
    let e : ltb (0 * 10 + (c - 48)) 10 ≡ true = lt-ltb (0 * 10 + (c - 48)) 10 (omega arith) in
    let s : 48 + (0 * 10 + (c - 48)) ≡ c = omega arith in
    ap (λ (t : Bool). when t then (48 + (0 * 10 + (c - 48))) ∷ [] else digits k ((0 * 10 + (c - 48)) / 10) ++ ((48 + (0 * 10 + (c - 48)) % 10) ∷ [])) e
    ∙ ap (λ (x : ℕ). x ∷ []) s
digits_back (suc k) (b ∷ u) c l h f = go (cut_last b u) (λ v d l' h' f'. digits_back k v d l' h' f')
  where
    w : Text
    w = b ∷ u

    ds : T (all is_digit w) × T (is_digit c)
    ds = all_last is_digit (b ∷ u) c h

    not_zero : b ≡ 48 → ⊥
    not_zero e = let n : length ((b ∷ u) ++ c ∷ []) ≡ 1 = f e in omega (arith, n, length-append (b ∷ u) (c ∷ []))

    step : (n m d : ℕ) → n ≡ m * 10 + d → d < 10 → 1 ≤ m → digits k m ≡ w → 48 + d ≡ c → digits (suc k) n ≡ w ++ c ∷ []
    step n m d e ld lm ih s =
        let q : n / 10 ≡ m = omega arith in
        let r : n % 10 ≡ d = omega arith in
        let t : ltb n 10 ≡ false = le-ltb n 10 (omega arith) in
        ap (λ (x : Bool). when x then (48 + n) ∷ [] else digits k (n / 10) ++ ((48 + n % 10) ∷ [])) t
        ∙ ap (λ (x : ℕ). digits k x ++ ((48 + n % 10) ∷ [])) q
        ∙ ap (λ (y : Text). y ++ ((48 + n % 10) ∷ [])) ih
        ∙ ap (λ (x : ℕ). w ++ (48 + x) ∷ []) r
        ∙ ap (λ (x : ℕ). w ++ x ∷ []) s

    go : ((v : Text) × (d : ℕ) × (b ∷ u ≡ v ++ d ∷ []))
        → ((v : Text) (d : ℕ) → length v ≤ k → T (all is_digit (v ++ d ∷ [])) → (get_or (v ++ d ∷ []) 0 0 ≡ 48 → length (v ++ d ∷ []) ≡ 1) → digits k (number 0 (v ++ d ∷ [])) ≡ v ++ d ∷ [])
        → digits (suc k) (number 0 (w ++ c ∷ [])) ≡ w ++ c ∷ []
    go (v, d, e) back =
        let n : length (b ∷ u) ≡ length v + 1 = ap length e ∙ length-append v (d ∷ []) in
        let first : get_or (v ++ d ∷ []) 0 0 ≡ b = sym (ap (λ (y : Text). get_or y 0 0) e) in
        let ih : digits k (number 0 (v ++ d ∷ [])) ≡ v ++ d ∷ [] = back v d (omega arith) (subst (λ (y : Text). T (all is_digit y)) e ds.0) (λ z. absurd (not_zero (sym first ∙ z))) in
        let ih' : digits k (number 0 w) ≡ w = ap (λ (y : Text). digits k (number 0 y)) e ∙ ih ∙ sym e in
        let (x, y) = digit_range c ds.1 in
        let one : 1 ≤ number 0 w = positive b u (both (is_digit b) (all is_digit u) ds.0).0 not_zero in
        step (number 0 (w ++ c ∷ [])) (number 0 w) (c - 48) (number_append 0 c w) (omega arith) one ih' (omega arith)

pub decimal_back : (w : Text) → T (all is_digit w) → Spelled w → decimal (number 0 w) ≡ w
decimal_back [] h s = absurd (omega (arith, s.some))
decimal_back (b ∷ w) h s = go (cut_last b w)
  where
    go : ((u : Text) × (c : ℕ) × (b ∷ w ≡ u ++ c ∷ [])) → decimal (number 0 (b ∷ w)) ≡ b ∷ w
    go (u, c, e) =
        let n : length (b ∷ w) ≡ length u + 1 = ap length e ∙ length-append u (c ∷ []) in
        let f : get_or (u ++ c ∷ []) 0 0 ≡ 48 → length (u ++ c ∷ []) ≡ 1 = λ z. sym (ap length e) ∙ s.first (ap (λ (y : Text). get_or y 0 0) e ∙ z) in
        ap (λ (y : Text). decimal (number 0 y)) e ∙ digits_back 9 u c (omega (arith, s.few)) (subst (λ (y : Text). T (all is_digit y)) e h) f ∙ sym e

-- ---- a field of digits that ends the line

module _ (t : Text) (at e : ℕ) (f : Field (all is_digit) 10 t at e) where
  size : length (part t at e) ≡ e - at
  size =
      let h : length (drop at t) ≡ length t - at = length-drop at t in
      length-take-le (e - at) (drop at t) (omega (arith, f.low, f.high))

  first_byte_lem : 0 < e - at → get_or (part t at e) 0 0 ≡ get_or t at 0
  first_byte_lem h = get_or-take (e - at) (drop at t) 0 0 h ∙ get_or-drop at t 0 0 ∙ ap (λ (k : ℕ). get_or t k 0) (omega arith)

  pub one_decimal : (e ≡ at → ⊥) → e - at ≤ 10 → (get_or t at 0 ≡ 48 → e - at ≤ 1) → Spelled (part t at e)
  one_decimal n l z =
      let p : 0 < e - at = omega (arith, f.low, n) in
      record {
        some = omega (arith, size);
        few = omega (arith, size);
        first = λ g. let k : e - at ≤ 1 = z (sym (first_byte_lem p) ∙ g) in omega (arith, size);
      }

  -- every number that stands here has these digits
  pub not_decimal : (n : ℕ) (r : Text) → n ≤ 4294967295 → drop at t ≡ decimal n ++ 10 ∷ r
      → (((number 0 (part t at e) ≡ n) × (0 < e - at) × (e - at ≤ 10) × (get_or t at 0 ≡ 48 → e - at ≡ 1)) → ⊥) → ⊥
  not_decimal n r h d k =
      let o : part t at e ≡ decimal n = (unique is_digit 10 refl (part t at e) (decimal n) (drop (e + 1) t) r f.is_fine (decimal_digits n h) (sym f.here ∙ d)).0 in
      let s : Spelled (part t at e) = subst Spelled (sym o) (decimal_spelled n) in
      let p : 0 < e - at = omega (arith, size, s.some) in
      k (ap (number 0) o ∙ decimal_number n h, p, omega (arith, size, s.few), λ z. sym size ∙ s.first (first_byte_lem p ∙ z))

  pub is_decimal : Spelled (part t at e) → (n : ℕ) → Worth (part t at e) n → n ≤ 4294967295 → Digits t at n e
  is_decimal s n w l = record {
    low = f.low;
    high = f.high;
    bound = l;
    here = f.here ∙ ap (λ (y : Text). y ++ 10 ∷ drop (e + 1) t) (sym (decimal_back (part t at e) f.is_fine s) ∙ ap decimal (sym (w.exact l)));
  }

pub worth_much : {w : Text} {r : ℕ} → Worth w r → (n : ℕ) → n ≤ 4294967295 → number 0 w ≡ n → 4294967295 < r → ⊥
worth_much v n h e l = let k = v.large l in omega arith
