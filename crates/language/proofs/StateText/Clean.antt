-- Identifiers, strings and numbers hold no tab, newline or zero byte; and a number's digits say the number.
use mathlib.Core.Path.{◌≡◌, refl, sym, ap, subst, ◌∙◌}
use mathlib.Core.Logic.{inl, inr}
use Prim.Native.Char.{Char, code}
use Prim.Native.Nat.{ℕ, zero, suc, ◌+◌, ◌*◌, ◌-◌, ◌/◌, ◌%◌, ◌≤◌, ◌<◌}
use native.Mathlib.Omega.{arith}
use mathlib.Core.Bool.{Bool, true, false, ◌&&◌, ◌||◌, not}
use mathlib.Core.List.{[], ◌∷◌, ◌++◌}
use lib.ListN.{length, length-append}
use lib.Dec.{T, T_not, not_T, eqb, eqb→eq, leb, leb→le, ltb, lit≤}
use Rattle.language.specs.Text.{Text, when◌then◌else◌, ◌≟◌, all, member, digits, decimal}
use Rattle.language.specs.Encode.{tab, newline as lineEnd}
use Rattle.language.specs.Bytes.{◌is◌, ◌∈◌, between, Class, letter, digit, space, newline, foreign, mark, marks, class, is_letter, in_word, in_string, word_byte, string_byte}
use Rattle.language.specs.Decode.{number}
use Rattle.language.specs.Identifiers.{is_string, base_keywords, price_keywords, keywords, is_word, is_identifier, is_name}
use Rattle.language.proofs.Logic.Tests.{both, and, one_of_lem, all_map, all_append, any_left}
use Rattle.language.proofs.StateText.Lines.{is_clean}
use Rattle.language.proofs.StateText.Digits.{Within, ten_digits}

-- ---- alphabets

-- the classes of the bytes from 32 on
abbrev is_visible : Class → Bool
is_visible letter = true
is_visible digit = true
is_visible space = true
is_visible newline = false
is_visible foreign = false
is_visible (mark b) = true

between_low : (c d : Char) (b : ℕ) → 32 ≤ code c → T (between c d b) → 32 ≤ b
between_low c d b h t =
    let k : code c ≤ b = leb→le (code c) b (both (leb (code c) b) (leb b (code d)) t).0 in
    omega arith

one_low : (l : Text) → T (all (leb 32) l) → (b : ℕ) → T (b ∈ l) → 32 ≤ b
one_low [] h b t = absurd t
one_low (c ∷ l) h b t =
    let (h₁, h₂) = both (leb 32 c) (all (leb 32) l) h in
    elim (one_of_lem (eqb b c) (b ∈ l) t) [
      | inl u ↦ subst (λ y. 32 ≤ y) (sym (eqb→eq b c u)) (leb→le 32 c h₁)
      | inr u ↦ one_low l h₂ b u
    ]

visible_low : (b : ℕ) → T (is_visible (class b)) → 32 ≤ b
visible_low b t = go (between "a" "z" b || between "A" "Z" b) (between "0" "9" b) (b is " ") (b is "\n") (b ∈ marks)
    (λ u. elim (one_of_lem (between "a" "z" b) (between "A" "Z" b) u) [
      | inl v ↦ between_low "a" "z" b (lit≤ tt) v
      | inr v ↦ between_low "A" "Z" b (lit≤ tt) v
    ])
    (between_low "0" "9" b (lit≤ tt)) (λ u. subst (λ y. 32 ≤ y) (sym (eqb→eq b 32 u)) (lit≤ tt)) (one_low marks tt b) t
  where
    go : (l d s n m : Bool) → (T l → 32 ≤ b) → (T d → 32 ≤ b) → (T s → 32 ≤ b) → (T m → 32 ≤ b)
        → T (is_visible (when l then letter else when d then digit else when s then space else when n then newline else when m then mark b else foreign)) → 32 ≤ b
    go true d s n m hl hd hs hm t = hl tt
    go false true s n m hl hd hs hm t = hd tt
    go false false true n m hl hd hs hm t = hs tt
    go false false false true m hl hd hs hm t = absurd t
    go false false false false true hl hd hs hm t = hm tt
    go false false false false false hl hd hs hm t = absurd t

string_low : (b : ℕ) → T (string_byte b) → 32 ≤ b
string_low b t = visible_low b (go (class b) t)
  where
    go : (c : Class) → T (in_string c) → T (is_visible c)
    go letter t = tt
    go digit t = tt
    go space t = tt
    go newline t = t
    go foreign t = t
    go (mark m) t = tt

word_low : (b : ℕ) → T (word_byte b) → 32 ≤ b
word_low b t = visible_low b (go (class b) t)
  where
    go : (c : Class) → T (in_word c) → T (is_visible c)
    go letter t = tt
    go digit t = tt
    go space t = absurd t
    go newline t = t
    go foreign t = t
    go (mark m) t = tt

pub letter_word : (c : Class) → T (is_letter c) → T (in_word c)
letter_word letter t = tt
letter_word digit t = absurd t
letter_word space t = absurd t
letter_word newline t = absurd t
letter_word foreign t = absurd t
letter_word (mark m) t = absurd t

not_low : (m b : ℕ) → m < 32 → 32 ≤ b → T (not (eqb b m))
not_low m b h k = not_T (eqb b m) (λ t. differ (eqb→eq b m t))
  where
    differ : b ≡ m → ⊥
    differ e = omega arith

low_clean : (b : ℕ) → 32 ≤ b → T (not (eqb b tab) && not (eqb b lineEnd))
low_clean b h = and (not (eqb b tab)) (not (eqb b lineEnd)) (not_low 9 b (lit≤ tt) h) (not_low 10 b (lit≤ tt) h)

pub string_clean : (t : Text) → T (is_string t) → T (is_clean t)
string_clean = all_map _ _ (λ b h. low_clean b (string_low b h))

-- what a program may write as a name a state text may hold
pub identifier_name : (t : Text) → T (is_identifier t) → T (is_name t)
identifier_name t h =
    let (h₁, h₂) = both (is_word t && leb (length t) 255) (not (member t keywords)) h in
    and (is_word t && leb (length t) 255) (not (member t base_keywords)) h₁ (not_T (member t base_keywords) (λ m. T_not (member t keywords) h₂ (any_left (λ u. t ≟ u) base_keywords price_keywords m)))

pub name_clean : (t : Text) → T (is_name t) → T (is_clean t)
name_clean [] h = tt
name_clean (b ∷ t) h =
    let (h₁, h₂) = both (is_word (b ∷ t) && leb (length (b ∷ t)) 255) (not (member (b ∷ t) base_keywords)) h in
    let (w, l) = both (is_word (b ∷ t)) (leb (length (b ∷ t)) 255) h₁ in
    let (w₁, w₂) = both (is_letter (class b)) (all word_byte t) w in
    and (not (eqb b tab) && not (eqb b lineEnd)) (is_clean t) (low_clean b (word_low b (letter_word (class b) w₁))) (all_map _ _ (λ c k. low_clean c (word_low c k)) t w₂)

pub name_word : (t : Text) → T (is_name t) → T (all word_byte t)
name_word [] h = tt
name_word (b ∷ t) h =
    let (h₁, h₂) = both (is_word (b ∷ t) && leb (length (b ∷ t)) 255) (not (member (b ∷ t) base_keywords)) h in
    let (w, l) = both (is_word (b ∷ t)) (leb (length (b ∷ t)) 255) h₁ in
    let (w₁, w₂) = both (is_letter (class b)) (all word_byte t) w in
    and (word_byte b) (all word_byte t) (letter_word (class b) w₁) w₂

pub name_length : (t : Text) → T (is_name t) → (1 ≤ length t) × (length t ≤ 255)
name_length [] h = absurd (both (is_word [] && leb 0 255) (not (member [] base_keywords)) h).0
name_length (b ∷ t) h =
    let (h₁, h₂) = both (is_word (b ∷ t) && leb (length (b ∷ t)) 255) (not (member (b ∷ t) base_keywords)) h in
    let (w, l) = both (is_word (b ∷ t)) (leb (length (b ∷ t)) 255) h₁ in
    (omega arith, leb→le (length (b ∷ t)) 255 l)

-- ---- numbers

pub number_append : (a d : ℕ) (t : Text) → number a (t ++ d ∷ []) ≡ number a t * 10 + (d - 48)
number_append a d [] = refl
number_append a d (b ∷ t) = number_append (a * 10 + (b - 48)) d t

pub number_digits : (k n : ℕ) → Within k n → number 0 (digits k n) ≡ n
number_digits zero n h = omega arith
number_digits (suc k) n h = go (ltb n 10) (number_digits k (n / 10) h)
  where
    go : (c : Bool) → number 0 (digits k (n / 10)) ≡ n / 10
        → number 0 (when c then (48 + n) ∷ [] else digits k (n / 10) ++ ((48 + n % 10) ∷ [])) ≡ n
    go true e = omega arith
    go false e = number_append 0 (48 + n % 10) (digits k (n / 10)) ∙ ap (λ y. y * 10 + (48 + n % 10 - 48)) e ∙ omega arith

pub decimal_number : (n : ℕ) → n ≤ 4294967295 → number 0 (decimal n) ≡ n
decimal_number n h = number_digits 9 n (ten_digits n h)

pub digits_clean : (k n : ℕ) → T (is_clean (digits k n))
digits_clean zero n = and (not (eqb (48 + n) tab) && not (eqb (48 + n) lineEnd)) true (low_clean (48 + n) (omega arith)) tt
digits_clean (suc k) n = go (ltb n 10) (digits_clean k (n / 10))
  where
    last : (m : ℕ) → T (is_clean ((48 + m) ∷ []))
    last m = and (not (eqb (48 + m) tab) && not (eqb (48 + m) lineEnd)) true (low_clean (48 + m) (omega arith)) tt

    go : (c : Bool) → T (is_clean (digits k (n / 10))) → T (is_clean (when c then (48 + n) ∷ [] else digits k (n / 10) ++ ((48 + n % 10) ∷ [])))
    go true h = last n
    go false h = all_append _ (digits k (n / 10)) ((48 + n % 10) ∷ []) h (last (n % 10))

pub digits_length : (k n : ℕ) → length (digits k n) ≤ k + 1
digits_length zero n = lit≤ tt
digits_length (suc k) n = go (ltb n 10) (digits_length k (n / 10))
  where
    go : (c : Bool) → length (digits k (n / 10)) ≤ k + 1
        → length (when c then (48 + n) ∷ [] else digits k (n / 10) ++ ((48 + n % 10) ∷ [])) ≤ suc k + 1
    go true h = omega arith
    go false h = omega (arith, length-append (digits k (n / 10)) ((48 + n % 10) ∷ []))
