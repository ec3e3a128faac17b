-- The text of a price: at most 11 string bytes; a text that is a price is the text of one amount in range, and every such amount has one.
-- Assumes nothing.
use mathlib.Core.Path.{◌≡◌, refl, sym, ap, subst, ◌∙◌}
use Prim.Native.Nat.{ℕ, zero, suc, ◌+◌, ◌*◌, ◌-◌, ◌/◌, ◌%◌, ◌≤◌, ◌<◌}
use native.Mathlib.Omega.{arith}
use mathlib.Core.Bool.{Bool, true, false, ◌&&◌, ◌||◌}
use mathlib.Core.Option.{none, some}
use mathlib.Core.List.{[], ◌∷◌, ◌++◌, append-nil, append_assoc}
use lib.IntN.{ℤ, pos, negsuc, nat_abs, ◌+ℤ◌, ◌-ℤ◌, ◌*ℤ◌}
use lib.Dec.{T, leb→le, ltb}
use lib.ListN.{length, length-append}
use borrow.Author.Tests.{ne_eqb}
use Rattle.language.specs.Text.{Text, bytes, when◌then◌else◌, ◌≟◌, all, keep, digits, decimal}
use Rattle.language.specs.Bytes.{◌is◌, ◌∈◌, between, letter, digit, space, newline, foreign, mark, marks, in_string, string_byte}
use Rattle.language.specs.Identifiers.{is_string}
use Rattle.language.specs.Decode.{number}
use Rattle.language.specs.Prices.{greatest, in_range, amount_text, price_text, digits_of, starts_minus, signed, reading, price, rounded, is_zero, ranged, reckoned}
use Rattle.language.specs.Syntax.{Operation, add, sub, times, per}
use Rattle.language.proofs.Logic.Tests.{both, and, all_map, all_append, true_of, ==→≡, ==_refl}
use Rattle.language.proofs.Logic.Lists.{keep_append}
use Rattle.language.proofs.Logic.Outcomes.{Where, if_where}
use Rattle.language.proofs.StateText.Clean.{number_append, decimal_number}
use Rattle.language.proofs.StateText.Digits.{Within, digit_byte, decimal_digits, digits_few}

in_range_lem : (a : ℤ) → T (in_range a) → nat_abs a ≤ greatest
in_range_lem a h = leb→le (nat_abs a) greatest h

-- ---- its bytes

digit_string : (b : ℕ) → T (between "0" "9" b) → T (string_byte b)
digit_string b h = go (between "a" "z" b || between "A" "Z" b) (between "0" "9" b) (b is " ") (b is "\n") (b ∈ marks) h
  where
    go : (l d s n m : Bool) → T d → T (in_string (when l then letter else when d then digit else when s then space else when n then newline else when m then mark b else foreign))
    go true d s n m h = tt
    go false true s n m h = tt
    go false false s n m h = absurd h

-- the two digits behind the point
abbrev hundredths : ℕ → Text
hundredths n = (48 + n / 10 % 10) ∷ (48 + n % 10) ∷ []

hundredths_digits : (n : ℕ) → T (all (between "0" "9") (hundredths n))
hundredths_digits n =
    and (between "0" "9" (48 + n / 10 % 10)) (all (between "0" "9") ((48 + n % 10) ∷ [])) (digit_byte (n / 10 % 10) (omega arith))
    (and (between "0" "9" (48 + n % 10)) true (digit_byte (n % 10) (omega arith)) tt)

amount_string : (n : ℕ) → n ≤ greatest → T (is_string (amount_text n))
amount_string n h =
    all_append string_byte (decimal (n / 100) ++ bytes ".") (hundredths n)
    (all_append string_byte (decimal (n / 100)) (bytes ".") (all_map (between "0" "9") string_byte digit_string (decimal (n / 100)) (decimal_digits (n / 100) (omega arith))) tt)
    (all_map (between "0" "9") string_byte digit_string (hundredths n) (hundredths_digits n))

pub price_string : (a : ℤ) → T (in_range a) → T (is_string (price_text a))
price_string (pos n) h = amount_string n (in_range_lem (pos n) h)
price_string (negsuc n) h = amount_string (suc n) (in_range_lem (negsuc n) h)

-- ---- its length

-- before the point
pub whole_length : (n : ℕ) → n ≤ greatest → length (decimal (n / 100)) ≤ 7
whole_length n h = let w : Within 6 (n / 100) = omega arith in digits_few 6 9 (n / 100) w

amount_length : (n : ℕ) → n ≤ greatest → length (amount_text n) ≤ 10
amount_length n h =
    omega (arith, whole_length n h, length-append (decimal (n / 100) ++ bytes ".") (hundredths n), length-append (decimal (n / 100)) (bytes "."))

pub price_length : (a : ℤ) → T (in_range a) → length (price_text a) ≤ 11
price_length (pos n) h = let l : length (amount_text n) ≤ 10 = amount_length n (in_range_lem (pos n) h) in omega arith
price_length (negsuc n) h = let l : length (amount_text (suc n)) ≤ 10 = amount_length (suc n) (in_range_lem (negsuc n) h) in omega arith

-- ---- a text that is a price

-- the test that a text passes, where it has an amount
passed : {a : ℤ} (b : Bool) (r : ℤ) → (when b then some r else none) ≡ some a → T b × (r ≡ a)
passed true r e = (tt, cc)
passed false r e = let z : ◌≡◌ {A = ℕ} 0 1 = cc in absurd (omega arith)

price_read : (t : Text) (a : ℤ) → price t ≡ some a → T (in_range a) × (t ≡ price_text a)
price_read t a e =
    let (h, q) = passed (in_range (reading t) && (price_text (reading t) ≟ t)) (reading t) e in
    let (r, s) = both (in_range (reading t)) (price_text (reading t) ≟ t) h in
    (subst (λ (x : ℤ). T (in_range x)) q r, sym (==→≡ (price_text (reading t)) t s) ∙ ap price_text q)

pub price_in_range : (t : Text) (a : ℤ) → price t ≡ some a → T (in_range a)
price_in_range t a e = (price_read t a e).0

pub price_is_text : (t : Text) (a : ℤ) → price t ≡ some a → t ≡ price_text a
price_is_text t a e = (price_read t a e).1

-- a longer text is none
pub long_none : (t : Text) → 11 < length t → price t ≡ none
long_none t h = go (in_range (reading t) && (price_text (reading t) ≟ t)) (λ k. both (in_range (reading t)) (price_text (reading t) ≟ t) k)
  where
    go : (b : Bool) → (T b → T (in_range (reading t)) × T (price_text (reading t) ≟ t)) → (when b then some (reading t) else none) ≡ none
    go true f =
        let (r, s) = f tt in
        let l : length (price_text (reading t)) ≤ 11 = price_length (reading t) r in
        absurd (omega (arith, l, ap length (==→≡ (price_text (reading t)) t s)))
    go false f = refl

-- ---- an amount in range has a text that is read as it

keep_all : (f : ℕ → Bool) (t : Text) → T (all f t) → keep f t ≡ t
keep_all f [] h = refl
keep_all f (b ∷ t) h =
    let (p, q) = both (f b) (all f t) h in
    ap (λ (c : Bool). when c then b ∷ keep f t else keep f t) (true_of (f b) p) ∙ ap (λ (u : Text). b ∷ u) (keep_all f t q)

-- its digits, the point passed over, and what they make
amount_kept : (n : ℕ) → n ≤ greatest → keep (between "0" "9") (amount_text n) ≡ decimal (n / 100) ++ hundredths n
amount_kept n h =
    keep_append (between "0" "9") (decimal (n / 100) ++ bytes ".") (hundredths n)
    ∙ ap (λ (u : Text). u ++ keep (between "0" "9") (hundredths n)) (keep_append (between "0" "9") (decimal (n / 100)) (bytes ".") ∙ append-nil (keep (between "0" "9") (decimal (n / 100))))
    ∙ ap (λ (u : Text). u ++ keep (between "0" "9") (hundredths n)) (keep_all (between "0" "9") (decimal (n / 100)) (decimal_digits (n / 100) (omega arith)))
    ∙ ap (λ (u : Text). decimal (n / 100) ++ u) (keep_all (between "0" "9") (hundredths n) (hundredths_digits n))

amount_digits : (n : ℕ) → n ≤ greatest → digits_of (amount_text n) ≡ n
amount_digits n h =
    ap (number 0) (amount_kept n h ∙ sym (append_assoc (decimal (n / 100)) ((48 + n / 10 % 10) ∷ []) ((48 + n % 10) ∷ [])))
    ∙ number_append 0 (48 + n % 10) (decimal (n / 100) ++ (48 + n / 10 % 10) ∷ [])
    ∙ ap (λ (m : ℕ). m * 10 + (48 + n % 10 - 48)) (number_append 0 (48 + n / 10 % 10) (decimal (n / 100)))
    ∙ ap (λ (m : ℕ). (m * 10 + (48 + n / 10 % 10 - 48)) * 10 + (48 + n % 10 - 48)) (decimal_number (n / 100) (omega arith))
    ∙ omega arith

-- it begins with a digit
amount_plain : (n : ℕ) → starts_minus (amount_text n) ≡ false
amount_plain n = digits_plain 9 (n / 100) (bytes ".") (hundredths n)
  where
    low : (d : ℕ) → (48 + d) is "-" ≡ false
    low d = ne_eqb (48 + d) 45 (λ e. omega arith)

    digits_plain : (k m : ℕ) (p q : Text) → starts_minus (digits k m ++ p ++ q) ≡ false
    digits_plain zero m p q = low m
    digits_plain (suc k) m p q = go (ltb m 10) (digits_plain k (m / 10) ((48 + m % 10) ∷ p) q)
      where
        go : (c : Bool) → starts_minus (digits k (m / 10) ++ ((48 + m % 10) ∷ p) ++ q) ≡ false
            → starts_minus ((when c then (48 + m) ∷ [] else digits k (m / 10) ++ ((48 + m % 10) ∷ [])) ++ p ++ q) ≡ false
        go true e = low m
        go false e = ap (λ (u : Text). starts_minus (u ++ q)) (append_assoc (digits k (m / 10)) ((48 + m % 10) ∷ []) p) ∙ e

price_reading : (a : ℤ) → T (in_range a) → reading (price_text a) ≡ a
price_reading (pos n) h = let l = in_range_lem (pos n) h in ap (λ (b : Bool). signed b (digits_of (amount_text n))) (amount_plain n) ∙ ap pos (amount_digits n l)
price_reading (negsuc n) h = let l = in_range_lem (negsuc n) h in ap (signed true) (amount_digits (suc n) l)

pub price_again : (a : ℤ) → T (in_range a) → price (price_text a) ≡ some a
price_again a h =
    ap (λ (r : ℤ). when in_range r && (price_text r ≟ price_text a) then some r else none) (price_reading a h)
    ∙ ap (λ (b : Bool). when b then some a else none) (true_of (in_range a && (price_text a ≟ price_text a)) (and (in_range a) (price_text a ≟ price_text a) h (==_refl (price_text a))))

-- ---- what an operation gives is in range

ranged_in_range : (a : ℤ) → Where (λ c. T (in_range c)) (ranged a)
ranged_in_range a = if_where (λ c. T (in_range c)) (in_range a) (some a) none (λ h. h) (λ h. tt)

pub reckoned_in_range : (o : Operation) (a b : ℤ) → Where (λ c. T (in_range c)) (reckoned o a b)
reckoned_in_range add a b = ranged_in_range (a +ℤ b)
reckoned_in_range sub a b = ranged_in_range (a -ℤ b)
reckoned_in_range times a b = ranged_in_range (rounded (a *ℤ b) (pos 100))
reckoned_in_range per a b =
    if_where (λ c. T (in_range c)) (is_zero b) none (ranged (rounded (a *ℤ pos 100) b)) (λ h. tt) (λ h. ranged_in_range (rounded (a *ℤ pos 100) b))
