-- The digits of a number are digits, and as few as the number needs.
-- Assumes nothing.
use mathlib.Core.Path.{◌≡◌, refl}
use Prim.Native.Nat.{ℕ, zero, suc, ◌+◌, ◌/◌, ◌%◌, ◌≤◌, ◌<◌}
use native.Mathlib.Omega.{arith}
use mathlib.Core.Bool.{Bool, true, false}
use mathlib.Core.List.{[], ◌∷◌, ◌++◌}
use lib.Dec.{T, leb, le→leb, ltb, lit≤}
use lib.ListN.{length, length-append}
use borrow.Author.Tests.{ltb-true, ltb-false}
use Rattle.language.specs.Text.{when◌then◌else◌, all, digits, decimal}
use Rattle.language.specs.Bytes.{between}
use Rattle.language.proofs.Logic.Tests.{and, all_append}

-- n has at most k + 1 digits
abbrev pub Within : ℕ → ℕ → Type 0
Within zero n = n < 10
Within (suc k) n = Within k (n / 10)

pub ten_digits : (n : ℕ) → n ≤ 4294967295 → Within 9 n
ten_digits n h = omega arith

pub digit_byte : (d : ℕ) → d < 10 → T (between "0" "9" (48 + d))
digit_byte d h = and (leb 48 (48 + d)) (leb (48 + d) 57) (le→leb 48 (48 + d) (omega arith)) (le→leb (48 + d) 57 (omega arith))

pub digits_all : (k n : ℕ) → Within k n → T (all (between "0" "9") (digits k n))
digits_all zero n h = and (between "0" "9" (48 + n)) true (digit_byte n h) tt
digits_all (suc k) n h = go (ltb n 10) refl (digits_all k (n / 10) h)
  where
    go : (c : Bool) → ltb n 10 ≡ c → T (all (between "0" "9") (digits k (n / 10)))
        → T (all (between "0" "9") (when c then (48 + n) ∷ [] else digits k (n / 10) ++ ((48 + n % 10) ∷ [])))
    go true e r = and (between "0" "9" (48 + n)) true (digit_byte n (ltb-true n 10 e)) tt
    go false e r =
        all_append (between "0" "9") (digits k (n / 10)) ((48 + n % 10) ∷ []) r (and (between "0" "9" (48 + n % 10)) true (digit_byte (n % 10) (omega arith)) tt)

pub decimal_digits : (n : ℕ) → n ≤ 4294967295 → T (all (between "0" "9") (decimal n))
decimal_digits n h = digits_all 9 n (ten_digits n h)

-- however many are allowed
pub digits_few : (j k n : ℕ) → Within j n → length (digits k n) ≤ j + 1
digits_few j zero n h = omega arith
digits_few zero (suc k) n h = go (ltb n 10) refl
  where
    go : (c : Bool) → ltb n 10 ≡ c → length (when c then (48 + n) ∷ [] else digits k (n / 10) ++ ((48 + n % 10) ∷ [])) ≤ 1
    go true e = lit≤ tt
    go false e = absurd (omega (arith, ltb-false n 10 e))
digits_few (suc j) (suc k) n h = go (ltb n 10) (digits_few j k (n / 10) h)
  where
    go : (c : Bool) → length (digits k (n / 10)) ≤ j + 1
        → length (when c then (48 + n) ∷ [] else digits k (n / 10) ++ ((48 + n % 10) ∷ [])) ≤ suc j + 1
    go true r = omega arith
    go false r = omega (arith, length-append (digits k (n / 10)) ((48 + n % 10) ∷ []))
