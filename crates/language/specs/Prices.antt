-- Request M-104: prices and the operations on them. An amount is a whole number of hundredths.
use Rattle.std.specs.Prelude.{ℕ, suc, ◌+◌, ◌*◌, ◌/◌, ◌%◌, ◌≤◌, ◌<◌, ◌≡◌, Bool, true, false, ◌&&◌, not, [], ◌∷◌, ◌++◌, ℤ, pos, negsuc, neg_ℤ, nat_abs, ◌+ℤ◌, ◌-ℤ◌, ◌*ℤ◌, leb, ltb, eqb}
use Rattle.std.proofs.Math.Option.{Option, none, some}
use Rattle.std.specs.Int.Signed.{non_neg}
use Rattle.language.specs.Text.{Text, bytes, when◌then◌else◌, ◌≟◌, keep, decimal}
use Rattle.language.specs.Bytes.{◌is◌, between}
use Rattle.language.specs.Syntax.{Operation, add, sub, times, per}
use Rattle.language.specs.Decode.{number}

-- 9999999.99
abbrev pub greatest : ℕ
greatest = 999999999

abbrev pub in_range : ℤ → Bool
in_range a = leb (nat_abs a) greatest

-- ---- the text of an amount

-- digits without a needless leading zero, a point, two digits
abbrev pub amount_text : ℕ → Text
amount_text n = decimal (n / 100) ++ bytes "." ++ ((48 + n / 10 % 10) ∷ (48 + n % 10) ∷ [])

-- a minus sign if below zero
abbrev pub price_text : ℤ → Text
price_text (pos n) = amount_text n
price_text (negsuc n) = bytes "-" ++ amount_text (suc n)

-- ---- the amount of a text

-- the number that the digits of a text make, whatever else stands in it
abbrev pub digits_of : Text → ℕ
digits_of t = number 0 (keep (between "0" "9") t)

abbrev pub starts_minus : Text → Bool
starts_minus [] = false
starts_minus (b ∷ t) = b is "-"

-- minus n, or n
abbrev pub signed : Bool → ℕ → ℤ
signed true n = neg_ℤ (pos n)
signed false n = pos n

-- read without care
abbrev pub reading : Text → ℤ
reading t = signed (starts_minus t) (digits_of t)

-- A text is a price where it is the text of what was read: so an amount has one text, and minus zero, needless zeros and other bytes have none.
abbrev pub price : Text → Option ℤ
price t = when in_range (reading t) && (price_text (reading t) ≟ t) then some (reading t) else none

-- ---- rounding

-- t / d to the nearest whole; a half goes up
abbrev pub nearest : ℕ → ℕ → ℕ
nearest t d = when ltb (2 * (t % d)) d then t / d else t / d + 1

-- exactly one of the two
abbrev pub differ : Bool → Bool → Bool
differ true b = not b
differ false b = b

-- with their signs, so that a half goes away from zero
abbrev pub rounded : ℤ → ℤ → ℤ
rounded t d = signed (differ (non_neg t) (non_neg d)) (nearest (nat_abs t) (nat_abs d))

-- What that means in whole numbers, the signs of t and d being any: twice the distance of d q from t is at most the size of d; and where it is
-- that size, at the half, q lies away from zero, so that d q is further from zero than t.
pub record Nearest (t d q : ℤ) : Type 0 where
  pub close : 2 * nat_abs (t -ℤ d *ℤ q) ≤ nat_abs d
  pub away : 2 * nat_abs (t -ℤ d *ℤ q) ≡ nat_abs d → nat_abs t < nat_abs (d *ℤ q)

-- ---- the operations

abbrev pub is_zero : ℤ → Bool
is_zero a = eqb (nat_abs a) 0

abbrev pub ranged : ℤ → Option ℤ
ranged a = when in_range a then some a else none

-- rounded first, then held against the range
abbrev pub reckoned : Operation → ℤ → ℤ → Option ℤ
reckoned add a b = ranged (a +ℤ b)
reckoned sub a b = ranged (a -ℤ b)
reckoned times a b = ranged (rounded (a *ℤ b) (pos 100))
reckoned per a b = when is_zero b then none else ranged (rounded (a *ℤ pos 100) b)
