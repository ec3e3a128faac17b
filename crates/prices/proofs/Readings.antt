-- Laws of the reading of a price: a digit more, the sign, and what the amount that was read must pass.
-- Assumes nothing.
use mathlib.Core.Path.{◌≡◌, refl, sym, ap, subst, ◌∙◌}
use mathlib.Core.Bool.{Bool, true, false, ◌&&◌, not}
use mathlib.Core.Option.{none, some}
use mathlib.Core.List.{◌∷◌, ◌++◌}
use Prim.Native.Nat.{ℕ, zero, suc, ◌+◌, ◌*◌, ◌-◌, ◌/◌, ◌≤◌, ◌<◌}
use native.Mathlib.Omega.{arith}
use native.Mathlib.Numerals.{add-one}
use borrow.Author.Tests.{le-leb}
use lib.IntN.{ℤ, pos, negsuc, nat_abs}
use lib.Signed.{non_neg}
use lib.Dec.{T, leb, leb→le}
use lib.ListN.{length, get_or, drop}
use lib.Seq.{drop-cons}
use Rattle.language.specs.Text.{Text, bytes, when◌then◌else◌, ◌≟◌, keep}
use Rattle.language.specs.Bytes.{between}
use Rattle.language.specs.Decode.{number}
use Rattle.language.specs.Prices.{greatest, in_range, amount_text, price_text, digits_of, starts_minus, signed, reading, price}
use Rattle.language.proofs.Logic.Tests.{both}
use Rattle.language.proofs.Meaning.Rounding.{abs_signed}
use Rattle.language.proofs.StateText.Digits.{Within}
use Rattle.std.specs.Bool.{then_some}
use Rattle.amounts.specs.Amounts.{amount_meant}

-- ---- a text from its sign and its amount

pub below_text : (a : ℤ) → not (non_neg a) ≡ true → bytes "-" ++ amount_text (nat_abs a) ≡ price_text a
below_text (pos n) e = absurd (let z : ◌≡◌ {A = ℕ} 0 1 = cc in omega arith)
below_text (negsuc n) e = refl

pub above_text : (a : ℤ) → not (non_neg a) ≡ false → amount_text (nat_abs a) ≡ price_text a
above_text (pos n) e = refl
above_text (negsuc n) e = absurd (let z : ◌≡◌ {A = ℕ} 0 1 = cc in omega arith)

-- ---- a digit more

abbrev with_digit : ℕ → ℕ → ℕ
with_digit n b = when between "0" "9" b then n * 10 + (b - 48) else n

-- one byte of a text after the other
pub digits_step : (n : ℕ) (t : Text) (i : ℕ) → i < length t
    → number n (keep (between "0" "9") (drop i t)) ≡ number (with_digit n (get_or t i 0)) (keep (between "0" "9") (drop (i + 1) t))
digits_step n t i h = rw (add-one, drop-cons t i 0 h) (go (between "0" "9" (get_or t i 0)) (get_or t i 0) (drop (suc i) t))
  where
    go : (c : Bool) (b : ℕ) (u : Text) → number n (when c then b ∷ keep (between "0" "9") u else keep (between "0" "9") u)
        ≡ number (when c then n * 10 + (b - 48) else n) (keep (between "0" "9") u)
    go true b u = refl
    go false b u = refl

-- a byte more, a digit more at most
pub within_more : (j k n : ℕ) → j ≤ k → Within j n → Within k n
within_more zero zero n l h = h
within_more zero (suc k) n l h = within_more zero k (n / 10) (omega arith) (omega arith)
within_more (suc j) zero n l h = absurd (omega arith)
within_more (suc j) (suc k) n l h = within_more j k (n / 10) (omega arith) h

pub within_step : (j n b : ℕ) → Within j n → Within (j + 1) (with_digit n b)
within_step j n b h = rw add-one (go (between "0" "9" b) (λ t. (both (leb 48 b) (leb b 57) t).1))
  where
    go : (c : Bool) → (T c → T (leb b 57)) → Within (suc j) (when c then n * 10 + (b - 48) else n)
    go true f = let l : b ≤ 57 = leb→le b 57 (f tt) in subst (Within j) (omega arith) h
    go false f = within_more j (suc j) n (omega arith) h

pub within_bound : (i n : ℕ) → i ≤ 10 → Within i n → n ≤ 99999999999
within_bound i n l h = let w : Within 10 n = within_more i 10 n l h in omega arith

-- ---- what was read, held against the range and the text

pub signed_small : (m : Bool) (n : ℕ) → n ≤ greatest → nat_abs (signed m n) ≤ greatest
signed_small m n h = omega (arith, abs_signed m n)

-- the amount or none, in the terms of the language
told : (c : Bool) (a : ℤ) → amount_meant (then_some c a) ≡ (when c then some a else none)
told true a = refl
told false a = refl

module _ (t : Text) (m : Bool) (n : ℕ) (a : ℤ) (minus : m ≡ starts_minus t) (digits : n ≡ digits_of t) (is : a ≡ signed m n) (low : n ≤ greatest) where
  as_read : a ≡ reading t
  as_read = is ∙ ap (λ (b : Bool). signed b n) minus ∙ ap (signed (starts_minus t)) digits

  -- the amount counts where it has this text
  pub price_tested : (c : Bool) → c ≡ (price_text a ≟ t) → amount_meant (then_some c a) ≡ price t
  price_tested c e =
      let l : in_range a ≡ true = le-leb (nat_abs a) greatest (omega (arith, ap nat_abs is, abs_signed m n)) in
      told c a
      ∙ ap (λ (b : Bool). when b then some a else none) e
      ∙ sym (ap (λ (b : Bool). when b && (price_text a ≟ t) then some a else none) l)
      ∙ ap (λ (r : ℤ). when in_range r && (price_text r ≟ t) then some r else none) as_read
