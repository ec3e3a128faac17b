-- Which results of signed operations fit 64 bits, and what is read of them.
-- Assumes nothing.
use mathlib.Core.Path.{◌≡◌, sym, ap, subst, ◌∙◌}
use Prim.Native.Nat.{◌*◌, ◌^◌, ◌≤◌, ◌<◌}
use native.Mathlib.Nat.{mul-le-mul, div-le_self, pos_of_ne-zero}
use native.Mathlib.Omega.{arith}
use lib.IntN.{ℤ, pos, negsuc, nat_abs, ◌+ℤ◌, ◌-ℤ◌, ◌*ℤ◌}
use lib.Signed.{mag, quot_z}
use lib.Dec.{T, leb→le}
use mir.Syntax.{w64}
use mir.Val.{SFits, to_z, of_z}
use mir.ValLaws.{to_z-of_z}
use Rattle.language.specs.Prices.{greatest, in_range}
use Rattle.language.proofs.Logic.Integers.{abs_sum, abs_difference, abs_product, abs_quotient}

-- ---- an operation reads its operands out of their bits

-- a call's result, by what is known of it
pub again : {z : ℤ} → mag z < 2 ^ 63 → to_z w64 (of_z w64 z) ≡ z
again {z} h = to_z-of_z w64 z (record { sfits = h })

module _ (f : ℤ → ℤ → ℤ) (a b : ℤ) (p : SFits w64 a) (q : SFits w64 b) where
  pub read_both : f (to_z w64 (of_z w64 a)) (to_z w64 (of_z w64 b)) ≡ f a b
  read_both i = f (to_z-of_z w64 a p i) (to_z-of_z w64 b q i)

  pub result_fits : SFits w64 (f a b) → SFits w64 (f (to_z w64 (of_z w64 a)) (to_z w64 (of_z w64 b)))
  result_fits = subst (SFits w64) (sym read_both)

  pub result_is : SFits w64 (f a b) → to_z w64 (of_z w64 (f (to_z w64 (of_z w64 a)) (to_z w64 (of_z w64 b)))) ≡ f a b
  result_is h = to_z-of_z w64 _ (result_fits h) ∙ read_both

-- ---- what fits

mag_le : (z : ℤ) → mag z ≤ nat_abs z
mag_le (pos n) = omega arith
mag_le (negsuc n) = omega arith

-- far less than 64 bits hold
pub small_fits : (z : ℤ) → nat_abs z < 9223372036854775808 → SFits w64 z
small_fits z h = record { sfits = omega (arith, mag_le z, h) }

-- ---- the operations on small numbers

pub sum_fits : (a b : ℤ) → nat_abs a < 4611686018427387904 → nat_abs b < 4611686018427387904 → SFits w64 (a +ℤ b)
sum_fits a b h k = small_fits (a +ℤ b) (omega (arith, abs_sum a b, h, k))

pub difference_fits : (a b : ℤ) → nat_abs a < 4611686018427387904 → nat_abs b < 4611686018427387904 → SFits w64 (a -ℤ b)
difference_fits a b h k = small_fits (a -ℤ b) (omega (arith, abs_difference a b, h, k))

pub product_small : (a b : ℤ) → nat_abs a ≤ 999999999 → nat_abs b ≤ 999999999 → nat_abs (a *ℤ b) < 4611686018427387904
product_small a b h k =
    let m : nat_abs a * nat_abs b ≤ 999999999 * 999999999 = mul-le-mul h k in
    omega (arith, abs_product a b, m)

pub product_fits : (a b : ℤ) → nat_abs a ≤ 999999999 → nat_abs b ≤ 999999999 → SFits w64 (a *ℤ b)
product_fits a b h k = small_fits (a *ℤ b) (omega (arith, product_small a b h k))

pub quotient_small : (t d : ℤ) → nat_abs t < 4611686018427387904 → nat_abs (quot_z t d) < 4611686018427387904
quotient_small t d h = omega (arith, h, abs_quotient t d, div-le_self (nat_abs t) (nat_abs d))

pub quotient_fits : (t d : ℤ) → nat_abs t < 4611686018427387904 → SFits w64 (quot_z t d)
quotient_fits t d h = small_fits (quot_z t d) (omega (arith, quotient_small t d h))

-- a number that is not zero has bits that are not
pub bits_not_zero : (d : ℤ) → SFits w64 d → 0 < nat_abs d → 0 < of_z w64 d
bits_not_zero d f h = pos_of_ne-zero (λ e. absurd (omega (arith, h, ap nat_abs (sym (to_z-of_z w64 d f) ∙ ap (to_z w64) e))))

-- an amount is what its bits say
pub amount_again : (a : ℤ) → T (in_range a) → to_z w64 (of_z w64 a) ≡ a
amount_again a h = let l : nat_abs a ≤ greatest = leb→le (nat_abs a) greatest h in to_z-of_z w64 a (small_fits a (omega (arith, l)))
