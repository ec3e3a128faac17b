-- Laws of the integers that no library has: how far a result lies from zero, and on which side.
-- Assumes nothing.
use mathlib.Core.Path.{◌≡◌, refl}
use mathlib.Core.Bool.{Bool, true, false, cond}
use Prim.Native.Nat.{ℕ, zero, suc, ◌+◌, ◌-◌, ◌*◌, ◌/◌, ◌%◌, ◌≤◌}
use native.Mathlib.Omega.{arith}
use borrow.Author.Tests.{ltb-true, ltb-false}
use lib.Dec.{T, ltb}
use lib.IntN.{ℤ, pos, negsuc, neg_ℤ, nat_abs, sub_ℕ, ◌+ℤ◌, ◌-ℤ◌, ◌*ℤ◌}
use lib.Signed.{non_neg, quot_z, rem_z}

pub abs_minus : (z : ℤ) → nat_abs (neg_ℤ z) ≡ nat_abs z
abs_minus (pos zero) = refl
abs_minus (pos (suc n)) = refl
abs_minus (negsuc n) = refl

pub above_minus : (z : ℤ) → non_neg z ≡ false → T (non_neg (neg_ℤ z))
above_minus (pos zero) e = tt
above_minus (pos (suc n)) e = absurd (let z : ◌≡◌ {A = ℕ} 0 1 = cc in omega arith)
above_minus (negsuc n) e = tt

-- how far two numbers lie apart; one of the two differences is zero
pub abs_gap : (x y : ℕ) → nat_abs (sub_ℕ x y) ≡ (x - y) + (y - x)
abs_gap x y = by_order (ltb x y) refl
  where
    by_order : (b : Bool) → ltb x y ≡ b → nat_abs (cond b (negsuc (y - suc x)) (pos (x - y))) ≡ (x - y) + (y - x)
    by_order true e = omega (arith, ltb-true x y e)
    by_order false e = omega (arith, ltb-false x y e)

pub abs_between : (x y : ℕ) → nat_abs (pos x -ℤ pos y) ≡ (x - y) + (y - x)
abs_between x zero = omega arith
abs_between x (suc y) = abs_gap x (suc y)

pub abs_sum : (a b : ℤ) → nat_abs (a +ℤ b) ≤ nat_abs a + nat_abs b
abs_sum (pos a) (pos b) = omega arith
abs_sum (pos a) (negsuc b) = omega (arith, abs_gap a (suc b))
abs_sum (negsuc a) (pos b) = omega (arith, abs_gap b (suc a))
abs_sum (negsuc a) (negsuc b) = omega arith

pub abs_difference : (a b : ℤ) → nat_abs (a -ℤ b) ≤ nat_abs a + nat_abs b
abs_difference a b = omega (arith, abs_sum a (neg_ℤ b), abs_minus b)

pub abs_product : (a b : ℤ) → nat_abs (a *ℤ b) ≡ nat_abs a * nat_abs b
abs_product (pos a) (pos b) = refl
abs_product (pos a) (negsuc b) = abs_minus (pos (a * suc b))
abs_product (negsuc a) (pos b) = abs_minus (pos (suc a * b))
abs_product (negsuc a) (negsuc b) = refl

pub abs_quotient : (t d : ℤ) → nat_abs (quot_z t d) ≡ nat_abs t / nat_abs d
abs_quotient (pos t) (pos d) = refl
abs_quotient (pos t) (negsuc d) = abs_minus (pos (t / suc d))
abs_quotient (negsuc t) (pos d) = abs_minus (pos (suc t / d))
abs_quotient (negsuc t) (negsuc d) = refl

pub abs_rest : (t d : ℤ) → nat_abs (rem_z t d) ≡ nat_abs t % nat_abs d
abs_rest (pos t) d = refl
abs_rest (negsuc t) d = abs_minus (pos (suc t % nat_abs d))
