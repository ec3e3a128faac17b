-- The rounded quotient, by the quotient that was cut toward zero and what it left.
-- Assumes nothing.
use mathlib.Core.Path.{◌≡◌, refl, sym, ap, ap₂, ◌∙◌}
use mathlib.Core.Bool.{Bool, true, false, not, beq}
use Prim.Native.Nat.{ℕ, ◌+◌, ◌*◌, ◌/◌, ◌%◌, ◌≤◌, ◌<◌}
use native.Mathlib.Omega.{arith}
use borrow.Author.Tests.{lt-ltb, le-ltb}
use lib.IntN.{ℤ, pos, negsuc, nat_abs, ◌+ℤ◌, ◌-ℤ◌, neg_ℤ-+ℤ}
use lib.Signed.{non_neg, quot_z, rem_z}
use Rattle.language.specs.Prices.{signed, differ, nearest, rounded}
use Rattle.language.proofs.Logic.Integers.{abs_rest}

-- ---- signs

pub same_sides : (a b : Bool) → beq (not a) (not b) ≡ true → differ a b ≡ false
same_sides true true e = refl
same_sides true false e = sym e
same_sides false true e = sym e
same_sides false false e = refl

pub other_sides : (a b : Bool) → beq (not a) (not b) ≡ false → differ a b ≡ true
other_sides true true e = sym e
other_sides true false e = refl
other_sides false true e = refl
other_sides false false e = sym e

-- ---- quotients

module _ (t d : ℤ) where
  abbrev side : Bool
  side = differ (non_neg t) (non_neg d)

  abbrev cut : ℕ
  cut = nat_abs t / nat_abs d

-- toward zero is on the side that the signs say
cut_is : (t d : ℤ) → quot_z t d ≡ signed (side t d) (cut t d)
cut_is (pos t) (pos d) = refl
cut_is (pos t) (negsuc d) = refl
cut_is (negsuc t) (pos d) = refl
cut_is (negsuc t) (negsuc d) = refl

module _ (t d : ℤ) where
  nearest_low : 2 * nat_abs (rem_z t d) < nat_abs d → nearest (nat_abs t) (nat_abs d) ≡ cut t d
  nearest_low h =
      let l : 2 * (nat_abs t % nat_abs d) < nat_abs d = omega (arith, abs_rest t d, h) in
      simp (lt-ltb (2 * (nat_abs t % nat_abs d)) (nat_abs d) l)

  nearest_high : nat_abs d ≤ 2 * nat_abs (rem_z t d) → nearest (nat_abs t) (nat_abs d) ≡ cut t d + 1
  nearest_high h =
      let l : nat_abs d ≤ 2 * (nat_abs t % nat_abs d) = omega (arith, abs_rest t d, h) in
      simp (le-ltb (2 * (nat_abs t % nat_abs d)) (nat_abs d) l)

  pub stays : 2 * nat_abs (rem_z t d) < nat_abs d → quot_z t d ≡ rounded t d
  stays h = cut_is t d ∙ ap (signed (side t d)) (sym (nearest_low h))

  further : (s : Bool) → side t d ≡ s → nat_abs d ≤ 2 * nat_abs (rem_z t d) → signed s (cut t d + 1) ≡ rounded t d
  further s e h = ap₂ signed (sym e) (sym (nearest_high h))

  -- one further from zero
  pub one_up : nat_abs d ≤ 2 * nat_abs (rem_z t d) → side t d ≡ false → quot_z t d +ℤ pos 1 ≡ rounded t d
  one_up h e = ap (λ (z : ℤ). z +ℤ pos 1) (cut_is t d ∙ ap (λ (s : Bool). signed s (cut t d)) e) ∙ further false e h

  pub one_down : nat_abs d ≤ 2 * nat_abs (rem_z t d) → side t d ≡ true → quot_z t d -ℤ pos 1 ≡ rounded t d
  one_down h e =
      ap (λ (z : ℤ). z -ℤ pos 1) (cut_is t d ∙ ap (λ (s : Bool). signed s (cut t d)) e) ∙ sym (neg_ℤ-+ℤ (pos (cut t d)) (pos 1)) ∙ further true e h
