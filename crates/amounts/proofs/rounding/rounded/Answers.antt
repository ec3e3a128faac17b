-- `amounts::rounding::rounded` meets its contract: the quotient, the rest and one further are themselves, read out of their bits.
-- Assumes nothing.
use Rattle.std.proofs.Common.{arith, ℕ, ◌≡◌, ◌*◌, ◌<◌, ◌≤◌, ap, ap₂, sym, ◌∙◌, ℤ, pos, ◌+ℤ◌, ◌-ℤ◌, nat_abs, w64, to_z, of_z, Bool, not}
use mathlib.Core.Bool.{beq}
use native.Mathlib.Nat.{mod-lt}
use lib.Dec.{lit<}
use lib.Signed.{non_neg, quot_z, rem_z}
use mir.Val.{SFits}
use mir.Facts.{to_z-of_z}
use Rattle.language.proofs.Logic.Integers.{abs_rest}
use Rattle.amounts.proofs.Fitting.{result_is, small_fits, sum_fits, difference_fits, quotient_small, quotient_fits}
use Rattle.amounts.proofs.Quotients.{same_sides, other_sides, stays, one_up, one_down}
use Rattle.amounts.proofs.rounding.rounded.Goals as goal

-- a number as it is read out of its bits
abbrev read : ℤ → ℤ
read z = to_z w64 (of_z w64 z)

module _ (t d : ℤ) (ft : SFits w64 t) (fd : SFits w64 d) (small : nat_abs t < 4611686018427387904) (some : 0 < nat_abs d) (most : nat_abs d ≤ 999999999) where
  quotient : read (quot_z (read t) (read d)) ≡ quot_z t d
  quotient = result_is quot_z t d ft fd (quotient_fits t d small)

  rest : read (rem_z (read t) (read d)) ≡ rem_z t d
  rest = result_is rem_z t d ft fd (small_fits (rem_z t d) (omega (arith, abs_rest t d, mod-lt (nat_abs t) some)))

  up : read (read (quot_z (read t) (read d)) +ℤ pos 1) ≡ quot_z t d +ℤ pos 1
  up = ap (λ (v : ℤ). read (v +ℤ pos 1)) quotient ∙ to_z-of_z (sum_fits (quot_z t d) (pos 1) (quotient_small t d small) (lit< tt))

  down : read (read (quot_z (read t) (read d)) -ℤ pos 1) ≡ quot_z t d -ℤ pos 1
  down = ap (λ (v : ℤ). read (v -ℤ pos 1)) quotient ∙ to_z-of_z (difference_fits (quot_z t d) (pos 1) (quotient_small t d small) (lit< tt))

  -- twice the rest against the divisor, by the sizes that the code compares
  module _ (left size : ℕ) (left_is : left ≡ nat_abs (read (rem_z (read t) (read d)))) (size_is : size ≡ nat_abs (read d)) where
    little : 2 * left < size → 2 * nat_abs (rem_z t d) < nat_abs d
    little h = omega (arith, left_is ∙ ap nat_abs rest, size_is ∙ ap nat_abs (to_z-of_z fd), h)

    much : size ≤ 2 * left → nat_abs d ≤ 2 * nat_abs (rem_z t d)
    much h = omega (arith, left_is ∙ ap nat_abs rest, size_is ∙ ap nat_abs (to_z-of_z fd), h)

  sides : (a b : Bool) → a ≡ not (non_neg (read t)) → b ≡ not (non_neg (read d)) → beq a b ≡ beq (not (non_neg t)) (not (non_neg d))
  sides a b p q = ap₂ beq (p ∙ ap (λ (v : ℤ). not (non_neg v)) (to_z-of_z ft)) (q ∙ ap (λ (v : ℤ). not (non_neg v)) (to_z-of_z fd))

pub returns-then-left-unsigned_abs : goal.returns-then-left-unsigned_abs
returns-then-left-unsigned_abs c =
    let a = c.args in
    let r = c.requires in
    quotient a.top a.bottom c.ranges.top c.ranges.bottom r.0 r.1 r.2
    ∙ stays a.top a.bottom (little a.top a.bottom c.ranges.top c.ranges.bottom r.0 r.1 r.2 _ _ c.unsigned_abs-left.ensures.value c.unsigned_abs.ensures.value c.if-left-unsigned_abs.true)

pub returns-then-below_zero : goal.returns-then-below_zero
returns-then-below_zero c =
    let a = c.args in
    let r = c.requires in
    let same = sides a.top a.bottom c.ranges.top c.ranges.bottom r.0 r.1 r.2 _ _ c.below_zero.ensures c.below_zero-2.ensures in
    up a.top a.bottom c.ranges.top c.ranges.bottom r.0 r.1 r.2
    ∙ one_up a.top a.bottom
    (much a.top a.bottom c.ranges.top c.ranges.bottom r.0 r.1 r.2 _ _ c.unsigned_abs-left.ensures.value c.unsigned_abs.ensures.value c.if-left-unsigned_abs.false)
    (same_sides (non_neg a.top) (non_neg a.bottom) (sym same ∙ c.if-below_zero.true))

pub returns-else-below_zero : goal.returns-else-below_zero
returns-else-below_zero c =
    let a = c.args in
    let r = c.requires in
    let same = sides a.top a.bottom c.ranges.top c.ranges.bottom r.0 r.1 r.2 _ _ c.below_zero.ensures c.below_zero-2.ensures in
    down a.top a.bottom c.ranges.top c.ranges.bottom r.0 r.1 r.2
    ∙ one_down a.top a.bottom
    (much a.top a.bottom c.ranges.top c.ranges.bottom r.0 r.1 r.2 _ _ c.unsigned_abs-left.ensures.value c.unsigned_abs.ensures.value c.if-left-unsigned_abs.false)
    (other_sides (non_neg a.top) (non_neg a.bottom) (sym same ∙ c.if-below_zero.false))
