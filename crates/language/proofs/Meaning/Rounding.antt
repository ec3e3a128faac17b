-- Request M-104: the rounded quotient is the nearest whole, a half away from zero, and no other number is.
-- Assumes nothing.
use mathlib.Core.Path.{◌≡◌, refl, sym, ap, ap₂, subst, ◌∙◌}
use mathlib.Core.Option.{none, some}
use mathlib.Core.Logic.{◌⊎◌, inl, inr, ⊎_elim}
use mathlib.Core.Bool.{Bool, true, false, not, true≢false}
use Prim.Native.Nat.{ℕ, zero, suc, ◌+◌, ◌-◌, ◌*◌, ◌/◌, ◌%◌, ◌≤◌, ◌<◌}
use native.Mathlib.Nat.{div-add-mod, mod-lt, mul-add, mul-one, mul-zero, mul-suc, mul-le-mul_left, le_antisymm, pos_of_ne-zero}
use native.Mathlib.Decide.{dec_le}
use native.Mathlib.Omega.{arith}
use borrow.Author.Tests.{ltb-true, ltb-false}
use lib.Dec.{ltb, eqb, lit<}
use lib.IntN.{ℤ, pos, negsuc, neg_ℤ, nat_abs, ◌+ℤ◌, ◌-ℤ◌, ◌*ℤ◌, neg_ℤ-+ℤ, neg_ℤ-neg_ℤ}
use lib.Signed.{non_neg}
use Rattle.language.specs.Text.{when◌then◌else◌}
use Rattle.language.specs.Syntax.{times, per}
use Rattle.language.specs.Prices.{in_range, signed, differ, nearest, rounded, Nearest, is_zero, ranged, reckoned}
use Rattle.language.proofs.Logic.Integers.{abs_minus, abs_between}

-- ---- without signs

-- d n is at most half of d above t, and less than that below it
record Up (t d n : ℕ) : Type 0 where
  low : 2 * (d * n) ≤ 2 * t + d
  high : 2 * t < 2 * (d * n) + d

nearest_up : (t d : ℕ) → 0 < d → Up t d (nearest t d)
nearest_up t d p = by_rest (ltb (2 * (t % d)) d) refl
  where
    parted : d * (t / d) + t % d ≡ t
    parted = div-add-mod t d

    small : t % d < d
    small = mod-lt t p

    by_rest : (b : Bool) → ltb (2 * (t % d)) d ≡ b → Up t d (when b then t / d else t / d + 1)
    by_rest true e =
        let k = ltb-true (2 * (t % d)) d e in
        record { low = omega (arith, parted, small, k); high = omega (arith, parted, small, k) }
    by_rest false e =
        let k = ltb-false (2 * (t % d)) d e in
        let z : d * (t / d + 1) ≡ d * (t / d) + d = mul-add d (t / d) 1 ∙ ap (λ (n : ℕ). d * (t / d) + n) (mul-one d) in
        record { low = omega (arith, parted, small, k, z); high = omega (arith, parted, small, k, z) }

up_least : (t d m n : ℕ) → Up t d m → Up t d n → m ≤ n
up_least t d m n g h =
    elim (dec_le m n) [
      | yes l ↦ l
      | no l ↦ absurd
          (let k : d * suc n ≤ d * m = mul-le-mul_left d (omega (arith, l)) in
          omega (arith, g.low, h.high, k, mul-suc d n))
    ]

up_only : (t d m n : ℕ) → Up t d m → Up t d n → m ≡ n
up_only t d m n g h = le_antisymm (up_least t d m n g h) (up_least t d n m h g)

-- ---- signs

pub abs_signed : (b : Bool) (n : ℕ) → nat_abs (signed b n) ≡ n
abs_signed true n = abs_minus (pos n)
abs_signed false n = refl

parted_signed : (z : ℤ) → z ≡ signed (not (non_neg z)) (nat_abs z)
parted_signed (pos n) = refl
parted_signed (negsuc n) = refl

zero_signed : (a b : Bool) → signed a 0 ≡ signed b 0
zero_signed true true = refl
zero_signed true false = refl
zero_signed false true = refl
zero_signed false false = refl

-- on one side of zero, and on either side
apart : (b : Bool) (x y : ℕ) → nat_abs (signed b x -ℤ signed b y) ≡ (x - y) + (y - x)
apart false x y = abs_between x y
apart true x y = ap nat_abs (sym (neg_ℤ-+ℤ (pos x) (neg_ℤ (pos y)))) ∙ abs_minus (pos x -ℤ pos y) ∙ abs_between x y

across : (b : Bool) (x y : ℕ) → nat_abs (signed b x -ℤ signed (not b) y) ≡ x + y
across false x y = ap (λ (z : ℤ). nat_abs (pos x +ℤ z)) (neg_ℤ-neg_ℤ (pos y))
across true x y = ap nat_abs (sym (neg_ℤ-+ℤ (pos x) (pos y))) ∙ abs_minus (pos (x + y))

-- the product of a divisor and a quotient lies on the side that their signs say
product_side : (b : Bool) (d : ℤ) (n : ℕ) → d *ℤ signed (differ b (non_neg d)) n ≡ signed (not b) (nat_abs d * n)
product_side true (pos d) n = refl
product_side true (negsuc d) zero = simp mul-zero
product_side true (negsuc d) (suc n) = refl
product_side false (pos d) zero = simp mul-zero
product_side false (pos d) (suc n) = refl
product_side false (negsuc d) n = refl

one_of_sides : (b c s : Bool) → (s ≡ differ b c) ⊎ (s ≡ differ (not b) c)
one_of_sides true true true = inr refl
one_of_sides true true false = inl refl
one_of_sides true false true = inl refl
one_of_sides true false false = inr refl
one_of_sides false true true = inl refl
one_of_sides false true false = inr refl
one_of_sides false false true = inr refl
one_of_sides false false false = inl refl

-- ---- a quotient on the side of its operands, and on the other

module _ (t d : ℤ) where
  abbrev side : Bool
  side = differ (non_neg t) (non_neg d)

  distance : (n : ℕ) → nat_abs (t -ℤ d *ℤ signed side n) ≡ (nat_abs t - nat_abs d * n) + (nat_abs d * n - nat_abs t)
  distance n = ap₂ (λ (x y : ℤ). nat_abs (x -ℤ y)) (parted_signed t) (product_side (non_neg t) d n) ∙ apart (not (non_neg t)) (nat_abs t) (nat_abs d * n)

  distance_other : (n : ℕ) → nat_abs (t -ℤ d *ℤ signed (differ (not (non_neg t)) (non_neg d)) n) ≡ nat_abs t + nat_abs d * n
  distance_other n =
      ap₂ (λ (x y : ℤ). nat_abs (x -ℤ y)) (parted_signed t) (product_side (not (non_neg t)) d n) ∙ across (not (non_neg t)) (nat_abs t) (nat_abs d * n)

  reach : (n : ℕ) → nat_abs (d *ℤ signed side n) ≡ nat_abs d * n
  reach n = ap nat_abs (product_side (non_neg t) d n) ∙ abs_signed (not (non_neg t)) (nat_abs d * n)

  up_nearest : (n : ℕ) → Up (nat_abs t) (nat_abs d) n → Nearest t d (signed side n)
  up_nearest n u = record {
    close = omega (arith, distance n, u.low, u.high);
    away = λ e. omega (arith, distance n, reach n, u.low, u.high, e);
  }

  nearest_up_too : (n : ℕ) → Nearest t d (signed side n) → Up (nat_abs t) (nat_abs d) n
  nearest_up_too n h = record {
    low = omega (arith, distance n, h.close);
    high = elim (dec_le (2 * (nat_abs d * n) + nat_abs d) (2 * nat_abs t)) [
      | yes l ↦ absurd (omega (arith, distance n, reach n, h.close, l, h.away (omega (arith, distance n, h.close, l))))
      | no l ↦ omega (arith, l)
    ];
  }

  -- what lies near is on the side of the operands
  on_side : (q : ℤ) → 0 < nat_abs d → Nearest t d q → q ≡ signed side (nat_abs q)
  on_side q p h = ⊎_elim here there (one_of_sides (non_neg t) (non_neg d) (not (non_neg q)))
    where
      here : not (non_neg q) ≡ side → q ≡ signed side (nat_abs q)
      here e = parted_signed q ∙ ap (λ (s : Bool). signed s (nat_abs q)) e

      far : (n : ℕ) → 2 * (nat_abs t + nat_abs d * n) ≤ nat_abs d → n ≡ 0
      far zero l = refl
      far (suc n) l = absurd (omega (arith, p, l, mul-suc (nat_abs d) n))

      there : not (non_neg q) ≡ differ (not (non_neg t)) (non_neg d) → q ≡ signed side (nat_abs q)
      there e =
          let other = differ (not (non_neg t)) (non_neg d) in
          let f : q ≡ signed other (nat_abs q) = parted_signed q ∙ ap (λ (s : Bool). signed s (nat_abs q)) e in
          let l : nat_abs (t -ℤ d *ℤ q) ≡ nat_abs t + nat_abs d * nat_abs q = ap (λ (z : ℤ). nat_abs (t -ℤ d *ℤ z)) f ∙ distance_other (nat_abs q) in
          let z : nat_abs q ≡ 0 = far (nat_abs q) (omega (arith, l, h.close)) in
          f ∙ ap (signed other) z ∙ zero_signed other side ∙ ap (signed side) (sym z)

pub rounded_nearest : (t d : ℤ) → 0 < nat_abs d → Nearest t d (rounded t d)
rounded_nearest t d p = up_nearest t d (nearest (nat_abs t) (nat_abs d)) (nearest_up (nat_abs t) (nat_abs d) p)

pub nearest_only : (t d q : ℤ) → 0 < nat_abs d → Nearest t d q → q ≡ rounded t d
nearest_only t d q p h =
    let e = on_side t d q p h in
    let u : Up (nat_abs t) (nat_abs d) (nat_abs q) = nearest_up_too t d (nat_abs q) (subst (Nearest t d) e h) in
    e ∙ ap (signed (side t d)) (up_only (nat_abs t) (nat_abs d) (nat_abs q) (nearest (nat_abs t) (nat_abs d)) u (nearest_up (nat_abs t) (nat_abs d) p))

-- ---- what `times` and `per` give

ranged_same : {c : ℤ} (z : ℤ) → ranged z ≡ some c → z ≡ c
ranged_same {c} z e = go (in_range z) e
  where
    go : (b : Bool) → (when b then some z else none) ≡ some c → z ≡ c
    go true e = cc
    go false e = absurd (let z : ◌≡◌ {A = ℕ} 0 1 = cc in omega arith)

pub product_nearest : (a b c : ℤ) → reckoned times a b ≡ some c → Nearest (a *ℤ b) (pos 100) c
product_nearest a b c e =
    subst (Nearest (a *ℤ b) (pos 100)) (ranged_same (rounded (a *ℤ b) (pos 100)) e) (rounded_nearest (a *ℤ b) (pos 100) (lit< tt))

pub quotient_nearest : (a b c : ℤ) → reckoned per a b ≡ some c → Nearest (a *ℤ pos 100) b c
quotient_nearest a b c e = go (is_zero b) refl e
  where
    go : (z : Bool) → is_zero b ≡ z → (when z then none else ranged (rounded (a *ℤ pos 100) b)) ≡ some c → Nearest (a *ℤ pos 100) b c
    go true q e = absurd (let z : ◌≡◌ {A = ℕ} 0 1 = cc in omega arith)
    go false q e =
        let p : 0 < nat_abs b = pos_of_ne-zero (λ n. true≢false (sym (ap (λ (m : ℕ). eqb m 0) n) ∙ q)) in
        subst (Nearest (a *ℤ pos 100) b) (ranged_same (rounded (a *ℤ pos 100) b) e) (rounded_nearest (a *ℤ pos 100) b p)
