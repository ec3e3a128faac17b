-- Zeros behind a text that is written over another, where zeros stood behind the other.
-- Assumes nothing.
use mathlib.Core.Path.{◌≡◌, sym, ap, ◌∙◌}
use Prim.Native.Nat.{ℕ, zero, suc, ◌+◌, ◌-◌, ◌≤◌, ◌<◌}
use native.Mathlib.Omega.{arith}
use mathlib.Core.List.{◌++◌, append_assoc}
use lib.ListN.{length, take, drop, replicate, take-append-drop, replicate-append-replicate}
use lib.Seq.{take-take, length-take-le, drop-drop}
use Rattle.language.specs.Text.{Text}

drop_zeros : (i n : ℕ) → i ≤ n → drop i (replicate {A = ℕ} n 0) ≡ replicate (n - i) 0
drop_zeros zero n h = ap (λ (k : ℕ). replicate {A = ℕ} k 0) (let q : n ≡ n - 0 = omega arith in q)
drop_zeros (suc i) zero h = absurd (omega arith)
drop_zeros (suc i) (suc n) h = drop_zeros i n (omega arith) ∙ ap (λ (k : ℕ). replicate {A = ℕ} k 0) (let q : n - i ≡ suc n - suc i = omega arith in q)

-- s is written over a up to r; from `used` on a is zeros
module _ (a s : Text) (r used : ℕ) (long : length s ≡ length a) (fits : r ≤ length a) (kept : drop r s ≡ drop r a) (within : used ≤ length a)
    (clear : drop used a ≡ replicate (length a - used) 0) where
  pub longer : used ≤ r → s ≡ take r s ++ replicate (length s - r) 0
  longer h =
      let e : r ≡ used + (r - used) = omega arith in
      let n : length a - used - (r - used) ≡ length s - r = omega arith in
      let z : drop r a ≡ replicate (length s - r) 0 =
      ap (λ (k : ℕ). drop k a) e ∙ sym (drop-drop (r - used) used a) ∙ ap (drop (r - used)) clear
      ∙ drop_zeros (r - used) (length a - used) (omega arith) ∙ ap (λ (k : ℕ). replicate {A = ℕ} k 0) n in
      sym (take-append-drop r s) ∙ ap (λ (t : Text). take r s ++ t) (kept ∙ z)

  pub shorter : r < used → (take r (take used s) ++ replicate (length (take used s) - r) 0) ++ drop used s ≡ take r s ++ replicate (length s - r) 0
  shorter h =
      let e : used ≡ r + (used - r) = omega arith in
      let z : drop used s ≡ replicate (length a - used) 0 =
      ap (λ (k : ℕ). drop k s) e ∙ sym (drop-drop (used - r) r s) ∙ ap (drop (used - r)) kept ∙ drop-drop (used - r) r a ∙ ap (λ (k : ℕ). drop k a) (sym e) ∙ clear in
      let m : length (take used s) ≡ used = length-take-le used s (omega arith) in
      let n : length (take used s) - r + (length a - used) ≡ length s - r = omega arith in
      append_assoc (take r (take used s)) (replicate (length (take used s) - r) 0) (drop used s)
      ∙ (λ i. take-take r used s (let q : r ≤ used = omega arith in q) i ++ (replicate (length (take used s) - r) 0 ++ z i))
      ∙ ap (λ (t : Text). take r s ++ t) (replicate-append-replicate {A = ℕ} (length (take used s) - r) (length a - used) 0 ∙ ap (λ (k : ℕ). replicate {A = ℕ} k 0) n)
