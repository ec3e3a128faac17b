-- The place of a name in a list of names.
-- Assumes nothing.
use mathlib.Core.Path.{◌≡◌, refl, ap}
use mathlib.Core.Bool.{Bool, true, false}
use mathlib.Core.List.{List, [], ◌∷◌}
use Prim.Native.Nat.{ℕ, zero, suc, ◌≤◌, ◌<◌}
use native.Mathlib.Nat.{not-suc-le-zero, le_of_suc-le-suc}
use native.Mathlib.Omega.{arith}
use lib.ListN.{length, get_or}
use Rattle.language.specs.Text.{when◌then◌else◌, ◌≟◌}
use Rattle.language.specs.Syntax.{Name}
use Rattle.store.specs.Rows.{position}

pub position_at : (l : List Name) (x : Name) (k : ℕ) → k < length l → ((j : ℕ) → j < k → (get_or l j [] ≟ x) ≡ false)
    → (get_or l k [] ≟ x) ≡ true → position l x ≡ k
position_at [] x k h n e = absurd (not-suc-le-zero h)
position_at (y ∷ l) x zero h n e = rw e
position_at (y ∷ l) x (suc k) h n e =
    rw (n 0 (omega arith)) (ap suc (position_at l x k (le_of_suc-le-suc h) (λ j i. n (suc j) (omega arith)) e))

pub position_none : (l : List Name) (x : Name) → ((j : ℕ) → j < length l → (get_or l j [] ≟ x) ≡ false) → position l x ≡ length l
position_none [] x n = refl
position_none (y ∷ l) x n = rw (n 0 (omega arith)) (ap suc (position_none l x (λ j i. n (suc j) (omega arith))))

pub position_most : (l : List Name) (x : Name) → position l x ≤ length l
position_most [] x = omega arith
position_most (y ∷ l) x = go (y ≟ x) (position_most l x)
  where
    go : (b : Bool) → position l x ≤ length l → (when b then 0 else suc (position l x)) ≤ suc (length l)
    go true h = omega arith
    go false h = omega arith
