-- Lists of assertions entered or withdrawn one after the other.
-- Assumes nothing.
use mathlib.Core.Path.{◌≡◌, refl, ap, sym, ◌∙◌}
use mathlib.Core.Bool.{Bool, true, false, ◌||◌}
use mathlib.Core.List.{List, [], ◌∷◌, ◌++◌, map-append}
use Prim.Native.Nat.{ℕ, ◌+◌, ◌≤◌, ◌<◌}
use native.Mathlib.Numerals.{add-one}
use native.Mathlib.Omega.{arith}
use lib.ListN.{length, get_or, take, drop, take-append-drop}
use lib.Seq.{take-suc}
use Rattle.language.specs.Text.{when◌then◌else◌, sum}
use Rattle.language.specs.Syntax.{Name, Right}
use Rattle.language.specs.State.{Assertion, same_assertion, stands, enter, withdraw}
use Rattle.language.specs.Weight.{assertion_weight}
use Rattle.language.specs.Commands.{assertions_on, entering, withdrawing}
use Rattle.language.proofs.Meaning.Weights.{enter_weight}

pub entering_append : (l m n : List Assertion) → entering l (m ++ n) ≡ entering (entering l m) n
entering_append l [] n = refl
entering_append l (a ∷ m) n = entering_append (enter l a) m n

pub withdrawing_append : (l m n : List Assertion) → withdrawing l (m ++ n) ≡ withdrawing (withdrawing l m) n
withdrawing_append l [] n = refl
withdrawing_append l (a ∷ m) n = withdrawing_append (withdraw l a) m n

-- to enter more never makes the whole lighter
pub entering_grows : (l m : List Assertion) → sum assertion_weight l ≤ sum assertion_weight (entering l m)
entering_grows l [] = omega arith
entering_grows l (a ∷ m) = omega (arith, enter_weight l a, entering_grows (enter l a) m)

pub entering_grows_by : (l m n : List Assertion) → sum assertion_weight (entering l m) ≤ sum assertion_weight (entering l (m ++ n))
entering_grows_by l m n = rw (entering_append l m n) (entering_grows (entering l m) n)

pub enter_stood : (l : List Assertion) (a : Assertion) → stands l a ≡ true → enter l a ≡ l
enter_stood l a e = rw e

pub withdraw_absent : (l : List Assertion) (a : Assertion) → stands l a ≡ false → withdraw l a ≡ l
withdraw_absent [] a e = refl
withdraw_absent (b ∷ l) a e = go (same_assertion a b) e (withdraw_absent l a)
  where
    go : (c : Bool) → (c || stands l a) ≡ false → (stands l a ≡ false → withdraw l a ≡ l) → (when c then l else b ∷ withdraw l a) ≡ b ∷ l
    go true e r = absurd (let z : ◌≡◌ {A = ℕ} 0 1 = cc in omega arith)
    go false e r = ap (λ (m : List Assertion). b ∷ m) (r e)

module _ (xs : List Name) (q : Name) (r : Right) (p : Name) where
  abbrev pub assertion_at : ℕ → Assertion
  assertion_at i = record { variable = get_or xs i []; from = q; right = r; to = p }

  -- one variable more
  pub on_next : (i : ℕ) → i < length xs → assertions_on (take (i + 1) xs) q r p ≡ assertions_on (take i xs) q r p ++ (assertion_at i ∷ [])
  on_next i h =
      ap (λ (n : ℕ). assertions_on (take n xs) q r p) (add-one i) ∙ ap (λ (l : List Name). assertions_on l q r p) (take-suc xs i [] h)
      ∙ map-append (λ x. record { variable = x; from = q; right = r; to = p }) (take i xs) (get_or xs i [] ∷ [])

  -- the first of them, and the rest
  pub on_split : (i : ℕ) → assertions_on xs q r p ≡ assertions_on (take i xs) q r p ++ assertions_on (drop i xs) q r p
  on_split i =
      ap (λ (l : List Name). assertions_on l q r p) (sym (take-append-drop i xs))
      ∙ map-append (λ x. record { variable = x; from = q; right = r; to = p }) (take i xs) (drop i xs)
