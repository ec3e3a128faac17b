-- Places of names: a name that is there has a place of its own.
use mathlib.Core.Path.{◌≡◌, refl, sym, ap, ◌∙◌}
use Prim.Native.Nat.{ℕ, zero, suc, ◌<◌}
use native.Mathlib.Nat.{not-suc-le-zero, le_of_suc-le-suc}
use native.Mathlib.Omega.{arith}
use mathlib.Core.Bool.{Bool, true, false, not, ◌||◌}
use mathlib.Core.List.{List, [], ◌∷◌}
use lib.Dec.{T, T_not}
use lib.ListN.{length, get_or}
use Rattle.language.specs.Text.{when◌then◌else◌, ◌≟◌, member, distinct}
use Rattle.language.specs.Syntax.{Name, Right, read, write, append, delegate}
use Rattle.store.specs.Rows.{position}
use Rattle.language.proofs.Logic.Tests.{both, left_of_lem, right_of, true_of, ==→≡, ==_refl, ==_sym}
use Rattle.named_rights.specs.Numbers.{code}

pub name_at : (us : List Name) (t : Name) → T (member t us) → get_or us (position us t) [] ≡ t
name_at [] t m = absurd m
name_at (u ∷ us) t m = go (name_at us t) (u ≟ t) (==→≡ u t) (t ≟ u) (==_sym t u) m
  where
    go : (T (member t us) → get_or us (position us t) [] ≡ t) → (b : Bool) → (T b → u ≡ t) → (c : Bool) → (T c → T b) → T (c || member t us)
        → get_or (u ∷ us) (when b then 0 else suc (position us t)) [] ≡ t
    go r true e c i k = e tt
    go r false e true i k = absurd (i tt)
    go r false e false i k = r k

pub position_lt : (us : List Name) (t : Name) → T (member t us) → position us t < length us
position_lt [] t m = absurd m
position_lt (u ∷ us) t m = go (position_lt us t) (u ≟ t) (t ≟ u) (==_sym t u) m
  where
    go : (T (member t us) → position us t < length us) → (b c : Bool) → (T c → T b) → T (c || member t us) → (when b then 0 else suc (position us t)) < suc (length us)
    go r true c i k = omega arith
    go r false true i k = absurd (i tt)
    go r false false i k = omega (arith, r k)

pub same_place : (us : List Name) (a b : Name) → T (member a us) → T (member b us) → position us a ≡ position us b → a ≡ b
same_place us a b m n e = sym (name_at us a m) ∙ ap (λ (i : ℕ). get_or us i []) e ∙ name_at us b n

-- the name at a place, where the names are distinct
pub member_at : (us : List Name) (k : ℕ) → k < length us → T (member (get_or us k []) us)
member_at [] k h = absurd (not-suc-le-zero h)
member_at (u ∷ us) zero h = left_of_lem (u ≟ u) (member u us) (==_refl u)
member_at (u ∷ us) (suc k) h = right_of (get_or us k [] ≟ u) (member (get_or us k []) us) (member_at us k (le_of_suc-le-suc h))

pub position_own : (us : List Name) (k : ℕ) → T (distinct us) → k < length us → position us (get_or us k []) ≡ k
position_own [] k d h = absurd (not-suc-le-zero h)
position_own (u ∷ us) zero d h = let e : (u ≟ u) ≡ true = true_of (u ≟ u) (==_refl u) in rw e
position_own (u ∷ us) (suc k) d h =
    let (d₁, d₂) = both (not (member u us)) (distinct us) d in
    go (u ≟ get_or us k []) (==→≡ u (get_or us k [])) (T_not (member u us) d₁) (position_own us k d₂ (le_of_suc-le-suc h))
  where
    go : (b : Bool) → (T b → u ≡ get_or us k []) → ¬ T (member u us) → position us (get_or us k []) ≡ k → (when b then 0 else suc (position us (get_or us k []))) ≡ suc k
    go true e n r = absurd (n (rw (e tt) (member_at us k (le_of_suc-le-suc h))))
    go false e n r = ap suc r

pub code_lt : (r : Right) → code r < 4
code_lt read = omega arith
code_lt write = omega arith
code_lt append = omega arith
code_lt delegate = omega arith

right_at : ℕ → Right
right_at zero = read
right_at (suc zero) = write
right_at (suc (suc zero)) = append
right_at (suc (suc (suc n))) = delegate

right_code_lem : (r : Right) → right_at (code r) ≡ r
unfolding right_at
right_code_lem read = refl
right_code_lem write = refl
right_code_lem append = refl
right_code_lem delegate = refl

pub same_code : (q r : Right) → code q ≡ code r → q ≡ r
same_code q r e = sym (right_code_lem q) ∙ ap right_at e ∙ right_code_lem r
