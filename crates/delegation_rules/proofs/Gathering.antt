-- The numbers of the variables on which a principal has delegate, gathered one by one.
-- Assumes nothing.
use mathlib.Core.Path.{◌≡◌, refl, sym, ap, ◌∙◌}
use mathlib.Core.Bool.{true, false}
use mathlib.Core.List.{List, [], ◌∷◌, ◌++◌, map}
use Prim.Native.Nat.{ℕ, ◌+◌, ◌<◌}
use native.Mathlib.Numerals.{add-one}
use native.Mathlib.Omega.{arith}
use lib.Dec.{T}
use lib.ListN.{length, get_or, set, take}
use lib.Seq.{take-suc-set, take-length}
use Rattle.language.specs.Text.{keep, distinct}
use Rattle.language.specs.Syntax.{Name, delegate}
use Rattle.language.specs.State.{Store}
use Rattle.language.specs.Chains.{has}
use Rattle.language.specs.Commands.{delegable}
use Rattle.store.specs.Rows.{position}
use Rattle.named_rights.specs.Numbers.{variables, Asks}
use Rattle.named_rights.proofs.Few.{store_shape}
use Rattle.delegation_rules.specs.Numbered.{Numbered, Counted}
use Rattle.named_rights.proofs.Places.{member_at, position_own}
use Rattle.delegation_rules.proofs.Places.{passing, passing_more, passing_same}

-- those among the first k variables
abbrev pub gathered : Store → Name → ℕ → List ℕ
gathered s q k = passing (λ x. has s delegate x q) (variables s) k

module _ (s : Store) (name : Name) (assertions : List ℕ) (asserted principals vars q : ℕ) (C : Counted s assertions asserted principals vars) (N : Numbered s name q) where
  all_distinct : T (distinct (variables s))
  all_distinct = (store_shape s C.is_valid).variables_distinct

  -- what is asked of each variable
  pub asks : (k : ℕ) → k < vars → Asks s delegate (get_or (variables s) k []) name principals k 3 q
  asks k h =
      let l : k < length (variables s) = omega (arith, C.every_variable) in
      record {
        everyone = C.everyone;
        variable_known = member_at (variables s) k l;
        variable_is = sym (position_own (variables s) k all_distinct l);
        right_is = refl;
        principal_known = N.known;
        principal_is = N.number;
      }

  pub gathered_more : (t : List ℕ) (n k : ℕ) → k < vars → n < length t → take n t ≡ gathered s name k → has s delegate (get_or (variables s) k []) name ≡ true
      → take (n + 1) (set t n k) ≡ gathered s name (k + 1)
  gathered_more t n k h m e r =
      let l : k < length (variables s) = omega (arith, C.every_variable) in
      ap (λ (i : ℕ). take i (set t n k)) (add-one n) ∙ take-suc-set t n k m ∙ ap (λ (u : List ℕ). u ++ (k ∷ [])) e
      ∙ passing_more (λ x. has s delegate x name) (variables s) k l all_distinct r

  pub gathered_same : (t : List ℕ) (n k : ℕ) → k < vars → take n t ≡ gathered s name k → has s delegate (get_or (variables s) k []) name ≡ false
      → take n t ≡ gathered s name (k + 1)
  gathered_same t n k h e r =
      let l : k < length (variables s) = omega (arith, C.every_variable) in
      e ∙ passing_same (λ x. has s delegate x name) (variables s) k l r

  pub gathered_all : (k : ℕ) → k ≡ vars → gathered s name k ≡ map (position (variables s)) (delegable s name)
  gathered_all k e = ap (λ (l : List Name). map (position (variables s)) (keep (λ x. has s delegate x name) l))
      (ap (λ (n : ℕ). take n (variables s)) (e ∙ C.every_variable) ∙ take-length (variables s))
