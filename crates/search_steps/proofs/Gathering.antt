-- The assertions gathered for a variable and a right, from their numbers.
use mathlib.Core.Path.{◌≡◌, refl, sym, ap, ◌∙◌}
use mathlib.Core.List.{List, [], ◌∷◌, ◌++◌, map, map-append, append_assoc, append-nil}
use mathlib.Core.Bool.{Bool, true, false, cond}
use Prim.Native.Nat.{ℕ, suc, ◌+◌, ◌/◌, ◌%◌, ◌^◌, ◌≤◌, ◌<◌}
use native.Mathlib.Decide.{ℕ_discrete}
use native.Mathlib.Numerals.{add-one}
use native.Mathlib.Omega.{arith}
use lib.Dec.{eqb}
use lib.ListN.{length, get_or, take, drop, set, drop_of_length-le}
use lib.Seq.{drop-cons, take-suc-set}
use borrow.Author.Tests.{eq-eqb, ne_eqb}
use Rattle.assertion.specs.Packed.{Assertion, fields, key, upper}
use Rattle.search_steps.specs.Steps.{Delegation, delegations, handed}

-- a delegation is its two numbers
pub delegation_is : (x : Delegation) (q p : ℕ) → x.from ≡ q → x.to ≡ p → x ≡ record { from = q; to = p }
delegation_is x q p eq ep = ap (λ (y : ℕ). record { from = y; to = x.to }) eq ∙ ap (λ (y : ℕ). record { from = q; to = y }) ep

-- gathering goes assertion by assertion
first_kept : (b c : Bool) (x : Delegation) (r : List Delegation) → cond b (cond c (x ∷ r) r) r ≡ cond b (cond c (x ∷ []) []) [] ++ r
first_kept true true x r = refl
first_kept true false x r = refl
first_kept false c x r = refl

delegations_first : (v w : ℕ) (a : Assertion) (s : List Assertion) → delegations v w (a ∷ s) ≡ delegations v w (a ∷ []) ++ delegations v w s
unfolding delegations
delegations_first v w a s = first_kept (eqb a.variable v) (eqb a.right w) (handed a) (delegations v w s)

-- one packed assertion alone gives a delegation exactly if its upper half is the key
module _ (v w n : ℕ) (w_Fits : w < 2 ^ 16) where
  one_kept : upper n ≡ key v w → delegations v w (fields n ∷ []) ≡ handed (fields n) ∷ []
  unfolding delegations fields
  one_kept e = simp (eq-eqb (n / 2 ^ 48) v (omega arith), eq-eqb (n / 2 ^ 32 % 2 ^ 16) w (omega arith))

  none_kept : (upper n ≡ key v w → ⊥) → delegations v w (fields n ∷ []) ≡ []
  unfolding delegations fields
  none_kept ne =
      elim (ℕ_discrete (n / 2 ^ 48) v) [
        | yes e ↦ simp (eq-eqb (n / 2 ^ 48) v e, ne_eqb (n / 2 ^ 32 % 2 ^ 16) w (λ f. ne (omega arith)))
        | no other ↦ simp (ne_eqb (n / 2 ^ 48) v other)
      ]

  -- it is kept at place k, or passed over
  pub kept : (k : ℕ) (l : List Assertion) → k < length l → upper n ≡ key v w → map handed (take (k + 1) (set l k (fields n))) ≡ map handed (take k l) ++ delegations v w (fields n ∷ [])
  kept k l room e =
      ap (λ (j : ℕ). map handed (take j (set l k (fields n)))) (add-one k)
      ∙ ap (map handed) (take-suc-set l k (fields n) room)
      ∙ map-append handed (take k l) (fields n ∷ [])
      ∙ ap (λ (t : List Delegation). map handed (take k l) ++ t) (sym (one_kept e))

  pub passed_over : (t : List Delegation) → (upper n ≡ key v w → ⊥) → t ≡ t ++ delegations v w (fields n ∷ [])
  passed_over t ne = sym (ap (λ (r : List Delegation). t ++ r) (none_kept ne) ∙ append-nil t)

-- what is gathered, t, and what is still to come make the whole
module _ (v w : ℕ) (i : ℕ) (s : List ℕ) (all t : List Delegation) where
  pub gathered_next : (u : List Delegation) → i < length s → t ++ delegations v w (map fields (drop i s)) ≡ all → u ≡ t ++ delegations v w (fields (get_or s i 0) ∷ []) → u ++ delegations v w (map fields (drop (i + 1) s)) ≡ all
  gathered_next u lt e f =
      let one : List Delegation = delegations v w (fields (get_or s i 0) ∷ []) in
      let rest : List Delegation = delegations v w (map fields (drop (i + 1) s)) in
      let more : delegations v w (map fields (drop i s)) ≡ one ++ rest =
      ap (λ (r : List ℕ). delegations v w (map fields r)) (drop-cons s i 0 lt) ∙ delegations_first v w (fields (get_or s i 0)) (map fields (drop (suc i) s))
      ∙ ap (λ (j : ℕ). one ++ delegations v w (map fields (drop j s))) (sym (add-one i)) in
      ap (λ (r : List Delegation). r ++ rest) f ∙ append_assoc t one rest ∙ ap (λ (r : List Delegation). t ++ r) (sym more) ∙ e

  pub gathered_done : length s ≤ i → t ++ delegations v w (map fields (drop i s)) ≡ all → t ≡ all
  unfolding delegations
  gathered_done h e = sym (append-nil t) ∙ ap (λ (r : List ℕ). t ++ delegations v w (map fields r)) (sym (drop_of_length-le s h)) ∙ e
