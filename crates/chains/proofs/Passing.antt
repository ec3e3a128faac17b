-- The pass over the delegations that a round is, and which delegations there are.
use mathlib.Core.Path.{◌≡◌, refl, sym, ap, ◌∙◌, subst}
use mathlib.Core.List.Memᴰ
use mathlib.Core.List.{List, [], ◌∷◌, map}
use mathlib.Core.Bool.{Bool, true, false, cond}
use mathlib.Core.Logic.{◌⊎◌, inl, inr, ⊎_elim}
use Prim.Native.Nat.{ℕ, ◌+◌, ◌≤◌, ◌<◌}
use native.Mathlib.Numerals.{add-one}
use lib.Dec.{eqb}
use lib.ListN.{length, get_or, drop, drop_of_length-le}
use lib.Seq.{drop-cons}
use borrow.Author.Tests.{eqb-true, eq-eqb}
use Rattle.assertion.specs.Packed.{Assertion}
use Rattle.assertion.proofs.Packing.{assertion_is}
use Rattle.chains.specs.Chain.{Asked, Step, Step.assertion}
use Rattle.search_steps.specs.Steps.{◌∈◌, Delegation, delegations, marked}
use Rattle.chains.specs.Rounds.{relevant, one_round}
use Rattle.search_steps.proofs.Gathering.{delegation_is}

-- what each step keeps holds after the pass
pub pass_keeps : (P : List ℕ → Type 0) (d : ℕ) (s : List Delegation) (l : List ℕ) → ((x : Delegation) (e : List ℕ) → x ∈ s → P e → P (marked d x.from x.to e)) → P l → P (one_round d s l)
unfolding one_round
pass_keeps P d [] l keep h = h
pass_keeps P d (x ∷ s) l keep h = pass_keeps P d s (marked d x.from x.to l) (λ y e m. keep y e (Memᴰ.tail m)) (keep x l (Memᴰ.head refl) h)

-- what the step of x brings and each step keeps holds after the pass
pub pass_brings : (P Q : List ℕ → Type 0) (d : ℕ) (s : List Delegation) (l : List ℕ) (x : Delegation) → x ∈ s
    → ((y : Delegation) (e : List ℕ) → y ∈ s → P e → P (marked d y.from y.to e)) → ((y : Delegation) (e : List ℕ) → Q e → Q (marked d y.from y.to e))
    → ((e : List ℕ) → P e → Q (marked d x.from x.to e)) → P l → Q (one_round d s l)
unfolding one_round
pass_brings P Q d [] l x m keep stay bring h = absurd (Memᴰ.not-nil m)
pass_brings P Q d (y ∷ s) l x m keep stay bring h =
    let next : List ℕ = marked d y.from y.to l in
    ⊎_elim
    (λ e. pass_keeps Q d s next (λ z k n. stay z k) (subst (λ (z : Delegation). Q (marked d z.from z.to l)) e (bring l h)))
    (λ n. pass_brings P Q d s next x n (λ z k o. keep z k (Memᴰ.tail o)) stay bring (keep y l (Memᴰ.head refl) h))
    (Memᴰ.cases_cons m)

-- the pass so far and what is still to come make the whole pass, whatever the delegations are read from
module _ {A : Type 0} (f : A → Delegation) (d i : ℕ) (s : List A) where
  pub pass_on : (z : A) (l m all : List ℕ) → i < length s → one_round d (map f (drop i s)) l ≡ all → m ≡ marked d (f (get_or s i z)).from (f (get_or s i z)).to l → one_round d (map f (drop (i + 1) s)) m ≡ all
  unfolding one_round
  pass_on z l m all lt e made =
      ap (one_round d (map f (drop (i + 1) s))) made
      ∙ ap (λ (k : ℕ). one_round d (map f (drop k s)) (marked d (f (get_or s i z)).from (f (get_or s i z)).to l)) (add-one i)
      ∙ ap (λ (r : List A). one_round d (map f r) l) (sym (drop-cons s i z lt))
      ∙ e

  pub pass_over : (l : List ℕ) → length s ≤ i → one_round d (map f (drop i s)) l ≡ l
  unfolding one_round
  pass_over l h = ap (λ (r : List A). one_round d (map f r) l) (drop_of_length-le s h)

-- the delegations are those assertions with the variable and the right
came_from : (b c : Bool) (x y : Delegation) (r : List Delegation) → x ∈ cond b (cond c (y ∷ r) r) r → ((b ≡ true) × (c ≡ true) × (x ≡ y)) ⊎ x ∈ r
came_from true true x y r m = ⊎_elim (λ e. inl (refl, refl, e)) inr (Memᴰ.cases_cons m)
came_from true false x y r m = inr m
came_from false c x y r m = inr m

pub delegated : (v w : ℕ) (s : List Assertion) (x : Delegation) → x ∈ delegations v w s → record { variable = v; from = x.from; right = w; to = x.to } ∈ s
unfolding delegations
delegated v w [] x m = absurd (Memᴰ.not-nil m)
delegated v w (a ∷ s) x m =
    ⊎_elim
    (λ h. Memᴰ.head (sym (assertion_is a v x.from w x.to (eqb-true _ _ h.0) (sym (ap (λ (z : Delegation). z.from) h.2)) (eqb-true _ _ h.1) (sym (ap (λ (z : Delegation). z.to) h.2)))))
    (λ n. Memᴰ.tail (delegated v w s x n))
    (came_from (eqb a.variable v) (eqb a.right w) x (record { from = a.from; to = a.to }) (delegations v w s) m)

stays_in : (b c : Bool) (x y : Delegation) (r : List Delegation) → x ∈ r → x ∈ cond b (cond c (y ∷ r) r) r
stays_in true true x y r m = Memᴰ.tail m
stays_in true false x y r m = m
stays_in false c x y r m = m

comes_in : (b c : Bool) (x y : Delegation) (r : List Delegation) → b ≡ true → c ≡ true → x ≡ y → x ∈ cond b (cond c (y ∷ r) r) r
comes_in b c x y r e f g = simp (e, f) (Memᴰ.head g)

pub delegates : (v w q p : ℕ) (s : List Assertion) → record { variable = v; from = q; right = w; to = p } ∈ s → record { from = q; to = p } ∈ delegations v w s
unfolding delegations
delegates v w q p [] m = absurd (Memᴰ.not-nil m)
delegates v w q p (a ∷ s) m =
    let x : Delegation = record { from = q; to = p } in
    let y : Delegation = record { from = a.from; to = a.to } in
    ⊎_elim
    (λ e. comes_in (eqb a.variable v) (eqb a.right w) x y (delegations v w s)
    (eq-eqb a.variable v (sym (ap (λ (z : Assertion). z.variable) e)))
    (eq-eqb a.right w (sym (ap (λ (z : Assertion). z.right) e)))
    (delegation_is x a.from a.to (ap (λ (z : Assertion). z.from) e) (ap (λ (z : Assertion). z.to) e)))
    (λ n. stays_in (eqb a.variable v) (eqb a.right w) x y (delegations v w s) (delegates v w q p s n))
    (Memᴰ.cases_cons m)

-- a relevant delegation is a step, if it ends at a principal
pub relevant_step : (a : Asked) (x : Delegation) → x ∈ relevant a → x.to < a.count → Step a x.from x.to
relevant_step a x m lt = assertion (delegated a.variable a.right a.assertions x m) lt
