-- One step of a round: what a mark changes, and what it leaves.
use mathlib.Core.Path.{◌≡◌, refl, sym, ap, ◌∙◌}
use mathlib.Core.List.{List, [], ◌∷◌}
use mathlib.Core.Bool.{Bool, true, false, cond}
use mathlib.Core.Logic.{◌⊎◌, inl, inr, ⊎_elim}
use Prim.Native.Nat.{ℕ, zero, suc, ◌+◌, ◌≤◌, ◌<◌}
use native.Mathlib.Decide.{ℕ_discrete}
use native.Mathlib.Omega.{arith}
use lib.Dec.{ltb, eqb}
use lib.ListN.{length, get_or, set}
use lib.Seq.{get_or-set_same, get_or-set_other}
use borrow.Author.Tests.{ltb-true, eqb-true, lt-ltb, le-ltb, eq-eqb, ne_eqb}
use Rattle.search_steps.specs.Steps.{unreached, marked, one_if, left, Marks}

pub cond_cases : {A : Type 0} (b : Bool) (x y : A) → ((b ≡ true) × (cond b x y ≡ x)) ⊎ (cond b x y ≡ y)
cond_cases true x y = inl (refl, refl)
cond_cases false x y = inr refl

-- the step from q to p marks p
pub record Hit (d q p : ℕ) (l : List ℕ) : Type 0 where
  pub q_in : q < length l
  pub p_in : p < length l
  pub q_has : get_or l q 0 ≡ d
  pub p_has : get_or l p 0 ≡ unreached
  pub gives : marked d q p l ≡ set l p (d + 1)

pub marked_cases : (d q p : ℕ) (l : List ℕ) → (marked d q p l ≡ l) ⊎ Hit d q p l
unfolding marked
marked_cases d q p l =
    let l4 : List ℕ = cond (eqb (get_or l p 0) unreached) (set l p (d + 1)) l in
    let l3 : List ℕ = cond (ltb p (length l)) l4 l in
    let l2 : List ℕ = cond (eqb (get_or l q 0) d) l3 l in
    ⊎_elim
    (λ h1. ⊎_elim
    (λ h2. ⊎_elim
    (λ h3. ⊎_elim
    (λ h4. inr (record { q_in = ltb-true _ _ h1.0; p_in = ltb-true _ _ h3.0; q_has = eqb-true _ _ h2.0; p_has = eqb-true _ _ h4.0; gives = h1.1 ∙ h2.1 ∙ h3.1 ∙ h4.1 }))
    (λ e. inl (h1.1 ∙ h2.1 ∙ h3.1 ∙ e))
    (cond_cases (eqb (get_or l p 0) unreached) (set l p (d + 1)) l))
    (λ e. inl (h1.1 ∙ h2.1 ∙ e))
    (cond_cases (ltb p (length l)) l4 l))
    (λ e. inl (h1.1 ∙ e))
    (cond_cases (eqb (get_or l q 0) d) l3 l))
    inl
    (cond_cases (ltb q (length l)) l2 l)

-- what has a mark keeps it
pub marked_keeps : (d q p k : ℕ) (l : List ℕ) → (get_or l k 0 ≡ unreached → ⊥) → get_or (marked d q p l) k 0 ≡ get_or l k 0
marked_keeps d q p k l has =
    ⊎_elim
    (λ e. ap (λ (x : List ℕ). get_or x k 0) e)
    (λ h. ap (λ (x : List ℕ). get_or x k 0) h.gives ∙ get_or-set_other l p k (d + 1) 0 (λ e. has (ap (λ (x : ℕ). get_or l x 0) e ∙ h.p_has)))
    (marked_cases d q p l)

-- q has d: p has a mark afterwards
pub marked_covers : (d q p : ℕ) (l : List ℕ) → d < 4096 → q < length l → p < length l → get_or l q 0 ≡ d → get_or (marked d q p l) p 0 ≡ unreached → ⊥
unfolding marked
marked_covers d q p l small q_in p_in q_has =
    elim (ℕ_discrete (get_or l p 0) unreached) [
      | yes e ↦ (λ f.
          let g : marked d q p l ≡ set l p (d + 1) = simp (lt-ltb q (length l) q_in, lt-ltb p (length l) p_in, eq-eqb (get_or l q 0) d q_has, eq-eqb (get_or l p 0) unreached e) in
          let s : get_or (marked d q p l) p 0 ≡ d + 1 = ap (λ (x : List ℕ). get_or x p 0) g ∙ get_or-set_same l p (d + 1) 0 p_in in
          omega arith)
      | no ne ↦ (λ f. ne (sym (marked_keeps d q p p l ne) ∙ f))
    ]

-- how many are left after a mark
pub left_set : (l : List ℕ) (p v : ℕ) → p < length l → get_or l p 0 ≡ unreached → (v ≡ unreached → ⊥) → left (set l p v) + 1 ≡ left l
unfolding left
left_set [] p v h e ne = absurd (omega arith)
left_set (x ∷ l) zero v h e ne = simp (ne_eqb v unreached ne, eq-eqb x unreached e) (omega arith)
left_set (x ∷ l) (suc p) v h e ne =
    let ih : left (set l p v) + 1 ≡ left l = left_set l p v (omega arith) e ne in
    omega arith

one_if_le : (b : Bool) → one_if b ≤ 1
one_if_le true = omega arith
one_if_le false = omega arith

-- somebody is left
pub left_some : (l : List ℕ) (p : ℕ) → p < length l → get_or l p 0 ≡ unreached → 0 < left l
unfolding left
left_some [] p h e = absurd (omega arith)
left_some (x ∷ l) zero h e = simp (eq-eqb x unreached e) (omega arith)
left_some (x ∷ l) (suc p) h e = omega (arith, left_some l p (omega arith) e)

pub left_le : (l : List ℕ) → left l ≤ length l
unfolding left
left_le [] = omega arith
left_le (x ∷ l) = omega (arith, left_le l, one_if_le (eqb x unreached))

-- a mark changes nothing, or leaves fewer
pub marked_left : (d q p : ℕ) (l : List ℕ) → d < 4096 → (marked d q p l ≡ l) ⊎ (left (marked d q p l) < left l)
marked_left d q p l small =
    ⊎_elim inl
    (λ h. inr (
    let s : left (set l p (d + 1)) + 1 ≡ left l = left_set l p (d + 1) h.p_in h.p_has (omega arith) in
    omega (arith, ap left h.gives)))
    (marked_cases d q p l)

-- the step from q to p, by the tests that the code makes
module _ (d q p : ℕ) (l : List ℕ) where
  pub no_q : length l ≤ q → Marks l (marked d q p l) l 0
  unfolding marked
  no_q h = record { marks = simp (le-ltb q (length l) h); counts = omega arith }

  pub not_d : q < length l → (get_or l q 0 ≡ d → ⊥) → Marks l (marked d q p l) l 0
  unfolding marked
  not_d h1 h = record { marks = simp (lt-ltb q (length l) h1, ne_eqb (get_or l q 0) d h); counts = omega arith }

  pub no_p : q < length l → get_or l q 0 ≡ d → length l ≤ p → Marks l (marked d q p l) l 0
  unfolding marked
  no_p h1 h2 h = record { marks = simp (lt-ltb q (length l) h1, eq-eqb (get_or l q 0) d h2, le-ltb p (length l) h); counts = omega arith }

  pub reached : q < length l → get_or l q 0 ≡ d → p < length l → (get_or l p 0 ≡ unreached → ⊥) → Marks l (marked d q p l) l 0
  unfolding marked
  reached h1 h2 h3 h = record { marks = simp (lt-ltb q (length l) h1, eq-eqb (get_or l q 0) d h2, lt-ltb p (length l) h3, ne_eqb (get_or l p 0) unreached h); counts = omega arith }

  pub reaches : d < 4096 → q < length l → get_or l q 0 ≡ d → p < length l → get_or l p 0 ≡ unreached → Marks l (marked d q p l) (set l p (d + 1)) 1
  unfolding marked
  reaches small h1 h2 h3 h = record {
    marks = simp (lt-ltb q (length l) h1, eq-eqb (get_or l q 0) d h2, lt-ltb p (length l) h3, eq-eqb (get_or l p 0) unreached h);
    counts = omega (arith, left_set l p (d + 1) h3 h (omega arith));
  }

-- a count so far, n, and what a call added to it, r
pub total : (n r l l' l₀ : ℕ) → n + l ≡ l₀ → r + l' ≡ l → n + r + l' ≡ l₀
total n r l l' l₀ e f = omega arith
