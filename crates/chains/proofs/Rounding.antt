-- One round: exactly those are reached who are one delegation from somebody with mark d.
use mathlib.Core.Path.{◌≡◌, refl, sym, ap, ◌∙◌, subst}
use mathlib.Core.List.{List}
use mathlib.Core.Logic.{◌⊎◌, inl, inr, ⊎_elim}
use Prim.Native.Nat.{ℕ, ◌+◌, ◌≤◌, ◌<◌}
use native.Mathlib.Decide.{ℕ_discrete}
use native.Mathlib.Omega.{arith}
use lib.ListN.{length, get_or, set, length-set}
use lib.Seq.{get_or-set_same, get_or-set_other}
use Rattle.chains.specs.Chain.{Asked, Step}
use Rattle.search_steps.specs.Steps.{◌∈◌, Delegation, unreached, marked, left}
use Rattle.chains.specs.Rounds.{relevant, one_round}
use Rattle.search_steps.proofs.Marking.{Hit, marked_cases, marked_keeps, marked_covers, marked_left}
use Rattle.chains.proofs.Passing.{pass_keeps, pass_brings, delegates, relevant_step}

-- p was unreached in D, and was reached in e by a step from somebody who has d in D
pub record New (a : Asked) (d : ℕ) (D e : List ℕ) (p : ℕ) : Type 0 where
  pub was : get_or D p 0 ≡ unreached
  pub is : get_or e p 0 ≡ d + 1
  pub by : ℕ
  pub by_in : by < a.count
  pub by_has : get_or D by 0 ≡ d
  pub step : Step a by p

-- e is D with some reached in round d
pub record Ext (a : Asked) (d : ℕ) (D e : List ℕ) : Type 0 where
  pub size : length e ≡ a.count
  pub ext : (p : ℕ) → p < a.count → (get_or e p 0 ≡ get_or D p 0) ⊎ New a d D e p

-- p has a mark
abbrev pub Has : ℕ → List ℕ → Type 0
Has p l = get_or l p 0 ≡ unreached → ⊥

-- whoever is a standing assertion from somebody who has d in D has a mark in e
abbrev pub Covers : Asked → ℕ → List ℕ → List ℕ → Type 0
Covers a d D e = (q p : ℕ) → q < a.count → p < a.count → get_or D q 0 ≡ d → record { variable = a.variable; from = q; right = a.right; to = p } ∈ a.assertions → Has p e

has_marked : (d p q k : ℕ) (e : List ℕ) → Has p e → Has p (marked d q k e)
has_marked d p q k e h f = h (sym (marked_keeps d q k p e h) ∙ f)

pub round_length : (d : ℕ) (s : List Delegation) (l : List ℕ) → length (one_round d s l) ≡ length l
round_length d s l =
    pass_keeps (λ (e : List ℕ). length e ≡ length l) d s l
    (λ x e m same. ⊎_elim (λ u. ap length u ∙ same) (λ h. ap length h.gives ∙ length-set e x.to (d + 1) ∙ same) (marked_cases d x.from x.to e))
    refl

module _ (a : Asked) (d : ℕ) (D : List ℕ) (small : d < 4096) (sized : length D ≡ a.count) where
  abbrev Extends : List ℕ → Type 0
  Extends e = Ext a d D e

  pub ext_refl : Extends D
  ext_refl = record { size = sized; ext = λ p lt. inl refl }

  -- who has d in e had it in D, and who is unreached in e was unreached in D
  pub had : (e : List ℕ) → Extends e → (q : ℕ) → q < a.count → get_or e q 0 ≡ d → get_or D q 0 ≡ d
  had e x q lt has = ⊎_elim (λ s. sym s ∙ has) (λ n. absurd (omega (arith, n.is))) (x.ext q lt)

  was_unreached : (e : List ℕ) → Extends e → (p : ℕ) → p < a.count → get_or e p 0 ≡ unreached → get_or D p 0 ≡ unreached
  was_unreached e x p lt has = ⊎_elim (λ s. sym s ∙ has) (λ n. n.was) (x.ext p lt)

  -- what has a mark keeps it
  pub ext_keeps : (e : List ℕ) → Extends e → (p : ℕ) → p < a.count → Has p D → get_or e p 0 ≡ get_or D p 0
  ext_keeps e x p lt has = ⊎_elim (λ s. s) (λ n. absurd (has n.was)) (x.ext p lt)

  -- an entry that stays as it was in e
  same_at : (e m : List ℕ) → Extends e → (k : ℕ) → k < a.count → get_or m k 0 ≡ get_or e k 0 → (get_or m k 0 ≡ get_or D k 0) ⊎ New a d D m k
  same_at e m x k lt o = ⊎_elim (λ s. inl (o ∙ s)) (λ n. inr (record { was = n.was; is = o ∙ n.is; by = n.by; by_in = n.by_in; by_has = n.by_has; step = n.step })) (x.ext k lt)

  ext_marked : (e : List ℕ) (q p : ℕ) → (p < a.count → Step a q p) → Extends e → Extends (marked d q p e)
  ext_marked e q p step x = ⊎_elim (λ s. subst Extends (sym s) x) (λ h. subst Extends (sym h.gives) (hit h)) (marked_cases d q p e)
    where
      hit : Hit d q p e → Ext a d D (set e p (d + 1))
      hit h = record { size = length-set e p (d + 1) ∙ x.size; ext = at }
        where
          p_in : p < a.count
          p_in = omega (arith, h.p_in, x.size)

          q_in : q < a.count
          q_in = omega (arith, h.q_in, x.size)

          fresh : New a d D (set e p (d + 1)) p
          fresh = record { was = was_unreached e x p p_in h.p_has; is = get_or-set_same e p (d + 1) 0 h.p_in; by = q; by_in = q_in; by_has = had e x q q_in h.q_has; step = step p_in }

          at : (k : ℕ) → k < a.count → (get_or (set e p (d + 1)) k 0 ≡ get_or D k 0) ⊎ New a d D (set e p (d + 1)) k
          at k lt =
              elim (ℕ_discrete k p) [
                | yes s ↦ inr (subst (λ (j : ℕ). New a d D (set e p (d + 1)) j) (sym s) fresh)
                | no ne ↦ same_at e (set e p (d + 1)) x k lt (get_or-set_other e p k (d + 1) 0 ne)
              ]

  pub ext_relevant : (x : Delegation) (e : List ℕ) → x ∈ relevant a → Extends e → Extends (marked d x.from x.to e)
  ext_relevant x e m = ext_marked e x.from x.to (relevant_step a x m)

  pub ext_round : Ext a d D (one_round d (relevant a) D)
  ext_round = pass_keeps Extends d (relevant a) D ext_relevant ext_refl

  -- a step from q, who has d in D, reaches p
  cover : (q p : ℕ) → q < a.count → p < a.count → get_or D q 0 ≡ d → (e : List ℕ) → Extends e → Has p (marked d q p e)
  cover q p q_in p_in q_has e x =
      let k : get_or e q 0 ≡ d = ⊎_elim (λ s. s ∙ q_has) (λ n. absurd (omega (arith, n.was))) (x.ext q q_in) in
      marked_covers d q p e small (omega (arith, x.size)) (omega (arith, x.size)) k

  pub round_covers : Covers a d D (one_round d (relevant a) D)
  round_covers q p q_in p_in q_has m =
      pass_brings Extends (Has p) d (relevant a) D (record { from = q; to = p }) (delegates a.variable a.right q p a.assertions m) ext_relevant
      (λ y e. has_marked d p y.from y.to e)
      (cover q p q_in p_in q_has)
      ext_refl

-- a round that changes something leaves fewer
module _ (d : ℕ) (s : List Delegation) (D : List ℕ) (small : d < 4096) where
  abbrev Fewer : List ℕ → Type 0
  Fewer l = (l ≡ D) ⊎ (left l < left D)

  not_more : (e : List ℕ) → Fewer e → left e ≤ left D
  not_more e (inl same) = omega (arith, ap left same)
  not_more e (inr h) = omega arith

  fewer_marked : (q p : ℕ) (e : List ℕ) → Fewer e → Fewer (marked d q p e)
  fewer_marked q p e f = ⊎_elim (λ same. subst Fewer (sym same) f) (λ h. inr (omega (arith, not_more e f))) (marked_left d q p e small)

  pub fewer_round : (one_round d s D ≡ D) ⊎ (left (one_round d s D) < left D)
  fewer_round = pass_keeps Fewer d s D (λ x e m. fewer_marked x.from x.to e) (inl refl)
