-- The search: after d rounds the marks are the shortest chains of up to d steps, and a round that reaches nobody is the last.
use mathlib.Core.Path.{◌≡◌, refl, sym, ap, ◌∙◌, subst}
use mathlib.Core.List.{List}
use mathlib.Core.Logic.{⊎_elim}
use Prim.Native.Nat.{ℕ, suc, ◌+◌, ◌≤◌, ◌<◌, zero-le}
use native.Mathlib.Decide.{ℕ_discrete, dec_le}
use native.Mathlib.Numerals.{add-one}
use native.Mathlib.Omega.{arith}
use lib.ListN.{length, get_or, replicate, length-set, length-replicate, get_or-replicate}
use lib.Seq.{get_or-set_same, get_or-set_other}
use borrow.Author.Tests.{eq-eqb, ne_eqb}
use Rattle.chains.specs.Chain.{Asked, Step, Step.assertion, Step.anyone, Chain, Chain.admin, Chain.link, Shortest}
use Rattle.search_steps.specs.Steps.{Delegation, unreached, left}
use Rattle.std.specs.Prelude.{Some, None}
use Rattle.chains.specs.Rounds.{found, relevant, one_round, start, Whoever}
use Rattle.search_steps.proofs.Marking.{left_set, left_le}
use Rattle.chains.proofs.Rounding.{Ext, Covers, ext_keeps, ext_round, round_covers}

-- after d rounds: those within d steps have the length of their shortest chain, all others are unreached
pub record Good (a : Asked) (d : ℕ) (l : List ℕ) : Type 0 where
  pub size : length l ≡ a.count
  pub sound : (p : ℕ) → p < a.count → (get_or l p 0 ≡ unreached → ⊥) → (get_or l p 0 ≤ d) × Chain a (get_or l p 0) p
  pub complete : {n p : ℕ} → Chain a n p → n ≤ d → (get_or l p 0 ≤ n)
  -- no chain of fewer than d steps leads to anyone
  pub closed : (m : ℕ) → m < d → Chain a m 1 → ⊥

-- a step and a chain end at a principal
step_in : {a : Asked} {q p : ℕ} → Step a q p → p < a.count
step_in (assertion m p_in) = p_in
step_in (anyone eq p_in) = p_in

pub chain_in : {a : Asked} {n p : ℕ} → Chain a n p → p < a.count
chain_in (admin h) = h
chain_in (link c s) = step_in s

-- round d, where anyone was not reached in round d: whatever way it is gone through, it reaches everyone a standing assertion further
module _ (a : Asked) (d : ℕ) (D : List ℕ) (small : d < 4096) (g : Good a d D) (not_anyone : get_or D 1 0 ≡ d → ⊥) (E : List ℕ) (x : Ext a d D E) (reaches : Covers a d D E) where
  -- anyone is further than d steps from admin
  anyone_far : (m : ℕ) → m < d + 1 → Chain a m 1 → ⊥
  anyone_far m lt c =
      let le : get_or D 1 0 ≤ m = g.complete c (omega arith) in
      let b = g.sound 1 (chain_in c) (λ f. omega arith) in
      g.closed (get_or D 1 0) (omega (arith, not_anyone)) b.1

  -- a step from somebody who has d reaches p
  covers : (q p : ℕ) → q < a.count → get_or D q 0 ≡ d → Step a q p → get_or E p 0 ≡ unreached → ⊥
  covers q p q_in q_has (assertion m p_in) = reaches q p q_in p_in q_has m
  covers q p q_in q_has (anyone eq p_in) = absurd (not_anyone (ap (λ (k : ℕ). get_or D k 0) (sym eq) ∙ q_has))

  -- what lies within d steps has its mark
  old : {n p : ℕ} → Chain a n p → n ≤ d → get_or E p 0 ≤ n
  old {n} {p} c le =
      let o : get_or D p 0 ≤ n = g.complete c le in
      let k : get_or E p 0 ≡ get_or D p 0 = ext_keeps a d D small g.size E x p (chain_in c) (λ f. omega arith) in
      omega arith

  -- a step from the end of a chain of d steps
  further : {n q p : ℕ} → Chain a n q → Step a q p → n ≡ d → get_or E p 0 ≤ suc n
  further {n} {q} {p} c s e =
      let q-le : get_or D q 0 ≤ n = g.complete c (omega arith) in
      let q-of = g.sound q (chain_in c) (λ f. omega arith) in
      elim (ℕ_discrete (get_or D q 0) d) [
        | yes m ↦
            let has = covers q p (chain_in c) m s in
            ⊎_elim
            (λ t. let b = (g.sound p (step_in s) (λ f. has (t ∙ f))).0 in omega arith)
            (λ w. omega (arith, w.is))
            (x.ext p (step_in s))
        | no ne ↦ let b = old (link q-of.1 s) (omega arith) in omega arith
      ]

  next_complete : {n p : ℕ} → Chain a n p → n ≤ d + 1 → get_or E p 0 ≤ n
  next_complete (admin h) le = old (admin h) zero-le
  next_complete (link {n = n} c s) le =
      elim (ℕ_discrete n d) [
        | yes e ↦ further c s e
        | no ne ↦ old (link c s) (omega arith)
      ]

  pub good_next : Good a (d + 1) E
  good_next = record { size = x.size; sound = sound; complete = next_complete; closed = anyone_far }
    where
      sound : (p : ℕ) → p < a.count → (get_or E p 0 ≡ unreached → ⊥) → (get_or E p 0 ≤ d + 1) × Chain a (get_or E p 0) p
      sound p lt ne =
          ⊎_elim
          (λ s.
          let b = g.sound p lt (λ f. ne (s ∙ f)) in
          (omega arith, subst (λ (n : ℕ). Chain a n p) (sym s) b.1))
          (λ w.
          let b = (g.sound w.by w.by_in (λ f. omega (arith, w.by_has))).1 in
          (omega (arith, w.is), subst (λ (n : ℕ). Chain a n p) (sym (w.is ∙ add-one d)) (link (subst (λ (n : ℕ). Chain a n w.by) w.by_has b) w.step)))
          (x.ext p lt)

  -- a round that changes nothing is the last: whoever has a chain has a mark
  pub all_marked : E ≡ D → {n p : ℕ} → Chain a n p → get_or D p 0 ≡ unreached → ⊥
  all_marked same (admin h) = λ f. omega (arith, g.complete (admin h) zero-le)
  all_marked same (link {q = q} {p = p} c s) =
      let q-of = g.sound q (chain_in c) (all_marked same c) in
      elim (ℕ_discrete (get_or D q 0) d) [
        | yes m ↦ (λ f. covers q p (chain_in c) m s (ap (λ (l : List ℕ). get_or l p 0) same ∙ f))
        | no ne ↦ (λ f. omega (arith, g.complete (link q-of.1 s) (omega arith)))
      ]

-- the round over all delegations
module _ (a : Asked) (d : ℕ) (D : List ℕ) (small : d < 4096) (g : Good a d D) (not_anyone : get_or D 1 0 ≡ d → ⊥) where
  abbrev R : List ℕ
  R = one_round d (relevant a) D

  pub good_round : Good a (d + 1) R
  good_round = good_next a d D small g not_anyone R (ext_round a d D small g.size) (round_covers a d D small g.size)

  pub all_round : R ≡ D → {n p : ℕ} → Chain a n p → get_or D p 0 ≡ unreached → ⊥
  all_round = all_marked a d D small g not_anyone R (ext_round a d D small g.size) (round_covers a d D small g.size)

-- where only admin has a mark
module _ (n : ℕ) (pos : 0 < n) where
  pub start_length : length (start n) ≡ n
  unfolding start
  start_length = length-set (replicate n unreached) 0 0 ∙ length-replicate n unreached

  pub start_first : get_or (start n) 0 0 ≡ 0
  unfolding start
  start_first = get_or-set_same (replicate n unreached) 0 0 0 (omega (arith, length-replicate n unreached))

  pub start_other : (p : ℕ) → p < n → (p ≡ 0 → ⊥) → get_or (start n) p 0 ≡ unreached
  unfolding start
  start_other p lt ne = get_or-set_other (replicate n unreached) 0 p 0 0 ne ∙ get_or-replicate n p unreached 0 lt

  pub left_start : left (start n) < n
  unfolding start
  left_start =
      let e = length-replicate n unreached in
      omega (arith, left_set (replicate n unreached) 0 0 (omega arith) (get_or-replicate n 0 unreached 0 pos) (λ f. omega arith), left_le (replicate n unreached))

pub good_start : (a : Asked) → 0 < a.count → Good a 0 (start a.count)
good_start a pos = record { size = start_length a.count pos; sound = sound; complete = complete; closed = λ m h. absurd (omega arith) }
  where
    sound : (p : ℕ) → p < a.count → (get_or (start a.count) p 0 ≡ unreached → ⊥) → (get_or (start a.count) p 0 ≤ 0) × Chain a (get_or (start a.count) p 0) p
    sound p lt ne =
        elim (ℕ_discrete p 0) [
          | yes m ↦ subst (λ (k : ℕ). (get_or (start a.count) k 0 ≤ 0) × Chain a (get_or (start a.count) k 0) k) (sym m) (omega (arith, start_first a.count pos), subst (λ (k : ℕ). Chain a k 0) (sym (start_first a.count pos)) (admin pos))
          | no other ↦ absurd (ne (start_other a.count pos p lt other))
        ]

    complete : {n p : ℕ} → Chain a n p → n ≤ 0 → get_or (start a.count) p 0 ≤ n
    complete (admin h) le = omega (arith, start_first a.count pos)
    complete (link c s) le = absurd (omega arith)

-- what the marks after d rounds say of p
module _ (a : Asked) (d : ℕ) (D : List ℕ) (small : d < 4096) (g : Good a d D) (p : ℕ) (lt : p < a.count) where
  -- p is reached: its mark is the length of its shortest chain
  pub shortest_marked : d < a.count → (get_or D p 0 ≡ unreached → ⊥) → Shortest a p (get_or D p 0)
  shortest_marked less has =
      let b = g.sound p lt has in record {
        chain = b.1;
        least = λ m ch. elim (dec_le (get_or D p 0) m) [ yes h ↦ h | no h ↦ absurd (omega (arith, g.complete ch (omega arith))) ];
        short = omega arith;
      }

  -- p is not, and anyone has d: anyone's step is the shortest way
  pub shortest_open : d + 1 < a.count → get_or D p 0 ≡ unreached → get_or D 1 0 ≡ d → Shortest a p (d + 1)
  shortest_open less none at =
      let b = g.sound 1 (omega arith) (λ f. omega arith) in record {
        chain = subst (λ (k : ℕ). Chain a k p) (ap suc at ∙ sym (add-one d)) (link b.1 (anyone refl lt));
        least = λ m ch. elim (dec_le (d + 1) m) [ yes h ↦ h | no h ↦ absurd (omega (arith, g.complete ch (omega arith))) ];
        short = less;
      }

-- the search for p before round d: no chain to p has fewer than d steps, and the marks are those after d rounds
pub record Stage (a : Asked) (p d : ℕ) (l : List ℕ) : Type 0 where
  pub later : (m : ℕ) → m < d → Chain a m p → ⊥
  pub good : Good a d l

module _ (s : List Delegation) (n p : ℕ) where
  pub stage_first : 0 < n → Whoever s n (λ a. Stage a p 0 (start n))
  stage_first pos a e c = record { later = λ m h. absurd (omega arith); good = subst (λ (k : ℕ). Good a 0 (start k)) c (good_start a (omega arith)) }

  module _ (d : ℕ) (D : List ℕ) (small : d < 4096) (stage : Whoever s n (λ a. Stage a p d D)) where
    -- p has a mark, and had none before: d is the length of its shortest chain
    pub stage_found : p < n → d < n → (get_or D p 0 ≡ unreached → ⊥) → Whoever s n (λ a. Shortest a p d)
    stage_found lt less has a e c =
        let t = stage a e c in
        elim (ℕ_discrete (get_or D p 0) d) [
          | yes same ↦ subst (Shortest a p) same (shortest_marked a d D small t.good p (omega arith) (omega arith) has)
          | no other ↦
              let b = t.good.sound p (omega arith) has in
              absurd (t.later (get_or D p 0) (omega arith) b.1)
        ]

    -- p has no mark, and anyone has d
    pub stage_open : p < n → d + 1 < n → get_or D p 0 ≡ unreached → get_or D 1 0 ≡ d → Whoever s n (λ a. Shortest a p (d + 1))
    stage_open lt less none at a e c = shortest_open a d D small (stage a e c).good p (omega arith) (omega arith) none at

    -- neither p nor anyone is reached by now, and a round is made
    module _ (none : get_or D p 0 ≡ unreached) (not_anyone : get_or D 1 0 ≡ d → ⊥) where
      pub stage_next : (E : List ℕ) → Whoever s n (λ a. Ext a d D E) → Whoever s n (λ a. Covers a d D E) → Whoever s n (λ a. Stage a p (d + 1) E)
      stage_next E x reaches a e c =
          let g = (stage a e c).good in record {
            later = λ m h ch. omega (arith, g.complete ch (omega arith));
            good = good_next a d D small g not_anyone E (x a e c) (reaches a e c);
          }

      -- it reaches nobody: there is no chain to p
      pub stage_never : (E : List ℕ) → Whoever s n (λ a. Ext a d D E) → Whoever s n (λ a. Covers a d D E) → E ≡ D → Whoever s n (λ a. (m : ℕ) → Chain a m p → ⊥)
      stage_never E x reaches same a e c m ch = all_marked a d D small (stage a e c).good not_anyone E (x a e c) (reaches a e c) same ch none

-- the round over all delegations, for whoever asks about them
module _ (s : List Delegation) (n d : ℕ) (D : List ℕ) (small : d < 4096) (sized : length D ≡ n) where
  pub round_extends : Whoever s n (λ a. Ext a d D (one_round d s D))
  round_extends a e c = subst (λ (r : List Delegation). Ext a d D (one_round d r D)) e (ext_round a d D small (sized ∙ sym c))

  pub round_reaches : Whoever s n (λ a. Covers a d D (one_round d s D))
  round_reaches a e c = subst (λ (r : List Delegation). Covers a d D (one_round d r D)) e (round_covers a d D small (sized ∙ sym c))

-- what a mark says
pub found_yes : (r m : ℕ) → (m ≡ unreached → ⊥) → found r m ≡ Some r
found_yes r m h = simp (ne_eqb m unreached h)

pub found_no : (r m : ℕ) → m ≡ unreached → found r m ≡ None
found_no r m h = simp (eq-eqb m unreached h)

-- admin has the chain of length 0
pub admin_first : (a : Asked) (p : ℕ) → p ≡ 0 → p < a.count → Shortest a p 0
admin_first a p e lt = subst (λ (k : ℕ). Shortest a k 0) (sym e) (record { chain = admin (omega arith); least = λ m c. zero-le; short = omega arith })

-- nobody is outside
pub answer_outside : (a : Asked) (p : ℕ) → a.count ≤ p → (m : ℕ) → Chain a m p → ⊥
answer_outside a p h m c = omega (arith, chain_in c)

-- nobody was reached: as many are left
pub none_more : (r l l' : ℕ) → r ≡ 0 → r + l' ≡ l → l' ≡ l
none_more r l l' e f = omega arith

-- somebody was reached: fewer are left
pub some_more : (r l l' : ℕ) → (r ≡ 0 → ⊥) → r + l' ≡ l → l' < l
some_more r l l' e f = omega arith

pub in_time : (d l l' k : ℕ) → d + l < k → l' < l → d + 1 + l' < k
in_time d l l' k e f = omega arith
