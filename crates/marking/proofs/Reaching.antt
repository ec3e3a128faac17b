-- The marking of everyone: the rounds go on until one reaches nobody, or until anyone is reached, who is a step from everybody. Then every
-- mark is the length of a shortest chain, and who has none has no chain.
use mathlib.Core.Path.{◌≡◌, refl, sym, ap, ◌∙◌, subst}
use mathlib.Core.List.{List}
use mathlib.Core.Logic.{⊎_elim}
use Prim.Native.Nat.{ℕ, ◌+◌, ◌≤◌, ◌<◌}
use native.Mathlib.Decide.{ℕ_discrete}
use native.Mathlib.Omega.{arith}
use lib.ListN.{length, get_or, length-map, get_or-map}
use borrow.Author.Tests.{eq-eqb, ne_eqb}
use Rattle.chains.specs.Chain.{Asked, Chain, Shortest, Answered}
use Rattle.std.specs.Prelude.{Some}
use Rattle.search_steps.specs.Steps.{Delegation, unreached, left, mark_or, rest_reached, Marks}
use Rattle.chains.specs.Rounds.{one_round, start, Whoever, answer_of, Everyone}
use Rattle.search_steps.proofs.Marking.{left_some}
use Rattle.chains.proofs.Rounding.{round_length, fewer_round}
use Rattle.chains.proofs.Searching.{Good, good_start, good_round, all_round, start_length, start_other, left_start, shortest_marked, shortest_open, none_more, some_more, in_time, found_yes, found_no}

-- after d rounds, of which the last did not reach anyone, the marks are l
pub record Spreading (s : List Delegation) (n d : ℕ) (l : List ℕ) : Type 0 where
  pub sized : length l ≡ n
  pub time : d + left l < n
  pub not_anyone : get_or l 1 0 ≡ d → ⊥
  pub good : Whoever s n (λ a. Good a d l)

-- what a mark tells
told_none : (a : Asked) (p m : ℕ) → m ≡ unreached → ((k : ℕ) → Chain a k p → ⊥) → Answered a p (answer_of m)
told_none a p m e h = subst (Answered a p) (sym (found_no m m e)) h

told_some : (a : Asked) (p m k : ℕ) → m ≡ k → k < unreached → Shortest a p k → Answered a p (answer_of m)
told_some a p m k e small h = subst (Answered a p) (sym (found_yes m m (λ f. omega arith) ∙ ap Some e)) h

-- who is reached after d rounds
told_reached : (a : Asked) (d : ℕ) (l : List ℕ) → d < 4096 → d < a.count → Good a d l → (p : ℕ) → p < a.count → (get_or l p 0 ≡ unreached → ⊥) → Answered a p (answer_of (get_or l p 0))
told_reached a d l small less g p lt has =
    let b = g.sound p lt has in
    told_some a p (get_or l p 0) (get_or l p 0) refl (omega arith) (shortest_marked a d l small g p lt less has)

module _ (s : List Delegation) (n : ℕ) (few : n ≤ 4096) where
  pub spreading_first : 1 < n → Spreading s n 0 (start n)
  spreading_first two =
      let some : 0 < n = omega arith in record {
        sized = start_length n some;
        time = omega (arith, left_start n some);
        not_anyone = λ e. omega (arith, start_other n some 1 two (λ f. omega arith));
        good = λ a e c. subst (λ (k : ℕ). Good a 0 (start k)) c (good_start a (omega arith));
      }

  -- one round more, which reaches r
  module _ (d : ℕ) (D E : List ℕ) (r : ℕ) (g : Spreading s n d D) (x : Marks D (one_round d s D) E r) where
    sized : length E ≡ n
    sized = ap length x.marks ∙ round_length d s D ∙ g.sized

    good : Whoever s n (λ a. Good a (d + 1) E)
    good a e c =
        subst (λ (l : List ℕ). Good a (d + 1) l) (ap (λ (t : List Delegation). one_round d t D) e ∙ sym x.marks)
        (good_round a d D (omega (arith, g.time)) (g.good a e c) g.not_anyone)

    -- nobody: all is marked
    pub spread_ends : r ≡ 0 → Whoever s n (λ a. Everyone a E)
    spread_ends z a e c =
        let small : d < 4096 = omega (arith, g.time) in
        let h = g.good a e c in
        let same : one_round d s D ≡ D = ⊎_elim (λ t. t) (λ t. absurd (omega (arith, none_more _ _ _ z x.counts, ap left x.marks))) (fewer_round d s D small) in
        subst (Everyone a) (sym (x.marks ∙ same)) (record {
          size = h.size;
          answers = λ p lt.
              elim (ℕ_discrete (get_or D p 0) unreached) [
                | yes none ↦ told_none a p (get_or D p 0) none (λ k ch. all_round a d D small h g.not_anyone (ap (λ (t : List Delegation). one_round d t D) e ∙ same) ch none)
                | no has ↦ told_reached a d D small (omega (arith, g.time)) h p lt has
              ];
        })

    module _ (some : r ≡ 0 → ⊥) where
      pub less : left E < left D
      less = some_more _ _ _ some x.counts

      time : d + 1 + left E < n
      time = in_time d (left D) (left E) n g.time less

      -- somebody, but not anyone
      pub spreading_next : (get_or E 1 0 ≡ d + 1 → ⊥) → Spreading s n (d + 1) E
      spreading_next other = record { sized = sized; time = time; not_anyone = other; good = good }

      -- anyone: the rest is a step further
      module _ (k : ℕ) (F : List ℕ) (at : get_or E 1 0 ≡ d + 1) (step : k ≡ d + 1 + 1) (made : F ≡ rest_reached k E) where
        given : (p : ℕ) → get_or F p 0 ≡ mark_or k (get_or E p 0)
        given p = ap (λ (l : List ℕ). get_or l p 0) made ∙ get_or-map (mark_or k) E p 0

        pub spread_anyone : Whoever s n (λ a. Everyone a F)
        spread_anyone a e c = record { size = ap length made ∙ length-map E (mark_or k) ∙ h.size; answers = right }
          where
            h : Good a (d + 1) E
            h = good a e c

            right : (p : ℕ) → p < a.count → Answered a p (answer_of (get_or F p 0))
            right p lt =
                elim (ℕ_discrete (get_or E p 0) unreached) [
                  | yes none ↦
                      let some_left : 0 < left E = left_some E p (omega (arith, sized)) none in
                      let v : mark_or k (get_or E p 0) ≡ k = simp (eq-eqb (get_or E p 0) unreached none) in
                      told_some a p (get_or F p 0) (d + 1 + 1) (given p ∙ v ∙ step) (omega (arith, time)) (shortest_open a (d + 1) E (omega (arith, time)) h p lt (omega (arith, time)) none at)
                  | no has ↦
                      let v : mark_or k (get_or E p 0) ≡ get_or E p 0 = simp (ne_eqb (get_or E p 0) unreached has) in
                      subst (λ (m : ℕ). Answered a p (answer_of m)) (sym (given p ∙ v)) (told_reached a (d + 1) E (omega (arith, time)) (omega (arith, time)) h p lt has)
                ]
