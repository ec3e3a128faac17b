-- The search at the head of a round: what holds there and within the round, and how a round begins.
use mathlib.Core.Path.{◌≡◌, refl, sym, ap, ◌∙◌, subst}
use mathlib.Core.List.Memᴰ
use mathlib.Core.List.{List, [], map}
use mathlib.Core.Logic.{◌⊎◌, inl, inr, ⊎_elim}
use Prim.Native.Nat.{ℕ, ◌+◌, ◌*◌, ◌≤◌, ◌<◌}
use native.Mathlib.Decide.{ℕ_discrete}
use native.Mathlib.Numerals.{add-one}
use native.Mathlib.Omega.{arith}
use lib.ListN.{length, get_or, set, take, length-set}
use lib.Seq.{get_or-set_same, get_or-set_other, get_or-take, length-take-le, take-set-le}
use Rattle.assertion.specs.Packed.{Assertion}
use Rattle.board.specs.Board.{at, board_size, Front, Kept, next_round, nothing, Ready, Walk, Whole}
use Rattle.board.proofs.Linking.{bucket_same, walk_same}
use Rattle.chains.specs.Chain.{Asked, Chain, Shortest, Longest, Searched}
use Rattle.std.specs.Prelude.{Option}
use Rattle.chains.specs.Rounds.{found, start, Whoever}
use Rattle.search_steps.specs.Steps.{◌∈◌, Delegation, handed, unreached, left}
use Rattle.search_steps.proofs.Marking.{left_some}
use Rattle.chains.proofs.Rounding.{Ext, Has, ext_refl}
use Rattle.chains.proofs.Searching.{Good, good_start, start_first, start_other, left_start, shortest_open, found_yes, found_no}

-- somebody has the mark d
pub record Top (n d : ℕ) (b : List ℕ) : Type 0 where
  pub who : ℕ
  pub is_one : who < n
  pub has : get_or b who 0 ≡ d

-- whoever is reached has a mark of d at most
abbrev pub Low : ℕ → ℕ → List ℕ → Type 0
Low n d b = (q : ℕ) → q < n → (get_or b q 0 ≡ unreached) ⊎ (get_or b q 0 ≤ d)

-- at the head of round d: p is not reached, and somebody was in the round before
pub record Going (ys : List Assertion) (n p d : ℕ) (b : List ℕ) : Type 0 where
  pub sized : length b ≡ board_size n (length ys)
  pub time : d + left (take n b) < n
  pub none : get_or b p 0 ≡ unreached
  pub top : Top n d b
  pub low : Low n d b
  pub good : Whoever (map handed ys) n (λ a. Good a d (take n b))
  pub front : Front n ys b d

-- within round d, which began at the board B: it goes on with assertion i and has u to go over, m were reached by those before, and p was not
pub record Within (ys : List Assertion) (n p d : ℕ) (B : List ℕ) (u i m : ℕ) (e : List ℕ) : Type 0 where
  pub going : Going ys n p d B
  pub not_anyone : get_or B 1 0 ≡ d → ⊥
  pub sized : length e ≡ board_size n (length ys)
  pub none : get_or e p 0 ≡ unreached
  pub rest : List ℕ
  pub turns : length rest ≡ u
  pub walk : Walk n ys e d i rest
  pub next : List ℕ
  pub next_walk : Walk n ys e (d + 1) (next_round n e) next
  pub next_whole : Whole n ys e (d + 1) next
  pub kept : Kept n ys e
  pub low : Low n (d + 1) e
  pub covered : (k : ℕ) → k < length ys → (at ys k).from < n → get_or B (at ys k).from 0 ≡ d → (k ∈ rest) ⊎ ((at ys k).to < n → Has (at ys k).to e)
  pub counts : m + left (take n e) ≡ left (take n B)
  pub top : ((m ≡ 0) × (take n e ≡ take n B)) ⊎ ((m ≡ 0 → ⊥) × Top n (d + 1) e)
  pub ext : Whoever (map handed ys) n (λ a. Ext a d (take n B) (take n e))

-- ---- what is said where the search is left

module _ (s : List Delegation) (n p : ℕ) where
  pub searched_yes : (r v : ℕ) → p < n → (v ≡ unreached → ⊥) → Whoever s n (λ a. Shortest a p r) → Whoever s n (λ a. Searched a p (found r v) r)
  searched_yes r v lt h f =
      subst (λ (o : Option ℕ). Whoever s n (λ a. Searched a p o r)) (sym (found_yes r v h))
      (λ a e c. record { answer = f a e c; begun = λ x. refl; outside = λ x. absurd (omega arith) })

  pub searched_no : (d v : ℕ) → p < n → v ≡ unreached → Whoever s n (λ a. (m : ℕ) → Chain a m p → ⊥) → Whoever s n (λ a. Longest a d) → Whoever s n (λ a. Searched a p (found (d + 1) v) (d + 1))
  searched_no d v lt h f g =
      subst (λ (o : Option ℕ). Whoever s n (λ a. Searched a p o (d + 1))) (sym (found_no (d + 1) v h))
      (λ a e c. record { answer = f a e c; begun = λ x. (d, g a e c, add-one d); outside = λ x. absurd (omega arith) })

-- what is reported of a search, by the mark m of the principal, is right
pub reported : (a : Asked) (p r m : ℕ) (o : Option ℕ) (k : ℕ) → Searched a p (found r m) r → (o ≡ found r m) × (k ≡ r) → Searched a p o k
reported a p r m o k s e = subst (λ (j : ℕ). Searched a p o j) (sym e.1) (subst (λ (x : Option ℕ). Searched a p x r) (sym e.0) s)

-- ---- the start

pub going_first : (ys : List Assertion) (n p : ℕ) (b : List ℕ) → 0 < p → p < n → Ready n ys b → Going ys n p 0 b
unfolding start
going_first ys n p b pos lt ready = record {
  sized = ready.sized;
  time = omega (arith, ap left ready.marks, left_start n some);
  none = other p lt (λ e. omega arith);
  top = record { who = 0; is_one = some; has = first };
  low = λ q q_in.
      elim (ℕ_discrete q 0) [
        | yes e ↦ inr (omega (arith, ap (λ (j : ℕ). get_or b j 0) e ∙ first))
        | no ne ↦ inl (other q q_in ne)
      ];
  good = λ a e c. subst (λ (l : List ℕ). Good a 0 l) (ap start c ∙ sym ready.marks) (good_start a (omega arith));
  front = ready.front;
}
  where
    some : 0 < n
    some = omega arith

    marked_as : (q : ℕ) → q < n → get_or b q 0 ≡ get_or (start n) q 0
    marked_as q q_in = sym (get_or-take n b q 0 q_in) ∙ ap (λ (l : List ℕ). get_or l q 0) ready.marks

    first : get_or b 0 0 ≡ 0
    first = marked_as 0 some ∙ start_first n some

    other : (q : ℕ) → q < n → (q ≡ 0 → ⊥) → get_or b q 0 ≡ unreached
    other q q_in ne = marked_as q q_in ∙ start_other n some q q_in ne

module _ (ys : List Assertion) (n p : ℕ) (few : n ≤ 4096) (lt : p < n) (d : ℕ) (B : List ℕ) where
  abbrev s : List Delegation
  s = map handed ys

  abbrev D : List ℕ
  D = take n B

  module _ (g : Going ys n p d B) where
    pub small : d < 4096
    small = omega (arith, g.time)

    pub cut : length D ≡ n
    cut = length-take-le n B (omega (arith, g.sized))

    pub none_marked : get_or D p 0 ≡ unreached
    none_marked = get_or-take n B p 0 lt ∙ g.none

    pub room : d + 1 < n
    room = omega (arith, g.time, left_some D p (omega (arith, cut)) none_marked)

    -- anyone has d: the round marks everybody, p among them
    pub going_open : get_or B 1 0 ≡ d → Whoever s n (λ a. Shortest a p (d + 1))
    going_open one a f c = shortest_open a d D small (g.good a f c) p (omega arith) (omega (arith, room)) none_marked (get_or-take n B 1 0 (omega (arith, room)) ∙ one)

    -- the round begins: i is its first assertion
    module _ (other : get_or B 1 0 ≡ d → ⊥) (i : ℕ) (e : List ℕ) (first : i ≡ next_round n B) (made : e ≡ set B (3 * n) nothing) where
      cell : (j : ℕ) → (j ≡ 3 * n → ⊥) → get_or e j 0 ≡ get_or B j 0
      cell j ne = ap (λ (l : List ℕ). get_or l j 0) made ∙ get_or-set_other B (3 * n) j nothing 0 ne

      same : take n e ≡ D
      same = ap (take n) made ∙ take-set-le n B (3 * n) nothing (omega arith)

      begun : Walk n ys e d i g.front.next
      begun =
          subst (λ (j : ℕ). Walk n ys e d j g.front.next) (sym first)
          (walk_same n ys B e d (next_round n B) g.front.next g.front.walk (λ k m. cell (3 * n + 1 + k) (λ f. omega arith)) (λ k m. cell (at ys k).from (λ f. omega (arith, (g.front.walk.those k m).1))))

      unlinked : next_round n e ≡ nothing
      unlinked = ap (λ (l : List ℕ). get_or l (3 * n) 0) made ∙ get_or-set_same B (3 * n) nothing 0 (omega (arith, g.sized))

      still : Kept n ys e
      still q q_in has =
          bucket_same n ys (length ys) B e q (g.front.kept q q_in (sym (cell q (λ f. omega arith)) ∙ has)) (cell (n + q) (λ f. omega arith)) (cell (2 * n + q) (λ f. omega arith))
          (λ j m. cell (3 * n + 1 + j) (λ f. omega arith))

      lower : Low n (d + 1) e
      lower q q_in =
          let c = cell q (λ f. omega arith) in
          ⊎_elim (λ f. inl (c ∙ f)) (λ f. inr (omega arith)) (g.low q q_in)

      pub within_first : (u : ℕ) × Within ys n p d B u i 0 e
      within_first = (
        length g.front.next,
        record {
          going = g;
          not_anyone = other;
          sized = ap length made ∙ length-set B (3 * n) nothing ∙ g.sized;
          none = cell p (λ f. omega arith) ∙ g.none;
          rest = g.front.next;
          turns = refl;
          walk = begun;
          next = [];
          next_walk = record { linked = unlinked; those = λ k m. absurd (Memᴰ.not-nil m) };
          next_whole = λ k k-in q_in has. absurd (⊎_elim (λ f. omega (arith, cell (at ys k).from (λ f. omega arith))) (λ f. omega (arith, cell (at ys k).from (λ f. omega arith))) (g.low (at ys k).from q_in));
          kept = still;
          low = lower;
          covered = λ k k-in q_in has. inl (g.front.whole k k-in q_in has);
          counts = omega (arith, ap left same);
          top = inl (refl, same);
          ext = λ a f c. subst (λ (l : List ℕ). Ext a d D l) (sym same) (ext_refl a d D small (g.good a f c).size);
        },
      )
