-- Within a round: one assertion's step, where the search is left or goes on; and the end of the round, where it is left or the next begins.
use mathlib.Core.Path.{◌≡◌, refl, sym, ap, ◌∙◌, subst}
use mathlib.Core.List.Memᴰ
use mathlib.Core.List.{List, [], ◌∷◌, ◌++◌, map}
use mathlib.Core.Logic.{◌⊎◌, inl, inr, ⊎_elim}
use Prim.Native.Nat.{ℕ, zero, suc, ◌+◌, ◌^◌, ◌≤◌, ◌<◌}
use native.Mathlib.Decide.{ℕ_discrete, dec_le}
use native.Mathlib.Numerals.{add-one}
use native.Mathlib.Omega.{arith}
use lib.ListN.{length, get_or, set, take}
use lib.Seq.{get_or-set_same, get_or-take}
use Rattle.assertion.specs.Packed.{Assertion}
use Rattle.board.specs.Board.{at, board_size, first_from, following, Kept, last_from, next_round, nothing, pushed, Reaches, Stepped, Walk, Whole}
use Rattle.board.specs.declared.Reached.TheVariants.{Nobody, Somebody, Principal}
use Rattle.frontier.proofs.Boards.{reaches_marks}
use Rattle.board.proofs.Linking.{bucket_last}
use Rattle.frontier.proofs.Pushing.{Effect, effect, own, walk_stays, walk_grows, whole_grows, kept_stays}
use Rattle.chains.specs.Chain.{Asked, Chain, Chain.link, Shortest, Longest}
use Rattle.chains.specs.Rounds.{relevant, Whoever}
use Rattle.search_steps.specs.Steps.{◌∈◌, Delegation, handed, unreached, marked, left, Marks}
use Rattle.search_steps.proofs.Marking.{left_le, total}
use Rattle.chains.proofs.Passing.{delegates, relevant_step}
use Rattle.chains.proofs.Rounding.{Ext, Has, Covers, ext_relevant, had}
use Rattle.chains.proofs.Searching.{Good, chain_in, good_next, all_marked, shortest_marked, in_time, some_more}
use Rattle.rights.proofs.Beginning.{Top, Low, Going, Within, small, cut, none_marked, room}

-- an assertion's step from q to t that does not reach p: it reaches r, one or nobody
pub record Went (n d q t p : ℕ) (old last : List ℕ) (r : ℕ) : Type 0 where
  pub few : r ≤ 1
  pub none : r ≡ 0 → Stepped n d q t p old last Nobody
  pub other : r ≡ 1 → Stepped n d q t p old last Somebody

pub went_none : (n d q t p : ℕ) (old last : List ℕ) → Stepped n d q t p old last Nobody → Went n d q t p old last 0
went_none n d q t p old last h = record { few = omega arith; none = λ e. h; other = λ e. absurd (omega arith) }

pub went_other : (n d q t p : ℕ) (old last : List ℕ) → Stepped n d q t p old last Somebody → Went n d q t p old last 1
went_other n d q t p old last h = record { few = omega arith; none = λ e. absurd (omega arith); other = λ e. h }

-- a list that is not empty
record Popped (l : List ℕ) (u : ℕ) : Type 0 where
  head : ℕ
  tail : List ℕ
  is : l ≡ head ∷ tail
  long : length tail ≡ u

popped : (l : List ℕ) (u : ℕ) → length l ≡ suc u → Popped l u
popped [] u e = absurd (omega arith)
popped (x ∷ xs) u e = record { head = x; tail = xs; is = refl; long = omega arith }

walk_in : (n : ℕ) (ys : List Assertion) (b : List ℕ) (d i u : ℕ) (ks : List ℕ) → length ks ≡ suc u → Walk n ys b d i ks → i < length ys
walk_in n ys b d i u [] e w = absurd (omega arith)
walk_in n ys b d i u (k ∷ ks) e w = omega (arith, w.linked.0, (w.those k (Memᴰ.head refl)).0)

walk_out : (n : ℕ) (ys : List Assertion) (b : List ℕ) (d i : ℕ) (ks : List ℕ) → length ks ≡ 0 → Walk n ys b d i ks → i ≡ nothing
walk_out n ys b d i [] e w = w.linked
walk_out n ys b d i (k ∷ ks) e w = absurd (omega arith)

-- the first assertion is gone over, and the rest is to come
walk_on : (n : ℕ) (ys : List Assertion) (b : List ℕ) (d i : ℕ) (ks : List ℕ) → Walk n ys b d i (i ∷ ks) → Walk n ys b d (following n b i) ks
walk_on n ys b d i ks w = record { linked = w.linked.1; those = λ k m. w.those k (Memᴰ.tail m) }

-- an element that stands in a list
get_d_in : {A : Type 0} (l : List A) (i : ℕ) (z : A) → i < length l → get_or l i z ∈ l
get_d_in [] i z h = absurd (omega arith)
get_d_in (x ∷ l) zero z h = Memᴰ.head refl
get_d_in (x ∷ l) (suc i) z h = Memᴰ.tail (get_d_in l i z (omega arith))

-- and where
place_of : (x : Delegation) (l : List Assertion) → x ∈ map handed l → (k : ℕ) × (k < length l) × (handed (at l k) ≡ x)
place_of x [] m = absurd (Memᴰ.not-nil m)
place_of x (y ∷ l) m =
    ⊎_elim
    (λ e. (0, omega arith, sym e))
    (λ o. let h = place_of x l o in (suc h.0, omega (arith, h.1), h.2))
    (Memᴰ.cases_cons m)

module _ (ys : List Assertion) (n p : ℕ) (few : n ≤ 4096) (lines : length ys ≤ 2048) (lt : p < n) (d : ℕ) (B : List ℕ) where
  abbrev s : List Delegation
  s = map handed ys

  abbrev D : List ℕ
  D = take n B

  module _ (u i m : ℕ) (e : List ℕ) where
    -- there is an assertion to go over
    pub within_in : Within ys n p d B (suc u) i m e → i < length ys
    within_in w = walk_in n ys e d i u w.rest w.turns w.walk

    -- there is none
    pub within_out : Within ys n p d B zero i m e → length ys ≤ i
    within_out w = omega (arith, walk_out n ys e d i w.rest w.turns w.walk)

    -- what its step needs
    pub within_needs : Within ys n p d B (suc u) i m e → (at ys i).to < n → get_or e (at ys i).to 0 ≡ unreached → (first_from n e (at ys i).to ≡ nothing) ⊎ (board_size n (last_from n e (at ys i).to) < length e)
    within_needs w t_in none = bucket_last n ys e (at ys i).to w.sized (w.kept (at ys i).to t_in none)

    module _ (w : Within ys n p d B (suc u) i m e) (e' : List ℕ) (r : ℕ) where
      abbrev q : ℕ
      q = (at ys i).from

      abbrev t : ℕ
      t = (at ys i).to

      g : Going ys n p d B
      g = w.going

      low_d : d < 4096
      low_d = small ys n p few lt d B g

      pop : Popped w.rest u
      pop = popped w.rest u w.turns

      opened : Walk n ys e d i (pop.head ∷ pop.tail)
      opened = subst (Walk n ys e d i) pop.is w.walk

      here : Walk n ys e d i (i ∷ pop.tail)
      here = subst (λ (k : ℕ). Walk n ys e d i (k ∷ pop.tail)) (sym opened.linked.0) opened

      mine : (i < length ys) × (q < n) × (get_or e q 0 ≡ d)
      mine = here.those i (Memᴰ.head refl)

      -- the assertion is one of those that are asked about
      is_asked : (a : Asked) → relevant a ≡ s → handed (at ys i) ∈ relevant a
      is_asked a f = subst (λ (l : List Delegation). handed (at ys i) ∈ l) (sym f) (Memᴰ.map handed (get_d_in ys i (record { variable = 0; from = 0; right = 0; to = 0 }) mine.0))

      -- ---- it reaches t
      module _ (h : Reaches n d q t e) where
        marked_so : Marks (take n e) (marked d q t (take n e)) (set (take n e) t (d + 1)) 1
        marked_so = reaches_marks n d q t e (omega (arith, w.sized)) low_d h

        new_ext : Whoever s n (λ a. Ext a d D (set (take n e) t (d + 1)))
        new_ext a f c = subst (λ (l : List ℕ). Ext a d D l) (sym marked_so.marks) (ext_relevant a d D low_d (g.good a f c).size (handed (at ys i)) (take n e) (is_asked a f) (w.ext a f c))

        -- by a chain of d + 1 steps
        reached_by : Whoever s n (λ a. Chain a (d + 1) t)
        reached_by a f c =
            let good : Good a d D = g.good a f c in
            let q-of : q < a.count = omega (arith, h.q_in) in
            let q-had : get_or D q 0 ≡ d = had a d D low_d good.size (take n e) (w.ext a f c) q q-of (get_or-take n e q 0 h.q_in ∙ h.q_has) in
            let b = (good.sound q q-of (λ k. omega (arith, low_d))).1 in
            subst (λ (k : ℕ). Chain a k t) (sym (add-one d)) (link (subst (λ (k : ℕ). Chain a k q) q-had b) (relevant_step a (handed (at ys i)) (is_asked a f) (omega (arith, h.t_in))))

      -- the step reaches p: by a chain of d + 1 steps, and none is shorter
      pub within_hit : Stepped n d q t p e e' Principal → Whoever s n (λ a. Shortest a p (d + 1))
      within_hit h a f c =
          let good : Good a d D = g.good a f c in record {
            chain = subst (Chain a (d + 1)) h.1 (reached_by h.0 a f c);
            least = λ k ch. elim (dec_le (d + 1) k) [ yes l ↦ l | no l ↦ absurd (omega (arith, good.complete ch (omega arith), none_marked ys n p few lt d B g)) ];
            short = omega (arith, room ys n p few lt d B g);
          }

      pub within_marked : Stepped n d q t p e e' Principal → get_or e' p 0 ≡ unreached → ⊥
      within_marked h none =
          let has : get_or e' p 0 ≡ d + 1 = ap (λ (k : ℕ). get_or e' k 0) (sym h.1) ∙ ap (λ (l : List ℕ). get_or l t 0) h.2 ∙ get_or-set_same e t (d + 1) 0 (omega (arith, w.sized, h.0.t_in)) in
          omega (arith, low_d)

      -- ---- it does not reach p

      -- what the step leaves: the board x
      record Moved (x : List ℕ) : Type 0 where
        sized : length x ≡ board_size n (length ys)
        none : get_or x p 0 ≡ unreached
        walk : Walk n ys x d i (i ∷ pop.tail)
        next : List ℕ
        next_walk : Walk n ys x (d + 1) (next_round n x) next
        next_whole : Whole n ys x (d + 1) next
        kept : Kept n ys x
        low : Low n (d + 1) x
        still : (k : ℕ) → k < n → Has k e → Has k x
        there : t < n → Has t x
        counts : r + left (take n x) ≡ left (take n e)
        top : ((r ≡ 0) × (take n x ≡ take n e)) ⊎ ((r ≡ 0 → ⊥) × Top n (d + 1) x)
        ext : Whoever s n (λ a. Ext a d D (take n x))

      -- nobody is reached
      moved_none : r ≡ 0 → (Reaches n d q t e → ⊥) → Moved e
      moved_none nobody not = record {
        sized = w.sized;
        none = w.none;
        walk = here;
        next = w.next;
        next_walk = w.next_walk;
        next_whole = w.next_whole;
        kept = w.kept;
        low = w.low;
        still = λ k k-in has. has;
        there = λ t_in f. not (record { q_in = mine.1; q_has = mine.2; t_in = t_in; t_has = f });
        counts = omega arith;
        top = inl (nobody, refl);
        ext = w.ext;
      }

      -- t is, who is not p, and leads on in the next round
      moved_other : r ≡ 1 → (h : Reaches n d q t e) → (t ≡ p → ⊥) → Moved (pushed n t (set e t (d + 1)))
      moved_other one h other = record {
        sized = x.sized ∙ w.sized;
        none = x.same p lt (λ f. other (sym f)) ∙ w.none;
        walk = walk_stays n ys e t (d + 1) lines w.sized h.t_in h.t_has w.kept is d i (i ∷ pop.tail) (λ f. omega (arith, low_d)) here;
        next = (own n ys e t (d + 1) lines w.sized h.t_in h.t_has w.kept is).places ++ w.next;
        next_walk = walk_grows n ys e t (d + 1) lines w.sized h.t_in h.t_has w.kept is w.next w.next_walk;
        next_whole = whole_grows n ys e t (d + 1) lines w.sized h.t_in h.t_has w.kept is w.next w.next_whole;
        kept = kept_stays n ys e t (d + 1) lines w.sized h.t_in h.t_has w.kept is;
        low = λ k k-in.
            elim (ℕ_discrete k t) [
              | yes f ↦ inr (omega (arith, at_t k f))
              | no ne ↦ ⊎_elim (λ f. inl (x.same k k-in ne ∙ f)) (λ f. inr (omega (arith, x.same k k-in ne))) (w.low k k-in)
            ];
        still = λ k k-in has f.
            elim (ℕ_discrete k t) [
              | yes j ↦ omega (arith, low_d, at_t k j)
              | no ne ↦ has (sym (x.same k k-in ne) ∙ f)
            ];
        there = λ t_in f. omega (arith, low_d, x.new);
        counts = omega (arith, ap left x.marks, (marked_so h).counts);
        top = inr (λ f. omega arith, record { who = t; is_one = h.t_in; has = x.new });
        ext = subst (λ (l : List ℕ). Whoever s n (λ a. Ext a d D l)) (sym x.marks) (new_ext h);
      }
        where
          is : d + 1 ≡ unreached → ⊥
          is f = omega (arith, low_d)

          x : Effect n t (d + 1) (own n ys e t (d + 1) lines w.sized h.t_in h.t_has w.kept is).places e (pushed n t (set e t (d + 1)))
          x = effect n ys e t (d + 1) lines w.sized h.t_in h.t_has w.kept is

          at_t : (k : ℕ) → k ≡ t → get_or (pushed n t (set e t (d + 1))) k 0 ≡ d + 1
          at_t k f = ap (λ (j : ℕ). get_or (pushed n t (set e t (d + 1))) j 0) f ∙ x.new

      moved : Went n d q t p e e' r → Moved e'
      moved told =
          elim (ℕ_discrete r 0) [
            | yes z ↦ let o = told.none z in subst Moved (sym o.0) (moved_none z o.1)
            | no ne ↦
                let one : r ≡ 1 = omega (arith, told.few) in
                let o = told.other one in
                subst Moved (sym o.2) (moved_other one o.0 o.1)
          ]

      pub within_fits : Went n d q t p e e' r → m + r < 2 ^ 64
      within_fits told = omega (arith, (moved told).counts, w.counts, left_le D, cut ys n p few lt d B g)

      -- the round goes on
      pub within_next : Went n d q t p e e' r → (i' : ℕ) → i' ≡ following n e' i → Within ys n p d B u i' (m + r) e'
      within_next told i' f = record {
        going = g;
        not_anyone = w.not_anyone;
        sized = x.sized;
        none = x.none;
        rest = pop.tail;
        turns = pop.long;
        walk = subst (λ (j : ℕ). Walk n ys e' d j pop.tail) (sym f) (walk_on n ys e' d i pop.tail x.walk);
        next = x.next;
        next_walk = x.next_walk;
        next_whole = x.next_whole;
        kept = x.kept;
        low = x.low;
        covered = λ k k-in q_in has.
            ⊎_elim
            (λ o. ⊎_elim
            (λ j.
            let k-is : k ≡ i = j ∙ sym opened.linked.0 in
            inr (λ t_in. subst (λ (z : ℕ). (at ys z).to < n → Has (at ys z).to e') (sym k-is) x.there t_in))
            inl
            (Memᴰ.cases_cons (subst (λ (l : List ℕ). k ∈ l) pop.is o)))
            (λ o. inr (λ t_in. x.still (at ys k).to t_in (o t_in)))
            (w.covered k k-in q_in has);
        counts = total m r (left (take n e)) (left (take n e')) (left D) w.counts x.counts;
        top = ⊎_elim
            (λ c. ⊎_elim (λ o. inl (omega (arith, o.0, c.0), c.1 ∙ o.1)) (λ o. inr (λ j. o.0 (omega arith), stays c o.1)) w.top)
            (λ c. inr (λ j. c.0 (omega arith), c.1))
            x.top;
        ext = x.ext;
      }
        where
          x : Moved e'
          x = moved told

          stays : (r ≡ 0) × (take n e' ≡ take n e) → Top n (d + 1) e → Top n (d + 1) e'
          stays c o = record {
            who = o.who;
            is_one = o.is_one;
            has = sym (get_or-take n e' o.who 0 o.is_one) ∙ ap (λ (l : List ℕ). get_or l o.who 0) c.1 ∙ get_or-take n e o.who 0 o.is_one ∙ o.has;
          }

    -- the round is over
    module _ (w : Within ys n p d B zero i m e) where
      start_of : Going ys n p d B
      start_of = w.going

      done_all : (k : ℕ) → k ∈ w.rest → ⊥
      done_all k o = none_in w.rest w.turns k o
        where
          none_in : (l : List ℕ) → length l ≡ 0 → (k : ℕ) → k ∈ l → ⊥
          none_in [] f k o = Memᴰ.not-nil o
          none_in (x ∷ l) f k o = omega arith

      -- everyone a standing assertion from somebody who has d is reached
      all_covered : Whoever s n (λ a. Covers a d D (take n e))
      all_covered a f c j v j-in v-in has o none =
          let there = place_of (record { from = j; to = v }) ys (subst (λ (l : List Delegation). record { from = j; to = v } ∈ l) f (delegates a.variable a.right j v a.assertions o)) in
          let k : ℕ = there.0 in
          let is-from : (at ys k).from ≡ j = ap (λ (z : Delegation). z.from) there.2 in
          let is-to : (at ys k).to ≡ v = ap (λ (z : Delegation). z.to) there.2 in
          let j-n : j < n = omega arith in
          let v-n : v < n = omega arith in
          ⊎_elim (done_all k)
          (λ h. h (omega arith) (ap (λ (z : ℕ). get_or e z 0) is-to ∙ sym (get_or-take n e v 0 v-n) ∙ none))
          (w.covered k there.1 (omega arith) (ap (λ (z : ℕ). get_or B z 0) is-from ∙ sym (get_or-take n B j 0 j-n) ∙ has))

      other_marked : get_or D 1 0 ≡ d → ⊥
      other_marked f = w.not_anyone (sym (get_or-take n B 1 0 (omega (arith, room ys n p few lt d B start_of))) ∙ f)

      -- it reached nobody: there is no chain to p, and the longest of the shortest chains has d steps
      module _ (nobody : m ≡ 0) where
        unchanged : take n e ≡ D
        unchanged = ⊎_elim (λ o. o.1) (λ o. absurd (o.0 nobody)) w.top

        pub within_never : Whoever s n (λ a. (k : ℕ) → Chain a k p → ⊥)
        within_never a f c k ch =
            all_marked a d D (small ys n p few lt d B start_of) (start_of.good a f c) other_marked (take n e) (w.ext a f c) (all_covered a f c) unchanged ch (none_marked ys n p few lt d B start_of)

        pub within_longest : Whoever s n (λ a. Longest a d)
        within_longest a f c =
            let good : Good a d D = start_of.good a f c in
            let low_d : d < 4096 = small ys n p few lt d B start_of in
            let k : ℕ = start_of.top.who in
            let k-in : k < a.count = omega (arith, start_of.top.is_one) in
            let has : get_or D k 0 ≡ d = get_or-take n B k 0 start_of.top.is_one ∙ start_of.top.has in record {
              who = k;
              theirs = subst (Shortest a k) has (shortest_marked a d D low_d good k k-in (omega (arith, room ys n p few lt d B start_of)) (λ o. omega (arith, low_d)));
              most = λ v j sh.
                  let b = good.sound v (chain_in sh.chain) (all_marked a d D low_d good other_marked (take n e) (w.ext a f c) (all_covered a f c) unchanged sh.chain) in
                  omega (arith, b.0, sh.least (get_or D v 0) b.1);
            }

      -- it reached somebody: fewer are left, and the next round can begin
      module _ (some : m ≡ 0 → ⊥) where
        pub within_less : left (take n e) < left (take n B)
        within_less = some_more _ _ _ some w.counts

        pub within_over : Going ys n p (d + 1) e
        within_over = record {
          sized = w.sized;
          time = in_time d (left D) (left (take n e)) n start_of.time within_less;
          none = w.none;
          top = ⊎_elim (λ h. absurd (some h.0)) (λ h. h.1) w.top;
          low = w.low;
          good = λ a f c. good_next a d D (small ys n p few lt d B start_of) (start_of.good a f c) other_marked (take n e) (w.ext a f c) (all_covered a f c);
          front = record { next = w.next; walk = w.next_walk; whole = w.next_whole; kept = w.kept };
        }
