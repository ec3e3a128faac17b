-- There is one right answer and one number of rounds begun, and `shortest_of` and `begun_of` compute them.
use mathlib.Core.Path.{◌≡◌, refl, sym, ap, ◌∙◌, subst}
use native.Mathlib.Decide.{ℕ_discrete, dec_le}
use mathlib.Core.List.{List}
use mathlib.Core.Bool.{Bool, true, false, cond}
use mathlib.Core.Logic.{⊎_elim}
use Prim.Native.Nat.{ℕ, zero, suc, ◌+◌, ◌≤◌, ◌<◌}
use native.Mathlib.Nat.{le_antisymm}
use native.Mathlib.Omega.{arith}
use lib.Dec.{ltb, eqb}
use lib.ListN.{length, get_or}
use borrow.Author.Tests.{ltb-true, ltb-false, lt-ltb, le-ltb, eqb-true, eqb-false}
use Rattle.chains.specs.Chain.{Asked, Shortest, Answered, Longest, Begun, Searched}
use Rattle.std.specs.Prelude.{Option, Some, None}
use Rattle.search_steps.specs.Steps.{Delegation, unreached, left}
use Rattle.chains.specs.Rounds.{relevant, one_round, start, Whoever, searched, shortest_of, longer, longest_of, begun_for, begun_of}
use Rattle.search_steps.proofs.Marking.{left_some}
use Rattle.chains.proofs.Rounding.{round_length, fewer_round}
use Rattle.chains.proofs.Searching.{Stage, start_length, left_start, stage_first, stage_found, stage_open, stage_next, stage_never, round_extends, round_reaches, in_time, admin_first, answer_outside, chain_in}

cond_holds : {A : Type 0} (P : A → Type 0) (b : Bool) (x y : A) → (b ≡ true → P x) → (b ≡ false → P y) → P (cond b x y)
cond_holds P true x y f g = f refl
cond_holds P false x y f g = g refl

-- the search as a computation is right from any stage on, with more rounds to go than principals are left
searched_right : (s : List Delegation) (n p k d : ℕ) (l : List ℕ) → n ≤ 4096 → p < n → length l ≡ n → d + left l < n → left l < k → Whoever s n (λ a. Stage a p d l) → Whoever s n (λ a. Answered a p (searched k d s p l))
unfolding searched
searched_right s n p zero d l few lt sized time more stage a e c = absurd (omega arith)
searched_right s n p (suc k) d l few lt sized time more stage a e c =
    let next : List ℕ = one_round d s l in
    let rest : Option ℕ = searched k (d + 1) s p next in
    let small : d < 4096 = omega arith in
    cond_holds (Answered a p) (eqb (get_or l p 0) unreached) (cond (eqb (get_or l 1 0) d) (Some (d + 1)) (cond (eqb (left next) (left l)) None rest)) (Some d)
    (λ u.
    let none : get_or l p 0 ≡ unreached = eqb-true _ _ u in
    let some : 0 < left l = left_some l p (omega arith) none in
    cond_holds (Answered a p) (eqb (get_or l 1 0) d) (Some (d + 1)) (cond (eqb (left next) (left l)) None rest)
    (λ v. stage_open s n p d l small stage lt (omega arith) none (eqb-true _ _ v) a e c)
    (λ v.
    let not_anyone : get_or l 1 0 ≡ d → ⊥ = eqb-false _ _ v in
    cond_holds (Answered a p) (eqb (left next) (left l)) None rest
    (λ w.
    let same : next ≡ l = ⊎_elim (λ h. h) (λ h. absurd (omega (arith, eqb-true (left next) (left l) w))) (fewer_round d s l small) in
    stage_never s n p d l small stage none not_anyone next (round_extends s n d l small sized) (round_reaches s n d l small sized) same a e c)
    (λ w.
    let fewer : left next < left l = ⊎_elim (λ same. absurd (eqb-false _ _ w (ap left same))) (λ h. h) (fewer_round d s l small) in
    searched_right s n p k (d + 1) next few lt (round_length d s l ∙ sized) (in_time d (left l) (left next) n time fewer) (omega arith) (stage_next s n p d l small stage none not_anyone next (round_extends s n d l small sized) (round_reaches s n d l small sized)) a e c)))
    (λ u. stage_found s n p d l small stage lt (omega arith) (eqb-false _ _ u) a e c)

-- what is computed is the right answer
pub computed_right : (a : Asked) (p : ℕ) → a.count ≤ 4096 → Answered a p (shortest_of a p)
unfolding shortest_of
computed_right a p few =
    let n : ℕ = a.count in
    cond_holds (Answered a p) (ltb p n) (searched n 0 (relevant a) p (start n)) None
    (λ t.
    let lt : p < n = ltb-true _ _ t in
    let pos : 0 < n = omega arith in
    let some : left (start n) < n = left_start n pos in
    searched_right (relevant a) n p n 0 (start n) few lt (start_length n pos) (omega arith) some (stage_first (relevant a) n p pos) a refl refl)
    (λ f. answer_outside a p (ltb-false _ _ f))

-- there is one right answer
answer_once : (a : Asked) (p : ℕ) (r s : Option ℕ) → Answered a p r → Answered a p s → r ≡ s
answer_once a p (Some n) (Some m) f g = ap Some (le_antisymm (f.least m g.chain) (g.least n f.chain))
answer_once a p (Some n) None f g = absurd (g n f.chain)
answer_once a p None (Some m) f g = absurd (f m g.chain)
answer_once a p None None f g = refl

-- a right answer is the one computed
right_computed : (a : Asked) (p : ℕ) (r : Option ℕ) → a.count ≤ 4096 → Answered a p r → r ≡ shortest_of a p
right_computed a p r few f = answer_once a p r (shortest_of a p) f (computed_right a p few)

-- ---- the rounds begun

-- nobody's shortest chain is longer than the longest of them
longer_more : (o : Option ℕ) (m : ℕ) → m ≤ longer o m
longer_more (Some n) m = cond_holds (λ (k : ℕ). m ≤ k) (ltb m n) n m (λ t. omega (arith, ltb-true m n t)) (λ t. omega arith)
longer_more None m = omega arith

longer_found : (o : Option ℕ) (m n : ℕ) → o ≡ Some n → n ≤ longer o m
longer_found o m n e = subst (λ (x : Option ℕ). n ≤ longer x m) (sym e) (cond_holds (λ (k : ℕ). n ≤ k) (ltb m n) n m (λ t. omega arith) (λ t. omega (arith, ltb-false m n t)))

longest_most : (a : Asked) (p n k : ℕ) → p < k → shortest_of a p ≡ Some n → n ≤ longest_of a k
unfolding longest_of
longest_most a p n zero lt e = absurd (omega arith)
longest_most a p n (suc k) lt e =
    elim (ℕ_discrete p k) [
      | yes same ↦ longer_found (shortest_of a k) (longest_of a k) n (ap (shortest_of a) (sym same) ∙ e)
      | no other ↦ omega (arith, longest_most a p n k (omega (arith, other)) e, longer_more (shortest_of a k) (longest_of a k))
    ]

-- and somebody has it
record Somebody (a : Asked) (k : ℕ) : Type 0 where
  who : ℕ
  theirs : Shortest a who k

longer_somebody : (a : Asked) (p : ℕ) (o : Option ℕ) (m : ℕ) → Answered a p o → Somebody a m → Somebody a (longer o m)
longer_somebody a p (Some n) m f h = cond_holds (Somebody a) (ltb m n) n m (λ t. record { who = p; theirs = f }) (λ t. h)
longer_somebody a p None m f h = h

longest_somebody : (a : Asked) (k : ℕ) → a.count ≤ 4096 → 0 < a.count → Somebody a (longest_of a k)
unfolding longest_of
longest_somebody a zero few pos = record { who = 0; theirs = admin_first a 0 refl pos }
longest_somebody a (suc k) few pos = longer_somebody a k (shortest_of a k) (longest_of a k) (computed_right a k few) (longest_somebody a k few pos)

pub longest_computed : (a : Asked) → a.count ≤ 4096 → 0 < a.count → Longest a (longest_of a a.count)
longest_computed a few pos =
    let h = longest_somebody a a.count few pos in record {
      who = h.who;
      theirs = h.theirs;
      most = λ p n sh. longest_most a p n a.count (chain_in sh.chain) (sym (right_computed a p (Some n) few sh));
    }

-- what is computed is what a search says, and begins
begun_computed : (a : Asked) (o : Option ℕ) (k : ℕ) → Longest a k → Begun a o (begun_for o k)
begun_computed a (Some n) k l = refl
begun_computed a None k l = (k, l, refl)

pub searched_computed : (a : Asked) (p : ℕ) → a.count ≤ 4096 → Searched a p (shortest_of a p) (begun_of a p)
unfolding begun_of
searched_computed a p few = record {
  answer = computed_right a p few;
  begun = λ lt. subst (Begun a (shortest_of a p)) (sym (cond_true (lt-ltb p a.count lt))) (begun_computed a (shortest_of a p) (longest_of a a.count) (longest_computed a few (omega arith)));
  outside = λ h. cond_false (le-ltb p a.count h);
}
  where
    cond_true : ltb p a.count ≡ true → begun_of a p ≡ begun_for (shortest_of a p) (longest_of a a.count)
    cond_true e = simp e

    cond_false : ltb p a.count ≡ false → begun_of a p ≡ 0
    cond_false e = simp e

-- the longest of the shortest chains is one number
pub longest_once : (a : Asked) (k j : ℕ) → Longest a k → Longest a j → k ≡ j
longest_once a k j f g = le_antisymm (g.most f.who k f.theirs) (f.most g.who j g.theirs)

begun_once : (a : Asked) (o : Option ℕ) (r t : ℕ) → Begun a o r → Begun a o t → r ≡ t
begun_once a (Some n) r t f g = f ∙ sym g
begun_once a None r t f g = f.2 ∙ ap suc (longest_once a f.0 g.0 f.1 g.1) ∙ sym g.2

-- what a search says and begins is what is computed
pub computed_searched : (a : Asked) (p : ℕ) (o : Option ℕ) (r : ℕ) → a.count ≤ 4096 → Searched a p o r → (o ≡ shortest_of a p) × (r ≡ begun_of a p)
computed_searched a p o r few f = (same, elim (dec_le a.count p) [ yes h ↦ f.outside h ∙ sym (g.outside h) | no h ↦ rounds (omega arith) ])
  where
    same : o ≡ shortest_of a p
    same = right_computed a p o few f.answer

    g : Searched a p (shortest_of a p) (begun_of a p)
    g = searched_computed a p few

    rounds : p < a.count → r ≡ begun_of a p
    rounds lt = begun_once a (shortest_of a p) r (begun_of a p) (subst (λ (x : Option ℕ). Begun a x r) same (f.begun lt)) (g.begun lt)
