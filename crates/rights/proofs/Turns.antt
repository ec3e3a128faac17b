-- How a round's turns end: the assertions that are still to be gone over are counted along their links, and there are no more of them than
-- assertions. And what the search keeps from one turn to the next.
use mathlib.Core.Path.{◌≡◌, refl, sym, ap, ◌∙◌, subst}
use mathlib.Core.List.Memᴰ
use mathlib.Core.List.{List, [], ◌∷◌, map}
use Rattle.std.specs.Prelude.{◌||◌}
use mathlib.Core.Bool.{Bool, true, false, cond}
use mathlib.Core.Logic.{◌⊎◌, ⊎_elim}
use Prim.Native.Nat.{ℕ, zero, suc, ◌+◌, ◌*◌, ◌^◌, ◌≤◌, ◌<◌}
use native.Mathlib.Omega.{arith}
use lib.Dec.{eqb}
use lib.ListN.{length, get_or, set, take}
use lib.Seq.{take-set-le}
use borrow.Author.Tests.{eq-eqb, ne_eqb, eqb-true}
use Rattle.std.specs.List.{IsDistinct, AllByRecursion, list_any}
use Rattle.std.proofs.lemmas.Map.Steps.{length-le_from_distinct_below}
use Rattle.assertion.specs.Packed.{Assertion}
use Rattle.search_steps.specs.Steps.{◌∈◌, handed, unreached, left}
use Rattle.chains.specs.Chain.{Searched}
use Rattle.chains.specs.Rounds.{found, Whoever}
use Rattle.board.specs.Board.{at, board_size, first_from, following, last_from, Linked, next_round, nothing, Stepped, Walk}
use Rattle.board.specs.declared.Reached.TheVariants.{Principal}
use Rattle.rights.proofs.Beginning.{Going, Within, within_first, searched_yes, searched_no}
use Rattle.rights.proofs.Leaving.{Went, within_in, within_out, within_needs, within_fits, within_next, within_hit, within_marked, within_never, within_longest, within_less, within_over}

-- how many are gone over from place c on by the step f, but k at most
unfoldable pub links : ℕ → (ℕ → ℕ) → ℕ → ℕ
links zero f c = 0
links (suc k) f c = cond (eqb c nothing) 0 (links k f (f c) + 1)

-- places that are numbers of assertions
abbrev Numbers : List ℕ → Type 0
Numbers ks = (k : ℕ) → k ∈ ks → k < nothing

links_are : (m : ℕ) (f : ℕ → ℕ) (c : ℕ) (ks : List ℕ) → Linked f c ks → Numbers ks → length ks ≤ m → links m f c ≡ length ks
unfolding links
links_are zero f c [] l ns le = refl
links_are zero f c (k ∷ ks) l ns le = absurd (omega arith)
links_are (suc m) f c [] l ns le = simp (eq-eqb c nothing l)
links_are (suc m) f c (k ∷ ks) l ns le =
    let some : c ≡ nothing → ⊥ = λ e. omega (arith, ns k (Memᴰ.head refl), l.0) in
    let rest : links m f (f k) ≡ length ks = links_are m f (f k) ks l.1 (λ j i. ns j (Memᴰ.tail i)) (omega arith) in
    let same : links m f (f c) ≡ links m f (f k) = ap (λ (j : ℕ). links m f (f j)) l.0 in
    simp (ne_eqb c nothing some) (omega arith)

-- from one place on there is one list of them
linked_once : (f : ℕ → ℕ) (c : ℕ) (ks zs : List ℕ) → Linked f c ks → Linked f c zs → Numbers ks → Numbers zs → length ks ≡ length zs
linked_once f c [] [] l r ns os = refl
linked_once f c [] (z ∷ zs) l r ns os = absurd (omega (arith, os z (Memᴰ.head refl), l, r.0))
linked_once f c (k ∷ ks) [] l r ns os = absurd (omega (arith, ns k (Memᴰ.head refl), r, l.0))
linked_once f c (k ∷ ks) (z ∷ zs) l r ns os =
    ap suc (linked_once f (f k) ks zs l.1 (subst (λ (j : ℕ). Linked f (f j) zs) (sym r.0 ∙ l.0) r.1) (λ j i. ns j (Memᴰ.tail i)) (λ j i. os j (Memᴰ.tail i)))

-- from a place of a list on, those that come after it
record After (f : ℕ → ℕ) (ks : List ℕ) (k : ℕ) : Type 0 where
  those : List ℕ
  linked : Linked f k those
  fewer : length those ≤ length ks
  among : (j : ℕ) → j ∈ those → j ∈ ks

linked_after : (f : ℕ → ℕ) (c : ℕ) (ks : List ℕ) (k : ℕ) → Linked f c ks → k ∈ ks → After f ks k
linked_after f c [] k l i = absurd (Memᴰ.not-nil i)
linked_after f c (j ∷ ks) k l i =
    ⊎_elim
    (λ e. record { those = j ∷ ks; linked = (e, l.1); fewer = omega arith; among = λ x o. o })
    (λ o. let a = linked_after f (f j) ks k l.1 o in record { those = a.those; linked = a.linked; fewer = omega (arith, a.fewer); among = λ x u. Memᴰ.tail (a.among x u) })
    (Memᴰ.cases_cons i)

-- none comes twice
apart : (k : ℕ) (ks : List ℕ) → (k ∈ ks → ⊥) → AllByRecursion (λ (y : ℕ). eqb k y ≡ false) ks
apart k [] out = tt
apart k (j ∷ ks) out = (ne_eqb k j (λ e. out (Memᴰ.head e)), apart k ks (λ i. out (Memᴰ.tail i)))

linked_distinct : (f : ℕ → ℕ) (c : ℕ) (ks : List ℕ) → Linked f c ks → Numbers ks → IsDistinct eqb ks
unfolding IsDistinct
linked_distinct f c [] l ns = tt
linked_distinct f c (k ∷ ks) l ns = (
  apart k ks (λ i.
      let a = linked_after f (f k) ks k l.1 i in
      omega (arith, a.fewer, linked_once f k a.those (k ∷ ks) a.linked (refl, l.1) (λ j o. ns j (Memᴰ.tail (a.among j o))) ns)),
  linked_distinct f (f k) ks l.1 (λ j o. ns j (Memᴰ.tail o)),
)

or_in : (b c : Bool) (q k : ℕ) (ks : List ℕ) → (b ≡ true → q ≡ k) → (c ≡ true → q ∈ ks) → (b || c) ≡ true → q ∈ (k ∷ ks)
or_in true c q k ks f g e = Memᴰ.head (f refl)
or_in false c q k ks f g e = Memᴰ.tail (g e)

any_in : (q : ℕ) (ks : List ℕ) → list_any (eqb q) ks ≡ true → q ∈ ks
any_in q [] e = absurd cc
any_in q (k ∷ ks) e = or_in (eqb q k) (list_any (eqb q) ks) q k ks (eqb-true q k) (any_in q ks) e

-- a walk is no longer than the list that it goes over
pub walk_short : (n : ℕ) (ys : List Assertion) (b : List ℕ) (d c : ℕ) (ks : List ℕ) → length ys ≤ 2048 → Walk n ys b d c ks → length ks ≤ length ys
walk_short n ys b d c ks lines w =
    length-le_from_distinct_below ks (length ys) (linked_distinct (following n b) c ks w.linked (λ k i. omega (arith, (w.those k i).0))) (λ q e. (w.those q (any_in q ks e)).0)

-- within a round, whose marks at its head were those of b: it goes on with assertion i, and m were reached so far; the board is e
pub record Turning (ys : List Assertion) (n p d : ℕ) (b : List ℕ) (i m : ℕ) (e : List ℕ) : Type 0 where
  pub head : List ℕ
  pub marks : take n head ≡ take n b
  pub turns : ℕ
  pub bounded : turns ≤ length ys
  pub within : Within ys n p d head turns i m e

-- what the search says, where it is left in round d with the board e
abbrev pub Told : List Assertion → ℕ → ℕ → ℕ → List ℕ → Type 0
Told ys n p d e = Whoever (map handed ys) n (λ a. Searched a p (found (d + 1) (get_or e p 0)) (d + 1))

module _ (ys : List Assertion) (n p : ℕ) (few : n ≤ 4096) (lines : length ys ≤ 2048) (lt : p < n) (d : ℕ) where
  -- the round begins at the board B
  pub turning_first : (B : List ℕ) → Going ys n p d B → (get_or B 1 0 ≡ d → ⊥) → (i : ℕ) (e : List ℕ) → i ≡ next_round n B → e ≡ set B (3 * n) nothing → Turning ys n p d e i 0 e
  turning_first B g other i e first made =
      let start = within_first ys n p few lt d B g other i e first made in
      let w = start.1 in record {
        head = B;
        marks = sym (ap (take n) made ∙ take-set-le n B (3 * n) nothing (omega arith));
        turns = start.0;
        bounded = omega (arith, w.turns, walk_short n ys e d i w.rest lines w.walk);
        within = w;
      }

  module _ (b : List ℕ) (i m : ℕ) (e : List ℕ) (t : Turning ys n p d b i m e) where
    -- how many turns are to come
    turns_left : links (length ys) (following n e) i ≡ t.turns
    turns_left =
        let w = t.within in
        links_are (length ys) (following n e) i w.rest w.walk.linked (λ k o. omega (arith, (w.walk.those k o).0)) (omega (arith, w.turns, t.bounded)) ∙ w.turns

    -- there is an assertion to go over
    module _ (more : i < length ys) where
      abbrev Turn : Type 0
      Turn = (u : ℕ) × (t.turns ≡ suc u) × Within ys n p d t.head (suc u) i m e

      abbrev turn : Turn
      turn = turn_of t.turns refl t.within
        where
          turn_of : (k : ℕ) → t.turns ≡ k → Within ys n p d t.head k i m e → Turn
          turn_of zero is w = absurd (omega (arith, within_out ys n p few lines lt d t.head zero i m e w))
          turn_of (suc u) is w = (u, is, w)

      -- what its step needs
      pub turning_needs : (at ys i).to < n → get_or e (at ys i).to 0 ≡ unreached → (first_from n e (at ys i).to ≡ nothing) ⊎ (board_size n (last_from n e (at ys i).to) < length e)
      turning_needs = within_needs ys n p few lines lt d t.head turn.0 i m e turn.2

      -- it reaches p
      pub turning_hit : (e' : List ℕ) → Stepped n d (at ys i).from (at ys i).to p e e' Principal → Told ys n p d e'
      turning_hit e' h =
          searched_yes (map handed ys) n p (d + 1) (get_or e' p 0) lt
          (within_marked ys n p few lines lt d t.head turn.0 i m e turn.2 e' 0 h) (within_hit ys n p few lines lt d t.head turn.0 i m e turn.2 e' 0 h)

      module _ (e' : List ℕ) (r : ℕ) (told : Went n d (at ys i).from (at ys i).to p e e' r) where
        pub turning_fits : m + r < 2 ^ 64
        turning_fits = within_fits ys n p few lines lt d t.head turn.0 i m e turn.2 e' r told

        module _ (i' : ℕ) (on : i' ≡ following n e' i) where
          abbrev pub turning_next : Turning ys n p d b i' (m + r) e'
          turning_next = record {
            head = t.head;
            marks = t.marks;
            turns = turn.0;
            bounded = omega (arith, turn.1, t.bounded);
            within = within_next ys n p few lines lt d t.head turn.0 i m e turn.2 e' r told i' on;
          }

    -- there is none: the round is over
    module _ (none : length ys ≤ i) where
      last : Within ys n p d t.head zero i m e
      last = last_of t.turns t.within
        where
          last_of : (k : ℕ) → Within ys n p d t.head k i m e → Within ys n p d t.head zero i m e
          last_of zero w = w
          last_of (suc u) w = absurd (omega (arith, within_in ys n p few lines lt d t.head u i m e w))

      pub turning_no : m ≡ 0 → Told ys n p d e
      turning_no nobody =
          searched_no (map handed ys) n p d (get_or e p 0) lt last.none
          (within_never ys n p few lines lt d t.head zero i m e last nobody) (within_longest ys n p few lines lt d t.head zero i m e last nobody)

      module _ (some : m ≡ 0 → ⊥) where
        pub turning_over : Going ys n p (d + 1) e
        turning_over = within_over ys n p few lines lt d t.head zero i m e last some

        pub turning_less : left (take n e) < left (take n b)
        turning_less = omega (arith, ap left t.marks, within_less ys n p few lines lt d t.head zero i m e last some)

-- each turn leaves fewer
pub turning_fewer : (ys : List Assertion) (n p : ℕ) (few : n ≤ 4096) (lines : length ys ≤ 2048) (lt : p < n) (d : ℕ) (b : List ℕ) (i m : ℕ) (e : List ℕ) (t : Turning ys n p d b i m e) (more : i < length ys)
    (e' : List ℕ) (r : ℕ) (told : Went n d (at ys i).from (at ys i).to p e e' r) (i' : ℕ) (on : i' ≡ following n e' i)
    → links (length ys) (following n e') i' < links (length ys) (following n e) i
turning_fewer ys n p few lines lt d b i m e t more e' r told i' on =
    let next = turning_next ys n p few lines lt d b i m e t more e' r told i' on in
    omega (arith, turns_left ys n p few lines lt d b i m e t, turns_left ys n p few lines lt d b i' (m + r) e' next, (turn ys n p few lines lt d b i m e t more).1)
