-- Cells that hold nothing yet; and places that are linked: what leaves a link alone, and how one list of them is put before another.
use mathlib.Core.Path.{◌≡◌, refl, sym, ap, ◌∙◌, subst}
use mathlib.Core.List.Memᴰ
use mathlib.Core.List.{List, [], ◌∷◌, ◌++◌}
use mathlib.Core.Logic.{◌⊎◌, inl, inr, ⊎_elim}
use Prim.Native.Nat.{ℕ, zero, suc, ◌≤◌, ◌<◌}
use native.Mathlib.Omega.{arith}
use lib.ListN.{length, get_or, take, replicate}
use Rattle.assertion.specs.Packed.{Assertion}
use Rattle.search_steps.specs.Steps.{◌∈◌, unreached}
use Rattle.board.specs.Board.{at, board_size, Bucket, Ends, first_from, following, last_from, Linked, nothing, Walk}

-- the first k of m cells that hold nothing yet
pub blank_take : (k m : ℕ) → k ≤ m → take k (replicate m unreached) ≡ replicate k unreached
blank_take zero m le = refl
blank_take (suc k) zero le = absurd (omega arith)
blank_take (suc k) (suc m) le = ap (λ (l : List ℕ). unreached ∷ l) (blank_take k m (omega arith))

-- links that are the same at all places
pub linked_same : (f g : ℕ → ℕ) (c : ℕ) (ks : List ℕ) → Linked f c ks → ((k : ℕ) → k ∈ ks → g k ≡ f k) → Linked g c ks
linked_same f g c [] l same = l
linked_same f g c (k ∷ ks) l same =
    (l.0, linked_same f g (g k) ks (subst (λ (j : ℕ). Linked f j ks) (sym (same k (Memᴰ.head refl))) l.1) (λ j m. same j (Memᴰ.tail m)))

-- a bucket whose cells are the same
pub bucket_same : (n : ℕ) (ys : List Assertion) (m : ℕ) (b b' : List ℕ) (q : ℕ) (k : Bucket n ys m b q) → first_from n b' q ≡ first_from n b q → last_from n b' q ≡ last_from n b q
    → ((j : ℕ) → j ∈ k.places → following n b' j ≡ following n b j) → Bucket n ys m b' q
bucket_same n ys m b b' q k first last links = record {
  places = k.places;
  linked = subst (λ (j : ℕ). Linked (following n b') j k.places) (sym first) (linked_same (following n b) (following n b') (first_from n b q) k.places k.linked links);
  ends = subst (λ (z : ℕ). (k.places ≡ []) ⊎ Ends k.places z) (sym last) k.ends;
  those = k.those;
  all = k.all;
}

-- assertions whose cells are the same, and the marks of those that they lead on from
pub walk_same : (n : ℕ) (ys : List Assertion) (b b' : List ℕ) (d i : ℕ) (ks : List ℕ) → Walk n ys b d i ks → ((k : ℕ) → k ∈ ks → following n b' k ≡ following n b k)
    → ((k : ℕ) → k ∈ ks → get_or b' (at ys k).from 0 ≡ get_or b (at ys k).from 0) → Walk n ys b' d i ks
walk_same n ys b b' d i ks w links marks = record {
  linked = linked_same (following n b) (following n b') i ks w.linked links;
  those = λ k m. let h = w.those k m in (h.0, h.1, marks k m ∙ h.2);
}

-- the last place is one of them
pub ends_in : (ks : List ℕ) (z : ℕ) → Ends ks z → z ∈ ks
ends_in [] z e = absurd e
ends_in (k ∷ ks) z e = ⊎_elim (λ h. Memᴰ.head (sym h.1)) (λ h. Memᴰ.tail (ends_in ks z h.1)) e

-- a bucket that is not empty has a last assertion, which has a cell
pub bucket_last : (n : ℕ) (ys : List Assertion) (b : List ℕ) (q : ℕ) → length b ≡ board_size n (length ys) → Bucket n ys (length ys) b q → (first_from n b q ≡ nothing) ⊎ (board_size n (last_from n b q) < length b)
bucket_last n ys b q sized k =
    ⊎_elim
    (λ e. inl (subst (λ (ks : List ℕ). Linked (following n b) (first_from n b q) ks) e k.linked))
    (λ e. inr (omega (arith, (k.those (last_from n b q) (ends_in k.places (last_from n b q) e)).0)))
    k.ends

-- the last place is linked to the first of other places: they come one after the other
pub linked_joined : (f g : ℕ → ℕ) (c z top : ℕ) (ks ws : List ℕ) → Linked f c ks → Ends ks z → ((k : ℕ) → (k ≡ z → ⊥) → g k ≡ f k) → g z ≡ top → Linked g top ws → Linked g c (ks ++ ws)
linked_joined f g c z top [] ws l ends same at r = absurd ends
linked_joined f g c z top (k ∷ ks) ws l ends same at r =
    ⊎_elim
    (λ h. (l.0, subst (λ (ts : List ℕ). Linked g (g k) (ts ++ ws)) (sym h.0) (subst (λ (j : ℕ). Linked g j ws) (sym (ap g h.1 ∙ at)) r)))
    (λ h. (l.0, linked_joined f g (g k) z top ks ws (subst (λ (j : ℕ). Linked f j ks) (sym (same k (λ e. omega arith))) l.1) h.1 same at r))
    ends
