-- Numbers written at the front of the room, and others after them.
-- Assumes nothing.
use mathlib.Core.Path.{◌≡◌, refl, sym, ap, ◌∙◌}
use mathlib.Core.List.{List, [], ◌∷◌, ◌++◌, append_assoc}
use Prim.Native.Nat.{ℕ, ◌+◌, ◌≤◌}
use native.Mathlib.Omega.{arith}
use lib.ListN.{length, drop, set, length-append}
use lib.Seq.{take-append_seam, drop-append_seam, drop-drop}
use Rattle.splice.specs.Splices.{over}
use Rattle.state_lookups.specs.Looks.{Says, found}

-- two texts, one after the other
pub says_both : (a b old new : List ℕ) (r : ℕ) → r ≡ length a + length b → new ≡ over (a ++ drop (length a) old) (length a) b → Says (found 0 (a ++ b)) old new r
says_both a b old new r n w =
    let rest : List ℕ = drop (length a) old in
    let behind : drop (length a + length b) (a ++ rest) ≡ drop (length (a ++ b)) old =
    sym (drop-drop (length b) (length a) (a ++ rest)) ∙ ap (drop (length b)) (drop-append_seam a rest) ∙ drop-drop (length b) (length a) old ∙ ap (λ (m : ℕ). drop m old) (sym (length-append a b)) in
    record {
      number_is = omega (arith, n, length-append a b);
      written = w ∙ (λ i. take-append_seam a rest i ++ (b ++ behind i)) ∙ sym (append_assoc a b (drop (length (a ++ b)) old));
    }

-- six numbers stored one by one
pub six : (a b c d e f : ℕ) (l : List ℕ) → 6 ≤ length l
    → set (set (set (set (set (set l 0 a) 1 b) 2 c) 3 d) 4 e) 5 f ≡ (a ∷ b ∷ c ∷ d ∷ e ∷ f ∷ []) ++ drop 6 l
six a b c d e f [] h = absurd (omega arith)
six a b c d e f (t ∷ []) h = absurd (omega arith)
six a b c d e f (t ∷ u ∷ []) h = absurd (omega arith)
six a b c d e f (t ∷ u ∷ v ∷ []) h = absurd (omega arith)
six a b c d e f (t ∷ u ∷ v ∷ w ∷ []) h = absurd (omega arith)
six a b c d e f (t ∷ u ∷ v ∷ w ∷ x ∷ []) h = absurd (omega arith)
six a b c d e f (t ∷ u ∷ v ∷ w ∷ x ∷ y ∷ l) h = refl
