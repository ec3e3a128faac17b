-- The numbers of those names of a list of distinct names that pass a test.
-- Assumes nothing.
use mathlib.Core.Path.{◌≡◌, sym, ap, ◌∙◌}
use mathlib.Core.Bool.{Bool, true, false}
use mathlib.Core.List.{List, [], ◌∷◌, ◌++◌, map, map-append, append-nil}
use Prim.Native.Nat.{ℕ, ◌+◌, ◌<◌}
use native.Mathlib.Numerals.{add-one}
use lib.Dec.{T}
use lib.ListN.{length, get_or, take}
use lib.Seq.{take-suc}
use Rattle.language.specs.Text.{when◌then◌else◌, keep, distinct}
use Rattle.language.specs.Syntax.{Name}
use Rattle.language.proofs.Logic.Lists.{keep_append}
use Rattle.store.specs.Rows.{position}
use Rattle.named_rights.proofs.Places.{position_own}

module _ (f : Name → Bool) (l : List Name) where
  -- the numbers of the first k names that pass the test
  abbrev pub passing : ℕ → List ℕ
  passing k = map (position l) (keep f (take k l))

  passing_next : (k : ℕ) → k < length l → passing (k + 1) ≡ passing k ++ map (position l) (keep f (get_or l k [] ∷ []))
  passing_next k h =
      ap passing (add-one k) ∙ ap (λ (m : List Name). map (position l) (keep f m)) (take-suc l k [] h)
      ∙ ap (map (position l)) (keep_append f (take k l) (get_or l k [] ∷ [])) ∙ map-append (position l) (keep f (take k l)) (keep f (get_or l k [] ∷ []))

  pub passing_more : (k : ℕ) → k < length l → T (distinct l) → f (get_or l k []) ≡ true → passing k ++ (k ∷ []) ≡ passing (k + 1)
  passing_more k h d e =
      sym (passing_next k h ∙ ap (λ (b : Bool). passing k ++ map (position l) (when◌then◌else◌ {A = List Name} b (get_or l k [] ∷ []) [])) e
      ∙ ap (λ (n : ℕ). passing k ++ (n ∷ [])) (position_own l k d h))

  pub passing_same : (k : ℕ) → k < length l → f (get_or l k []) ≡ false → passing k ≡ passing (k + 1)
  passing_same k h e =
      sym (passing_next k h ∙ ap (λ (b : Bool). passing k ++ map (position l) (when◌then◌else◌ {A = List Name} b (get_or l k [] ∷ []) [])) e
      ∙ append-nil (passing k))
