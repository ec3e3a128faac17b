-- A word is a keyword where it is one of those with its first letter.
-- Assumes nothing.
use mathlib.Core.Path.{◌≡◌, refl, sym, ap, ◌∙◌}
use mathlib.Core.List.{List, [], ◌∷◌}
use mathlib.Core.Bool.{Bool, true, false, ◌&&◌, ◌||◌}
use Prim.Native.Nat.{ℕ, ◌<◌}
use lib.Dec.{eqb}
use lib.ListN.{length, get_or, drop}
use lib.Seq.{drop-cons}
use Rattle.language.specs.Text.{Text, when◌then◌else◌, ◌≟◌, any, keep, member, parts, to_first}
use Rattle.std.proofs.Common.{cond}
use Rattle.std.specs.List.{list_any, slice_split, onto_first}

abbrev pub starts_with : ℕ → Text → Bool
starts_with b [] = false
starts_with b (c ∷ t) = eqb b c

by_first : (b : ℕ) (w : Text) (ts : List Text) → member (b ∷ w) ts ≡ member (b ∷ w) (keep (starts_with b) ts)
by_first b w [] = refl
by_first b w ([] ∷ ts) = by_first b w ts
by_first b w ((c ∷ u) ∷ ts) = go (eqb b c) refl (by_first b w ts)
  where
    go :
        (t : Bool)
        → eqb b c ≡ t
        → member (b ∷ w) ts ≡ member (b ∷ w) (keep (starts_with b) ts)
        → ((t && (w ≟ u)) || member (b ∷ w) ts)
        ≡ member (b ∷ w) (when t then (c ∷ u) ∷ keep (starts_with b) ts else keep (starts_with b) ts)
    go true e ih = rw (e, ih)
    go false e ih = ih

-- a word w that starts with the byte b
module _ (w : Text) (b : ℕ) (some_byte : 0 < length w) (is : get_or w 0 0 ≡ b) (keywords : List Text) where
  spelled : w ≡ b ∷ drop 1 w
  spelled = drop-cons w 0 0 some_byte ∙ ap (λ (x : ℕ). x ∷ drop 1 w) is

  pub one_of_lem : (words : List Text) → keep (starts_with b) keywords ≡ words → member w words ≡ member w keywords
  one_of_lem words e = rw spelled (rw (← e) (sym (by_first b (drop 1 w) keywords)))

-- ---- the words that spaces part, in the library's terms

first_more : (b : ℕ) (ts : List Text) → onto_first b ts ≡ to_first b ts
first_more b [] = refl
first_more b (t ∷ ts) = refl

split_parts : (mark : ℕ) (t : Text) → slice_split (λ b. eqb b mark) t ≡ parts mark t
split_parts mark [] = refl
split_parts mark (b ∷ t) = go (eqb b mark) (split_parts mark t)
  where
    go :
        (c : Bool)
        → slice_split (λ b. eqb b mark) t ≡ parts mark t
        → cond c ([] ∷ slice_split (λ b. eqb b mark) t) (onto_first b (slice_split (λ b. eqb b mark) t))
        ≡ (when c then [] ∷ parts mark t else to_first b (parts mark t))
    go true e = ap (λ (ts : List Text). [] ∷ ts) e
    go false e = ap (onto_first b) e ∙ first_more b (parts mark t)

list_any_is : (f : Text → Bool) (ts : List Text) → list_any f ts ≡ any f ts
list_any_is f [] = refl
list_any_is f (t ∷ ts) = ap (λ (c : Bool). f t || c) (list_any_is f ts)

pub member_parts : (w t : Text) (mark : ℕ) → list_any (λ u. w ≟ u) (slice_split (λ b. eqb b mark) t) ≡ member w (parts mark t)
member_parts w t mark = ap (list_any (λ u. w ≟ u)) (split_parts mark t) ∙ list_any_is (λ u. w ≟ u) (parts mark t)
