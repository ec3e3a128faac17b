-- Request M-106: records with distinct labels. A field is held where its label has its text; one way round is enough where both weigh the same.
use mathlib.Core.Path.{◌≡◌, refl, sym, ap, ◌∙◌, subst}
use mathlib.Core.Logic.{◌⊎◌, inl, inr}
use Prim.Native.Nat.{ℕ, ◌+◌, ◌≤◌, ◌<◌}
use native.Mathlib.Omega.{arith}
use mathlib.Core.Bool.{Bool, true, false, ◌&&◌, ◌||◌, not}
use mathlib.Core.Option.{Option, none, some}
use mathlib.Core.List.{List, [], ◌∷◌}
use lib.Dec.{T, T_not}
use Rattle.language.specs.Text.{Text, when◌then◌else◌, ◌≟◌, any, sum, member, distinct}
use Rattle.language.specs.State.{Field, labels}
use Rattle.language.specs.Values.{text_of}
use Rattle.language.specs.Functions.{same_field, holds_all, same_fields}
use Rattle.language.proofs.Logic.Tests.{both, and, one_of_lem, left_of_lem, right_of, false_of, same_test, or_false, ==→≡, ==_refl, ==_sym, all_map}

-- ---- one field

pub same_field_lem : (f g : Field) → T (same_field f g) → f ≡ g
same_field_lem f g h =
    let (x, y) = both (f.label ≟ g.label) (f.text ≟ g.text) h in
    let e = ==→≡ f.label g.label x in
    let k = ==→≡ f.text g.text y in
    λ i. record { label = e i; text = k i }

pub field_self : (f : Field) → T (same_field f f)
field_self f = and (f.label ≟ f.label) (f.text ≟ f.text) (==_refl f.label) (==_refl f.text)

field_sym : (f g : Field) → T (same_field f g) → T (same_field g f)
field_sym f g h = subst (λ k. T (same_field k f)) (same_field_lem f g h) (field_self f)

held_label : (g : Field) (fs : List Field) → T (any (same_field g) fs) → T (member g.label (labels fs))
held_label g [] h = absurd h
held_label g (f ∷ fs) h = elim (one_of_lem (same_field g f) (any (same_field g) fs) h) [
  | inl e ↦ left_of_lem (g.label ≟ f.label) (member g.label (labels fs)) (both (g.label ≟ f.label) (g.text ≟ f.text) e).0
  | inr k ↦ right_of (g.label ≟ f.label) (member g.label (labels fs)) (held_label g fs k)
]

-- ---- a field is held where its label has its text

abbrev pub is_text : Option Text → Text → Bool
is_text none t = false
is_text (some u) t = u ≟ t

pub held_text : (g : Field) (fs : List Field) → T (distinct (labels fs)) → any (same_field g) fs ≡ is_text (text_of fs g.label) g.text
held_text g [] d = refl
held_text g (f ∷ fs) d =
    let (n, r) = both (not (member f.label (labels fs))) (distinct (labels fs)) d in
    go (f.label ≟ g.label) refl (T_not (member f.label (labels fs)) n) (held_text g fs r)
  where
    go : (b : Bool) → (f.label ≟ g.label) ≡ b → ¬ T (member f.label (labels fs)) → any (same_field g) fs ≡ is_text (text_of fs g.label) g.text
        → (same_field g f || any (same_field g) fs) ≡ is_text (when b then some f.text else text_of fs g.label) g.text
    go true e n ih =
        let l : f.label ≡ g.label = ==→≡ f.label g.label (subst T (sym e) tt) in
        let k : any (same_field g) fs ≡ false = false_of (any (same_field g) fs) (λ h. n (subst (λ x. T (member x (labels fs))) (sym l) (held_label g fs h))) in
        ap (λ c. same_field g f || c) k
        ∙ or_false (same_field g f)
        ∙ same_test (same_field g f) (f.text ≟ g.text)
        (λ h. ==_sym g.text f.text (both (g.label ≟ f.label) (g.text ≟ f.text) h).1)
        (λ h. and (g.label ≟ f.label) (g.text ≟ f.text) (==_sym f.label g.label (subst T (sym e) tt)) (==_sym f.text g.text h))
    go false e n ih =
        let k : same_field g f ≡ false = false_of (same_field g f)
        (λ h. subst T e (==_sym g.label f.label (both (g.label ≟ f.label) (g.text ≟ f.text) h).0)) in
        ap (λ c. c || any (same_field g) fs) k ∙ ih

-- ---- a field taken out

abbrev without : Field → List Field → List Field
without g [] = []
without g (f ∷ fs) = when same_field g f then fs else f ∷ without g fs

without_holds : (g h : Field) → ¬ T (same_field h g) → (fs : List Field) → T (any (same_field h) fs) → T (any (same_field h) (without g fs))
without_holds g h n [] k = absurd k
without_holds g h n (f ∷ fs) k = go (same_field g f) refl (one_of_lem (same_field h f) (any (same_field h) fs) k) (without_holds g h n fs)
  where
    go : (b : Bool) → same_field g f ≡ b → T (same_field h f) ⊎ T (any (same_field h) fs) → (T (any (same_field h) fs) → T (any (same_field h) (without g fs)))
        → T (any (same_field h) (when b then fs else f ∷ without g fs))
    go true e (inl s) ih = absurd (n (subst (λ x. T (same_field h x)) (sym (same_field_lem g f (subst T (sym e) tt))) s))
    go true e (inr s) ih = s
    go false e (inl s) ih = left_of_lem (same_field h f) (any (same_field h) (without g fs)) s
    go false e (inr s) ih = right_of (same_field h f) (any (same_field h) (without g fs)) (ih s)

-- the fields gs, whose labels are others than g's, are still held
without_all : (g : Field) (gs fs : List Field) → ¬ T (member g.label (labels gs)) → T (holds_all fs gs) → T (holds_all (without g fs) gs)
without_all g [] fs n h = tt
without_all g (k ∷ gs) fs n h =
    let (h₁, h₂) = both (any (same_field k) fs) (holds_all fs gs) h in
    and (any (same_field k) (without g fs)) (holds_all (without g fs) gs)
    (without_holds g k (λ s. n (left_of_lem (g.label ≟ k.label) (member g.label (labels gs)) (==_sym k.label g.label (both (k.label ≟ g.label) (k.text ≟ g.text) s).0))) fs h₁)
    (without_all g gs fs (λ m. n (right_of (g.label ≟ k.label) (member g.label (labels gs)) m)) h₂)

-- what is held without g is held with it
with_all : (g : Field) (gs fs : List Field) → T (holds_all gs fs) → T (holds_all (g ∷ gs) fs)
with_all g gs = all_map (λ f. any (same_field f) gs) (λ f. any (same_field f) (g ∷ gs)) (λ f h. right_of (same_field f g) (any (same_field f) gs) h)

put_back : (g : Field) (gs fs : List Field) → T (holds_all gs (without g fs)) → T (holds_all (g ∷ gs) fs)
put_back g gs [] h = tt
put_back g gs (f ∷ fs) h = go (same_field g f) refl h (put_back g gs fs)
  where
    go : (b : Bool) → same_field g f ≡ b → T (holds_all gs (when b then fs else f ∷ without g fs)) → (T (holds_all gs (without g fs)) → T (holds_all (g ∷ gs) fs))
        → T (any (same_field f) (g ∷ gs) && holds_all (g ∷ gs) fs)
    go true e h ih =
        and (any (same_field f) (g ∷ gs)) (holds_all (g ∷ gs) fs)
        (left_of_lem (same_field f g) (any (same_field f) gs) (field_sym g f (subst T (sym e) tt)))
        (with_all g gs fs h)
    go false e h ih =
        let (h₁, h₂) = both (any (same_field f) gs) (holds_all gs (without g fs)) h in
        and (any (same_field f) (g ∷ gs)) (holds_all (g ∷ gs) fs) (right_of (same_field f g) (any (same_field f) gs) h₁) (ih h₂)

-- ---- one way round is enough where both are of the same size

module _ (size : Field → ℕ) (some_size : (f : Field) → 0 < size f) where
  without_sum : (g : Field) (fs : List Field) → T (any (same_field g) fs) → sum size fs ≡ size g + sum size (without g fs)
  without_sum g [] h = absurd h
  without_sum g (f ∷ fs) h = go (same_field g f) refl h (without_sum g fs)
    where
      go : (b : Bool) → same_field g f ≡ b → T (b || any (same_field g) fs) → (T (any (same_field g) fs) → sum size fs ≡ size g + sum size (without g fs))
          → size f + sum size fs ≡ size g + sum size (when b then fs else f ∷ without g fs)
      go true e h ih = omega (arith, ap size (same_field_lem g f (subst T (sym e) tt)))
      go false e h ih = omega (arith, ih h)

  -- what is held is no larger than what holds it
  held_small : (gs fs : List Field) → T (distinct (labels gs)) → T (holds_all fs gs) → sum size gs ≤ sum size fs
  held_small [] fs d h = omega arith
  held_small (g ∷ gs) fs d h =
      let (n, r) = both (not (member g.label (labels gs))) (distinct (labels gs)) d in
      let (h₁, h₂) = both (any (same_field g) fs) (holds_all fs gs) h in
      omega (arith, without_sum g fs h₁, held_small gs (without g fs) r (without_all g gs fs (T_not (member g.label (labels gs)) n) h₂))

  -- and holds all of it where it is as large
  held_whole : (gs fs : List Field) → T (distinct (labels gs)) → T (holds_all fs gs) → sum size gs ≡ sum size fs → T (holds_all gs fs)
  held_whole [] [] d h e = tt
  held_whole [] (f ∷ fs) d h e = absurd (omega (arith, some_size f))
  held_whole (g ∷ gs) fs d h e =
      let (n, r) = both (not (member g.label (labels gs))) (distinct (labels gs)) d in
      let (h₁, h₂) = both (any (same_field g) fs) (holds_all fs gs) h in
      put_back g gs fs
      (held_whole gs (without g fs) r (without_all g gs fs (T_not (member g.label (labels gs)) n) h₂) (omega (arith, without_sum g fs h₁)))

  module _ (fs gs : List Field) (df : T (distinct (labels fs))) (dg : T (distinct (labels gs))) where
    pub same_size : T (same_fields fs gs) → sum size fs ≡ sum size gs
    same_size h =
        let (a, b) = both (holds_all fs gs) (holds_all gs fs) h in
        omega (arith, held_small gs fs dg a, held_small fs gs df b)

    pub one_way : sum size fs ≡ sum size gs → holds_all fs gs ≡ same_fields fs gs
    one_way e = same_test (holds_all fs gs) (same_fields fs gs)
        (λ h. and (holds_all fs gs) (holds_all gs fs) h (held_whole gs fs dg h (sym e)))
        (λ h. (both (holds_all fs gs) (holds_all gs fs) h).0)

-- ---- a record is the same as itself

pub same_fields_self : (fs : List Field) → T (same_fields fs fs)
same_fields_self fs = and (holds_all fs fs) (holds_all fs fs) (go fs) (go fs)
  where
    go : (gs : List Field) → T (holds_all gs gs)
    go [] = tt
    go (g ∷ gs) = and (any (same_field g) (g ∷ gs)) (holds_all (g ∷ gs) gs) (left_of_lem (same_field g g) (any (same_field g) gs) (field_self g)) (with_all g gs gs (go gs))
