-- What a value weighs: its text's length without its tabs and newlines, less one.
-- Assumes nothing.
use Rattle.std.proofs.Common.{cond, ◌||◌, count_by}
use Rattle.std.proofs.lemmas.List.Recursion.{is_count_by}
use mathlib.Core.Path.{◌≡◌, refl, ap}
use Prim.Native.Nat.{ℕ, ◌+◌}
use native.Mathlib.Omega.{arith}
use mathlib.Core.Bool.{Bool, true, false, ◌&&◌, not}
use mathlib.Core.List.{List, [], ◌∷◌, ◌++◌}
use lib.Dec.{T, eqb}
use lib.ListN.{length, length-append}
use Rattle.language.specs.Text.{Text, when◌then◌else◌, all, sum, joined}
use Rattle.language.specs.State.{Field, Element, string, fields, Value, single, list}
use Rattle.language.specs.Weight.{element_weight, value_weight}
use Rattle.language.specs.Encode.{field_text, element_text, value_text}
use Rattle.language.specs.Valid.{valid_field, valid_element, valid_value}
use Rattle.language.proofs.Logic.Tests.{both}
use Rattle.language.proofs.StateText.Lines.{is_clean}
use Rattle.values.specs.Encoding.{Holds}
use Rattle.values.specs.Breaks.{breaks}
use Rattle.values.proofs.Standing.{label_clean, text_clean, fields_valid}
use Rattle.language.proofs.StateText.Clean.{string_clean}

breaks_append : (s t : Text) → breaks (s ++ t) ≡ breaks s + breaks t
breaks_append [] t = omega arith
breaks_append (b ∷ s) t = omega (arith, breaks_append s t)

breaks_clean : (t : Text) → T (is_clean t) → breaks t ≡ 0
breaks_clean [] h = refl
breaks_clean (b ∷ t) h =
    let (h₁, h₂) = both (not (eqb b 9) && not (eqb b 10)) (is_clean t) h in
    let (k₁, k₂) = both (not (eqb b 9)) (not (eqb b 10)) h₁ in
    go (eqb b 9) (eqb b 10) k₁ k₂ (breaks_clean t h₂)
  where
    go : (c d : Bool) → T (not c) → T (not d) → breaks t ≡ 0 → (when c then 1 else when d then 1 else 0) + breaks t ≡ 0
    go true d k m e = absurd k
    go false true k m e = absurd m
    go false false k m e = omega arith

-- a text that weighs w
abbrev Weighs : Text → ℕ → Type 0
Weighs t w = breaks t + w ≡ length t

joined_weighs : {A : Type 0} (text : A → Text) (weight : A → ℕ) (fine : A → Bool)
    → ((a : A) → T (fine a) → Weighs (text a) (weight a)) → (l : List A) → T (all fine l) → Weighs (joined text l) (sum weight l)
joined_weighs text weight fine one [] h = refl
joined_weighs text weight fine one (a ∷ l) h =
    let (h₁, h₂) = both (fine a) (all fine l) h in
    let k : Weighs (text a) (weight a) = one a h₁ in
    let m : Weighs (joined text l) (sum weight l) = joined_weighs text weight fine one l h₂ in
    omega (arith, k, m, breaks_append (text a) (joined text l), length-append (text a) (joined text l))

field_weighs : (f : Field) → T (valid_field f) → Weighs (field_text f) (1 + length f.label + length f.text)
field_weighs f h =
    let r : Text = f.text ++ (10 ∷ []) in
    omega (
      arith,
      breaks_clean f.label (label_clean f h),
      breaks_clean f.text (text_clean f h),
      breaks_append f.label (9 ∷ r),
      breaks_append f.text (10 ∷ []),
      length-append f.label (9 ∷ r),
      length-append f.text (10 ∷ []),
    )

element_weighs : (e : Element) → T (valid_element e) → Weighs (element_text e) (1 + element_weight e)
element_weighs (string t) h = omega (arith, breaks_clean t (string_clean t h), breaks_append t (10 ∷ []), length-append t (10 ∷ []))
element_weighs (fields fs) h =
    let k : Weighs (joined field_text fs) (sum (λ f. 1 + length f.label + length f.text) fs) = joined_weighs field_text _ valid_field field_weighs fs (fields_valid fs h) in
    omega arith

value_weighs : (v : Value) → T (valid_value v) → Weighs (value_text v) (1 + value_weight v)
value_weighs (single e) h = element_weighs e h
value_weighs (list es) h =
    let k : Weighs (joined element_text es) (sum (λ e. 1 + element_weight e) es) = joined_weighs element_text (λ e. 1 + element_weight e) valid_element element_weighs es h in
    omega arith

pub weighed : (v : Value) (t : Text) → Holds v t → breaks t + 1 + value_weight v ≡ length t
weighed v t h = omega (arith, value_weighs v h.is_valid, ap breaks h.is_text_lem, ap length h.is_text_lem)

-- ---- the bytes that are counted

pub counted : (t : Text) → breaks t ≡ count_by (λ b. eqb b 9 || eqb b 10) t
counted = is_count_by breaks (λ b. eqb b 9 || eqb b 10) refl (λ b t. go (eqb b 9) (eqb b 10) (breaks t))
  where
    go : (c d : Bool) (n : ℕ) → (when c then 1 else when d then 1 else 0) + n ≡ cond (c || d) (1 + n) n
    go true d n = refl
    go false true n = refl
    go false false n = omega arith
