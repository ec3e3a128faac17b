-- The value of a record, field by field.
-- Assumes nothing.
use mathlib.Core.Path.{◌≡◌, refl, sym, ap, subst, ◌∙◌}
use mathlib.Core.Logic.{inl, inr}
use Prim.Native.Nat.{ℕ, ◌+◌, ◌≤◌, ◌<◌}
use native.Mathlib.Omega.{arith}
use mathlib.Core.Bool.{Bool, false, not}
use mathlib.Core.Option.{Option, none, some}
use mathlib.Core.List.{List, [], ◌∷◌, ◌++◌, append_assoc, append-nil}
use lib.Dec.{T, T_not, ltb, lt→ltb}
use lib.ListN.{length}
use Rattle.language.specs.Text.{Text, when◌then◌else◌, ◌≟◌, ◌>>=◌, all, each, member, distinct}
use Rattle.language.specs.Tokens.{Token}
use Rattle.language.specs.Syntax.{Name, Binding}
use Rattle.language.specs.State.{labels, Field, fields, Value, single}
use Rattle.language.specs.Values.{Session, as_string, operand_value, field_value, record_value}
use Rattle.language.specs.Valid.{valid_field}
use Rattle.language.proofs.Logic.Tests.{both, and_three, one_of_lem, any_right_lem, left_of_lem, ==_sym, true_of, false_of}
use Rattle.language.proofs.Parsing.ValidPrograms.{valid_binding}
use Rattle.syntax.specs.Values.{record_at}
use Rattle.language.specs.Outcomes.{fills}
use Rattle.evaluated.specs.Weighed.{by_weight}
use Rattle.evaluated.specs.Results.{string_in, Written}
use Rattle.evaluate.specs.Drafts.{spelling, Drafted, Extends}
use Rattle.evaluate.specs.declared.draft.Draft.{Draft}
use Rattle.std.specs.Prelude.{Some, None}
use Rattle.evaluated.proofs.Weighing.{weighed_light, weighed_heavy}
use Rattle.evaluate.proofs.Spelling.{room_of}
use Rattle.language.proofs.Logic.Lists.{map_append}

-- ---- the value of a record whose first fields are fs

abbrev closed : List Field → Option (List Field) → Option Value
closed fs none = none
closed fs (some gs) = when distinct (labels (fs ++ gs)) then some (single (fields (fs ++ gs))) else none

abbrev pub finish : Session → List Field → Option (List Binding × List Token) → Option Value
finish s fs none = none
finish s fs (some r) = closed fs (each (field_value s) r.0)

pub whole_record : (s : Session) (bs : List Binding) (us : List Token) → record_value s bs ≡ finish s [] (some (bs, us))
whole_record s bs us = go (each (field_value s) bs)
  where
    go : (o : Option (List Field)) → (o >>= λ fs. when distinct (labels fs) then some (single (fields fs)) else none) ≡ closed [] o
    go none = refl
    go (some gs) = refl

abbrev with_label : Name → Option Text → Option Field
with_label x none = none
with_label x (some t) = some (record { label = x; text = t })

field_string : (s : Session) (b : Binding) → field_value s b ≡ with_label b.label (string_in (operand_value s b.operand))
field_string s b = go (operand_value s b.operand)
  where
    text : (o : Option Text) → ◌>>=◌ {B = Field} o (λ t. some (record { label = b.label; text = t })) ≡ with_label b.label o
    text none = refl
    text (some t) = refl

    go : (o : Option Value) → ◌>>=◌ {B = Field} o (λ v. ◌>>=◌ {B = Field} (as_string v) (λ t. some (record { label = b.label; text = t }))) ≡ with_label b.label (string_in o)
    go none = refl
    go (some v) = text (as_string v)

-- a name that is there already
repeated : (l : List Name) (x : Name) (m : List Name) → T (member x l) → T (distinct (l ++ (x ∷ m))) → ⊥
repeated [] x m h d = h
repeated (y ∷ l) x m h d =
    let (d₁, d₂) = both (not (member y (l ++ (x ∷ m)))) (distinct (l ++ (x ∷ m))) d in
    elim (one_of_lem (x ≟ y) (member x l) h) [
      | inl e ↦ T_not (member y (l ++ (x ∷ m))) d₁ (any_right_lem (λ u. y ≟ u) l (x ∷ m) (left_of_lem (y ≟ x) (member y m) (==_sym x y e)))
      | inr e ↦ repeated l x m e d₂
    ]

module _ (s : Session) (fs : List Field) (b : Binding) (bs : List Binding) (us : List Token) where
  with_field_lem : (f : Field) (o : Option (List Field)) → closed fs (o >>= λ gs. some (f ∷ gs)) ≡ closed (fs ++ (f ∷ [])) o
  with_field_lem f none = refl
  with_field_lem f (some gs) =
      ap (λ (l : List Field). when◌then◌else◌ {A = Option Value} (distinct (labels l)) (some (single (fields l))) none) (sym (append_assoc fs (f ∷ []) gs))

  field_next : (t : Text) → string_in (operand_value s b.operand) ≡ some t
      → finish s fs (some (b ∷ bs, us)) ≡ finish s (fs ++ (record { label = b.label; text = t } ∷ [])) (some (bs, us))
  field_next t e =
      let f : Field = record { label = b.label; text = t } in
      let q : field_value s b ≡ some f = field_string s b ∙ ap (with_label b.label) e in
      ap (λ (o : Option Field). closed fs (o >>= λ g. each (field_value s) bs >>= λ gs. some (g ∷ gs))) q ∙ with_field_lem f (each (field_value s) bs)

  field_none : string_in (operand_value s b.operand) ≡ none → finish s fs (some (b ∷ bs, us)) ≡ none
  field_none e =
      let q : field_value s b ≡ none = field_string s b ∙ ap (with_label b.label) e in
      ap (λ (o : Option Field). closed fs (o >>= λ g. each (field_value s) bs >>= λ gs. some (g ∷ gs))) q

  field_twice : (t : Text) → string_in (operand_value s b.operand) ≡ some t → T (member b.label (labels fs)) → finish s fs (some (b ∷ bs, us)) ≡ none
  field_twice t e h = field_next t e ∙ go (each (field_value s) bs)
    where
      f : Field
      f = record { label = b.label; text = t }

      never : (gs : List Field) → distinct (labels ((fs ++ (f ∷ [])) ++ gs)) ≡ false
      never gs = false_of (distinct (labels ((fs ++ (f ∷ [])) ++ gs)))
          (λ d. repeated (labels fs) b.label (labels gs) h (subst (λ (l : List Name). T (distinct l)) (ap labels (append_assoc fs (f ∷ []) gs) ∙ map_append (λ (g : Field). g.label) fs (f ∷ gs)) d))

      go : (o : Option (List Field)) → closed (fs ++ (f ∷ [])) o ≡ none
      go none = refl
      go (some gs) = ap (λ (c : Bool). when◌then◌else◌ {A = Option Value} c (some (single (fields ((fs ++ (f ∷ [])) ++ gs)))) none) (never gs)

  -- what adding the field says of the whole
  pub not_added : (out : Text) (slots : List ℕ) → Extends fs b.label (string_in (operand_value s b.operand)) None out slots → finish s fs (some (b ∷ bs, us)) ≡ none
  not_added out slots x = go (string_in (operand_value s b.operand)) refl x
    where
      go : (o : Option Text) → string_in (operand_value s b.operand) ≡ o → Extends fs b.label o None out slots → finish s fs (some (b ∷ bs, us)) ≡ none
      go none e x = field_none e
      go (some t) e x = field_twice t e x

  pub record Further (out : Text) (slots : List ℕ) (d : Draft) : Type 0 where
    pub text : Text
    pub drafted : Drafted (fs ++ (record { label = b.label; text = text } ∷ [])) out slots d
    pub goes_on : finish s fs (some (b ∷ bs, us)) ≡ finish s (fs ++ (record { label = b.label; text = text } ∷ [])) (some (bs, us))

  pub was_added : (out : Text) (slots : List ℕ) (d : Draft) → Extends fs b.label (string_in (operand_value s b.operand)) (Some d) out slots → Further out slots d
  was_added out slots d x = go (string_in (operand_value s b.operand)) refl x
    where
      go : (o : Option Text) → string_in (operand_value s b.operand) ≡ o → Extends fs b.label o (Some d) out slots → Further out slots d
      go none e x = absurd x
      go (some t) e x = record { text = t; drafted = x; goes_on = field_next t e }

-- ---- all fields are there

pub all_read : (s : Session) (fs : List Field) (us : List Token) → T (distinct (labels fs)) → finish s fs (some ([], us)) ≡ some (single (fields fs))
all_read s fs us d =
    ap (λ (l : List Field). when◌then◌else◌ {A = Option Value} (distinct (labels l)) (some (single (fields l))) none) (append-nil fs)
    ∙ ap (λ (c : Bool). when◌then◌else◌ {A = Option Value} c (some (single (fields fs))) none) (true_of (distinct (labels fs)) d)

module _ (fs : List Field) (out : Text) (slots : List ℕ) (d : Draft) (D : Drafted fs out slots d) (n : 0 < length fs) where
  pub record_light : d.weight ≤ 8192 → Written (by_weight (some (single (fields fs)))) out d.end d.weight
  record_light h = record {
    value = single (fields fs);
    is_value = weighed_light (single (fields fs)) (omega (arith, h, D.weighs));
    held = record {
      is_valid = and_three (ltb 0 (length fs)) (all valid_field fs) (distinct (labels fs)) (lt→ltb 0 (length fs) n) D.are_valid D.are_distinct;
      is_text_lem = D.is_text_lem h;
    };
    within = D.within;
    weighs = D.weighs;
    light = h;
  }

  pub record_heavy : 8192 < d.weight → by_weight (some (single (fields fs))) ≡ fills
  record_heavy h = weighed_heavy (single (fields fs)) (omega (arith, h, D.weighs))

-- ---- where the loop stands

-- the fields before place p are written, and the others stand from there on
pub record Going (s : Session) (t : Text) (at p : ℕ) (out : Text) (slots : List ℕ) (d : Draft) : Type 0 where
  pub written : List Field
  pub drafted : Drafted written out slots d
  pub rest : List Binding
  pub others : List Token
  pub here : record_at t p ≡ some (rest, others)
  pub total : finish s [] (record_at t at) ≡ finish s written (record_at t p)
  pub room : spelling written + room_of rest ≤ 16384
  pub are_valid : T (all valid_binding rest)
