-- A turn of the search for a field by its label.
-- Assumes nothing.
use mathlib.Core.Path.{◌≡◌, refl, sym, ap, ◌∙◌}
use Prim.Native.Nat.{ℕ, ◌+◌, ◌-◌, ◌≤◌, ◌<◌}
use native.Mathlib.Omega.{arith}
use mathlib.Core.Bool.{true, false}
use mathlib.Core.Option.{none, some}
use mathlib.Core.List.{List, [], ◌∷◌, ◌++◌}
use lib.ListN.{length, take, drop, length-drop}
use Rattle.language.specs.Text.{Text, when◌then◌else◌, ◌≟◌, joined}
use Rattle.language.specs.Syntax.{Name}
use Rattle.language.specs.State.{Field, Value}
use Rattle.language.specs.Values.{text_of}
use Rattle.language.specs.Encode.{field_text}
use Rattle.text.specs.Meaning.{part}
use Rattle.values.specs.Places.{FieldAt, FieldsAt, SomeField}
use Rattle.values.specs.Answers.{field_of, EndsOf}
use Rattle.values.specs.declared.Ends.{Ends}
use Rattle.values.proofs.Lines.{fields_head, fields_tail, nothing_here, field_length}

-- the fields that are still to be looked at, from place `at` on
pub record Unseen (t : Text) (y : Name) (v : Value) (at : ℕ) : Type 0 where
  pub left : List Field
  pub stand : FieldsAt t at left []
  pub answer : field_of v y ≡ text_of left y

pub unseen_none : (t : Text) (y : Name) (v : Value) (at : ℕ) → Unseen t y v at → length t ≤ at → none ≡ field_of v y
unseen_none t y v at U n = sym (U.answer ∙ go U.left U.stand)
  where
    go : (l : List Field) → FieldsAt t at l [] → text_of l y ≡ none
    go [] F = refl
    go (f ∷ l) F = absurd (nothing_here t at 70 _ (fields_head t at f l [] F).here n)

-- the first of them
pub record Candidate (t : Text) (y : Name) (v : Value) (at : ℕ) : Type 0 where
  pub field : Field
  pub more : List Field
  pub stand : FieldsAt t at (field ∷ more) []
  pub answer : field_of v y ≡ text_of (field ∷ more) y

pub candidate : (t : Text) (y : Name) (v : Value) (at : ℕ) → Unseen t y v at → at < length t → Candidate t y v at
candidate t y v at U n = go U.left U.stand U.answer
  where
    go : (l : List Field) → FieldsAt t at l [] → field_of v y ≡ text_of l y → Candidate t y v at
    go [] F e = absurd (let k : length (drop at t) ≡ 0 = ap length F.here.left in omega (arith, length-drop at t, k))
    go (f ∷ l) F e = record { field = f; more = l; stand = F; answer = e }

module _ (t : Text) (y : Name) (v : Value) (at : ℕ) (C : Candidate t y v at) where
  abbrev pub rest_of : Text
  rest_of = joined field_text C.more ++ []

  pub candidate_at : FieldAt t at C.field rest_of
  candidate_at = fields_head t at C.field C.more [] C.stand

  pub some_field : SomeField t at
  some_field = record { field = C.field; rest = rest_of; stands = candidate_at }

  module _ (r : Ends) (E : EndsOf t at C.field rest_of r) where
    pub matched : (take (r.label - (at + 2)) (drop (at + 2) t) ≟ y) ≡ true
        → some (part t (record { start = r.label + 1; end = r.text })) ≡ field_of v y
    matched b =
        let q : (C.field.label ≟ y) ≡ true = ap (λ l. l ≟ y) (sym E.label_is) ∙ b in
        sym (C.answer ∙ ap (λ b. when b then some C.field.text else text_of C.more y) q ∙ ap some (sym E.text_is))

    pub unmatched : (take (r.label - (at + 2)) (drop (at + 2) t) ≟ y) ≡ false → Unseen t y v (r.text + 1)
    unmatched b =
        let q : (C.field.label ≟ y) ≡ false = ap (λ l. l ≟ y) (sym E.label_is) ∙ b in
        record {
          left = C.more;
          stand = fields_tail t at C.field C.more [] (r.text + 1) (omega (arith, E.label_end, E.text_end, field_length C.field)) C.stand;
          answer = C.answer ∙ ap (λ b. when b then some C.field.text else text_of C.more y) q;
        }
