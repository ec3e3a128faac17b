-- A turn of the loop over the fields of the second record.
-- Assumes nothing.
use mathlib.Core.Path.{◌≡◌, refl, sym, ap, ◌∙◌}
use Prim.Native.Nat.{ℕ, ◌+◌, ◌-◌, ◌≤◌, ◌<◌}
use native.Mathlib.Omega.{arith}
use mathlib.Core.Bool.{true, false, ◌&&◌}
use mathlib.Core.List.{List, [], ◌∷◌, ◌++◌, append-nil}
use lib.ListN.{length, take, drop, length-drop}
use Rattle.language.specs.Text.{Text, any, joined}
use Rattle.language.specs.State.{Field}
use Rattle.language.specs.Encode.{field_text}
use Rattle.language.specs.Functions.{same_field, holds_all}
use Rattle.values.specs.Places.{FieldAt, FieldsAt, SomeField}
use Rattle.values.specs.Answers.{EndsOf}
use Rattle.values.specs.declared.Ends.{Ends}
use Rattle.values.proofs.Standing.{part_is}
use Rattle.values.proofs.Lines.{fields_head, fields_tail, nothing_here, field_length}
use Rattle.comparison.specs.Records.{HoldsRecord, LineOf}
use Rattle.comparison.proofs.Fields.{record_starts}

-- the fields that are still to be looked for among fs, from place `at` on
pub record Left (t : Text) (fs gs : List Field) (at : ℕ) : Type 0 where
  pub left : List Field
  pub stand : FieldsAt t at left []
  pub answer : holds_all fs gs ≡ holds_all fs left

pub left_start : (t : Text) (fs gs : List Field) → HoldsRecord gs t → Left t fs gs 2
left_start t fs gs h = record { left = gs; stand = record_starts t gs h; answer = refl }

pub left_none : (t : Text) (fs gs : List Field) (at : ℕ) → Left t fs gs at → length t ≤ at → true ≡ holds_all fs gs
left_none t fs gs at L n = sym (L.answer ∙ go L.left L.stand)
  where
    go : (l : List Field) → FieldsAt t at l [] → holds_all fs l ≡ true
    go [] F = refl
    go (g ∷ l) F = absurd (nothing_here t at 70 _ (fields_head t at g l [] F).here n)

-- the first of them
pub record Next (t : Text) (fs gs : List Field) (at : ℕ) : Type 0 where
  pub field : Field
  pub more : List Field
  pub stand : FieldsAt t at (field ∷ more) []
  pub answer : holds_all fs gs ≡ (any (same_field field) fs && holds_all fs more)

pub next : (t : Text) (fs gs : List Field) (at : ℕ) → Left t fs gs at → at < length t → Next t fs gs at
next t fs gs at L n = go L.left L.stand L.answer
  where
    go : (l : List Field) → FieldsAt t at l [] → holds_all fs gs ≡ holds_all fs l → Next t fs gs at
    go [] F e = absurd (let k : length (drop at t) ≡ 0 = ap length F.here.left in omega (arith, length-drop at t, k))
    go (g ∷ l) F e = record { field = g; more = l; stand = F; answer = e }

module _ (t : Text) (fs gs : List Field) (at : ℕ) (N : Next t fs gs at) where
  abbrev pub rest_of : Text
  rest_of = joined field_text N.more ++ []

  pub next_at : FieldAt t at N.field rest_of
  next_at = fields_head t at N.field N.more [] N.stand

  pub some_field : SomeField t at
  some_field = record { field = N.field; rest = rest_of; stands = next_at }

  module _ (r : Ends) (E : EndsOf t at N.field rest_of r) where
    line_end : r.text + 1 ≡ at + length (field_text N.field)
    line_end = omega (arith, E.label_end, E.text_end, field_length N.field)

    pub next_line : LineOf N.field (take (r.text + 1 - at) (drop at t))
    next_line = record {
      is_valid = next_at.is_valid;
      here = record { within = omega arith; left = part_is t at (r.text + 1) (field_text N.field) rest_of next_at.here line_end ∙ sym (append-nil (field_text N.field)) };
    }

    pub missed : any (same_field N.field) fs ≡ false → false ≡ holds_all fs gs
    missed b = sym (N.answer ∙ ap (λ c. c && holds_all fs N.more) b)

    pub passed : any (same_field N.field) fs ≡ true → Left t fs gs (r.text + 1)
    passed b = record {
      left = N.more;
      stand = fields_tail t at N.field N.more [] (r.text + 1) line_end N.stand;
      answer = N.answer ∙ ap (λ c. c && holds_all fs N.more) b;
    }
