-- The room that JSON needs, and what a reader that writes JSON has read and written.
use Rattle.std.specs.Prelude.{◌≡◌, ℕ, ◌+◌, ◌≤◌, List, [], ◌∷◌, ◌++◌, length}
use Rattle.language.specs.Text.{Text}
use Rattle.language.specs.State.{Field, Element, Value}
use Rattle.language.specs.Output.{field_json, element_json, value_json}
use Rattle.values.specs.Encoding.{Holds}
use Rattle.values.specs.Places.{FieldAt, FieldsAt, ElementAt, Elements}
use Rattle.value_text.specs.Writing.{Written}
use Rattle.render.specs.declared.output.Moved.{Moved}

-- each with a byte before it: b before the first, a comma before the others
abbrev pub linked : {A : Type 0} → (A → Text) → ℕ → List A → Text
linked f b [] = []
linked f b (a ∷ l) = b ∷ (f a ++ linked f 44 l)

-- n bytes of the text were read from `at` on, and the piece was written to `before` from o on
pub record Renders (at n : ℕ) (before : Text) (o : ℕ) (piece : Text) (r : Moved) (after : Text) : Type 0 where
  pub read_to : r.read ≡ at + n
  pub written : Written before o piece r.wrote after

-- ---- what is to be read, with room for what is to be written

pub record FieldRoom (t : Text) (at : ℕ) (out : Text) (o : ℕ) : Type 0 where
  pub field : Field
  pub rest : Text
  pub stands : FieldAt t at field rest
  pub room : o + length (field_json field) ≤ length out

pub record FieldsRoom (t : Text) (at : ℕ) (out : Text) (o : ℕ) : Type 0 where
  pub fields : List Field
  pub rest : Text
  pub stand : FieldsAt t at fields rest
  pub room : o + length (linked field_json 123 fields) ≤ length out

pub record ElementRoom (t : Text) (at : ℕ) (out : Text) (o : ℕ) : Type 0 where
  pub element : Element
  pub rest : Text
  pub stands : ElementAt t at element rest
  pub room : o + length (element_json element) ≤ length out

pub record ElementsRoom (t : Text) (at : ℕ) (out : Text) (o : ℕ) : Type 0 where
  pub elements : List Element
  pub stand : Elements t at elements
  pub room : o + length (linked element_json 91 elements) ≤ length out

-- t is the text of a valid value, whose JSON, with `more` bytes around it, has room in out from `at` on
pub record JsonRoom (t : Text) (out : Text) (at more : ℕ) : Type 0 where
  pub value : Value
  pub held : Holds value t
  pub room : at + length (value_json value) + more ≤ length out
