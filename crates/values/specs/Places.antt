-- What stands at a place of a value's text.
use Rattle.std.specs.Prelude.{◌≡◌, ℕ, ◌≤◌, Bool, true, not, List, [], ◌∷◌, ◌++◌, T, eqb, length, drop}
use Rattle.language.specs.Text.{Text, all, joined}
use Rattle.language.specs.State.{Field, Element}
use Rattle.language.specs.Encode.{field_text, element_text}
use Rattle.language.specs.Valid.{valid_field, valid_element}

-- from place `at` of t on stands r, to the end
pub record Here (t : Text) (at : ℕ) (r : Text) : Type 0 where
  pub within : at ≤ length t
  pub left : drop at t ≡ r

-- r does not begin with a field's line
abbrev pub no_field : Text → Bool
no_field [] = true
no_field (b ∷ r) = not (eqb b 70)

-- the line of a valid field, and then `rest`
pub record FieldAt (t : Text) (at : ℕ) (f : Field) (rest : Text) : Type 0 where
  pub is_valid : T (valid_field f)
  pub here : Here t at (field_text f ++ rest)

-- the lines of valid fields, and then `rest`, which is no field's
pub record FieldsAt (t : Text) (at : ℕ) (fs : List Field) (rest : Text) : Type 0 where
  pub are_valid : T (all valid_field fs)
  pub here : Here t at (joined field_text fs ++ rest)
  pub closed : T (no_field rest)

-- the lines of a valid element, and then `rest`, which is none of its fields'
pub record ElementAt (t : Text) (at : ℕ) (e : Element) (rest : Text) : Type 0 where
  pub is_valid : T (valid_element e)
  pub here : Here t at (element_text e ++ rest)
  pub closed : T (no_field rest)

-- the lines of valid elements, to the end of t
pub record Elements (t : Text) (at : ℕ) (es : List Element) : Type 0 where
  pub are_valid : T (all valid_element es)
  pub here : Here t at (joined element_text es)

-- some of these
pub record SomeField (t : Text) (at : ℕ) : Type 0 where
  pub field : Field
  pub rest : Text
  pub stands : FieldAt t at field rest

pub record SomeFields (t : Text) (at : ℕ) : Type 0 where
  pub fields : List Field
  pub rest : Text
  pub stand : FieldsAt t at fields rest

pub record SomeElement (t : Text) (at : ℕ) : Type 0 where
  pub element : Element
  pub rest : Text
  pub stands : ElementAt t at element rest

pub record SomeElements (t : Text) (at : ℕ) : Type 0 where
  pub elements : List Element
  pub stand : Elements t at elements
