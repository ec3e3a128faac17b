-- Document 01, "State text": the text of a value, as it stands after `V|name|`.
use Rattle.std.specs.Prelude.{◌≡◌, List, T}
use Rattle.language.specs.Text.{Text}
use Rattle.language.specs.State.{Element, Value, list}
use Rattle.language.specs.Encode.{value_text}
use Rattle.language.specs.Valid.{valid_value}

-- t is the text of the valid value v
pub record Holds (v : Value) (t : Text) : Type 0 where
  pub is_valid : T (valid_value v)
  pub is_text_lem : t ≡ value_text v

-- t is the text of some valid value
pub record ValueText (t : Text) : Type 0 where
  pub value : Value
  pub held : Holds value t

-- t is the text of some valid list
pub record ListText (t : Text) : Type 0 where
  pub elements : List Element
  pub held : Holds (list elements) t
