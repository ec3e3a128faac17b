-- What the beginning of a session asks: a valid state in a buffer, and buffers of the right sizes for a copy of its texts.
use Rattle.std.specs.Prelude.{ℕ, List, T}
use Rattle.language.specs.Text.{Text}
use Rattle.language.specs.State.{Store}
use Rattle.language.specs.Valid.{valid_store}
use Rattle.validate.specs.Checked.{Represents}
use Rattle.validate.specs.declared.Parts.{Parts}

-- the parts and the tables say some valid state
pub record SomeValid (t : Text) (slots-p slots_v assertions : List ℕ) (p : Parts) : Type 0 where
  pub state : Store
  pub is_valid : T (valid_store state)
  pub represents : Represents t slots-p slots_v assertions p state
