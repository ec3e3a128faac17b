-- The text of a record, and a field's line.
use Rattle.std.specs.Prelude.{◌≡◌, ℕ, ◌+◌, ◌-◌, ◌≤◌, ◌<◌, List, [], length, get_or, take, drop}
use Rattle.language.specs.Text.{Text}
use Rattle.language.specs.State as S
use Rattle.language.specs.State.{Field}
use Rattle.language.specs.Encode.{newline}
use Rattle.values.specs.Encoding.{Holds}
use Rattle.values.specs.Places.{FieldAt}

-- t is the text of the valid record fs
abbrev pub HoldsRecord : List Field → Text → Type 0
HoldsRecord fs t = Holds (S.single (S.fields fs)) t

-- t is the text of some valid record
pub record RecordText (t : Text) : Type 0 where
  pub fields : List Field
  pub held : HoldsRecord fields t

-- t is the line of the valid field g
abbrev pub LineOf : Field → Text → Type 0
LineOf g t = FieldAt t 0 g []

-- t is the line of some valid field
pub record SomeLine (t : Text) : Type 0 where
  pub field : Field
  pub is_line : LineOf field t

-- the line l stands at a place of t where a line starts
pub record StandsAt (t : Text) (at : ℕ) (l : Text) : Type 0 where
  pub ahead : 0 < at
  pub starts : get_or t (at - 1) 0 ≡ newline
  pub within : at + length l ≤ length t
  pub is_there : take (length l) (drop at t) ≡ l
