-- What a function that writes a piece of text leaves behind.
use Rattle.std.specs.Prelude.{◌≡◌, ℕ, ◌+◌, ◌≤◌, ◌++◌, length, take, drop}
use Rattle.language.specs.Text.{Text}
use Rattle.language.specs.Encode.{field_text}

-- the piece stands from place `at` on, up to r; all else is as it was
pub record Written (before : Text) (at : ℕ) (piece : Text) (r : ℕ) (after : Text) : Type 0 where
  pub ends : r ≡ at + length piece
  pub fits : r ≤ length before
  pub whole : after ≡ take at before ++ (piece ++ drop r before)

-- the line of a field
abbrev pub field_line : Text → Text → Text
field_line label text = field_text (record { label = label; text = text })
