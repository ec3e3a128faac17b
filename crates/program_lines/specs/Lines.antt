-- What the lines of a text from a place on mean in the terms of document 01, and where they stand.
use Rattle.std.specs.Prelude.{ℕ, ◌+◌, ◌≤◌, ◌<◌, List, [], ◌∷◌, length, drop}
use Rattle.std.proofs.Math.Option.{Option, none, some}
use Rattle.language.specs.Text.{Text, parts, front, ◌>>=◌}
use Rattle.language.specs.Programs.{above, written}
use Rattle.text.specs.Meaning.{is_not}
use Rattle.program_lines.specs.declared.Line.{Line}
use Rattle.program_lines.specs.declared.Line.TheVariants.{Comment, Stars, Tokens, Broken}
use Rattle.program_lines.specs.declared.Step.{Step}
use Rattle.program_lines.specs.declared.Step.TheVariants as StepIs

-- the lines from place `at` on up to `***` that are no comments, where the stars are there and end the text
abbrev pub written_from : Text → ℕ → Option (List Text)
written_from t at = above (parts 10 (drop at t)) >>= λ ls. some (written ls)

-- the line from place `at` on: up to the newline, or to the text's end
abbrev pub line_from : Text → ℕ → Text
line_from t at = front (is_not 10) (drop at t)

-- how many bytes the line at a place has
abbrev pub line_length : Text → ℕ → ℕ
line_length t at = length (line_from t at)

-- a line in front of others
abbrev pub ahead : Text → Option (List Text) → Option (List Text)
ahead l none = none
ahead l (some ls) = some (l ∷ ls)

abbrev pub line_meant : Text → ℕ → Line → Option (List Text)
line_meant t at (Comment n) = written_from t n
line_meant t at Stars = some []
line_meant t at (Tokens n) = ahead (line_from t at) (written_from t n)
line_meant t at Broken = none

abbrev pub LinePlaced : Text → ℕ → Line → Type 0
LinePlaced t at (Comment n) = (at < n) × (n ≤ length t)
LinePlaced t at Stars = Unit
LinePlaced t at (Tokens n) = (at + line_length t at < n) × (n ≤ length t)
LinePlaced t at Broken = Unit

abbrev pub step_meant : Text → Step → Option (List Text)
step_meant t (StepIs.Tokens s n) = ahead (line_from t s) (written_from t n)
step_meant t StepIs.Stars = some []
step_meant t StepIs.Broken = none

abbrev pub StepPlaced : Text → ℕ → Step → Type 0
StepPlaced t at (StepIs.Tokens s n) = (at ≤ s) × (s + line_length t s < n) × (n ≤ length t)
StepPlaced t at StepIs.Stars = Unit
StepPlaced t at StepIs.Broken = Unit
