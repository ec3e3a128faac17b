-- A stream of bytes so far, and where a program ends in it: at a line that says `***`.
use Rattle.std.specs.Prelude.{ℕ, ◌≤◌, min, ◌≡◌, Bool, [], ◌∷◌, ◌++◌, eqb, length, take, replicate}
use Rattle.language.specs.Text.{Text, bytes, when◌then◌else◌, ◌≟◌}
use Rattle.stream.specs.declared.Reading.{Reading}

-- the last line of a text, where `line` stands before it
abbrev pub line_after : Text → Text → Text
line_after line [] = line
line_after line (b ∷ rest) = line_after (when eqb b 10 then [] else line ++ (b ∷ [])) rest

-- what stands after the last newline
abbrev pub last_line : Text → Text
last_line stream = line_after [] stream

abbrev pub is_last : Text → Bool
is_last stream = last_line stream ≟ bytes "***"

-- a line of up to three stars and nothing else is counted; any other has a higher number
pub record Stars (line : Text) (n : ℕ) : Type 0 where
  pub shows : n ≤ 3 → line ≡ replicate n 42
  pub counts : (k : ℕ) → k ≤ 3 → line ≡ replicate k 42 → n ≡ k

-- a reading of a stream: the buffer has as many of its bytes as it has room for
pub record Reads (stream program : Text) (r : Reading) : Type 0 where
  pub many : r.len ≡ min (length stream) (length program)
  pub same : take r.len program ≡ take (length program) stream
  pub line : Stars (last_line stream) r.stars
