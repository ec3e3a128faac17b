-- What the crate's types mean in the terms of document 01.
use Rattle.std.specs.Prelude.{ℕ, ◌-◌, ◌≤◌, Bool, not, eqb, length, take, drop}
use Rattle.language.specs.Text.{Text}
use Rattle.language.specs.Bytes as Bytes
use Rattle.text.specs.declared.Span.{Span}
use Rattle.text.specs.declared.Class.{Class}
use Rattle.text.specs.declared.Class.TheVariants.{Letter, Digit, Space, Newline, Mark, Foreign}
use Rattle.text.specs.declared.Alphabet.{Alphabet}
use Rattle.text.specs.declared.Alphabet.TheVariants as Of

abbrev pub class_meant : Class → Bytes.Class
class_meant Letter = Bytes.letter
class_meant Digit = Bytes.digit
class_meant Space = Bytes.space
class_meant Newline = Bytes.newline
class_meant (Mark b) = Bytes.mark b
class_meant Foreign = Bytes.foreign

-- the bytes of an alphabet
abbrev pub in_alphabet : Alphabet → ℕ → Bool
in_alphabet Of.Word = Bytes.word_byte
in_alphabet Of.Text = Bytes.string_byte
in_alphabet Of.Comment = Bytes.comment_byte

abbrev pub is_not : ℕ → ℕ → Bool
is_not c b = not (eqb b c)

-- the bytes of a text at a place
abbrev pub part : Text → Span → Text
part t s = take (s.end - s.start) (drop s.start t)

-- a place within a text
abbrev pub Within : Text → Span → Type 0
Within t s = (s.start ≤ s.end) × (s.end ≤ length t)
