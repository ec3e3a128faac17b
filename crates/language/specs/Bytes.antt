-- Document 01, "Program text": every byte belongs to one class; the alphabets of words, strings and comments.
use Rattle.std.specs.Prelude.{ℕ, Bool, true, false, ◌&&◌, ◌||◌, leb, eqb}
use Prim.Native.Char.{Char, code}
use Rattle.language.specs.Text.{Text, bytes, when◌then◌else◌, any}

infix 40 ◌is◌ ◌∈◌
-- byte b is the character c
abbrev pub ◌is◌ : ℕ → Char → Bool
b is c = eqb b (code c)

abbrev pub ◌∈◌ : ℕ → Text → Bool
b ∈ t = any (eqb b) t

-- byte b is one of the characters from c to d
abbrev pub between : Char → Char → ℕ → Bool
between c d b = leb (code c) b && leb b (code d)

-- every byte belongs to one class; each mark is a class by itself
pub data Class : Type 0 where
  letter digit space newline foreign : Class
  mark : ℕ → Class

-- those of document 01, and the parentheses of request M-100
abbrev pub marks : Text
marks = bytes "_,;:.?!-=/>{}[]()*\""

abbrev pub class : ℕ → Class
class b =
    when between "a" "z" b || between "A" "Z" b then letter
    else when between "0" "9" b then digit
    else when b is " " then space
    else when b is "\n" then newline
    else when b ∈ marks then mark b
    else foreign

-- the first byte of an identifier
abbrev pub is_letter : Class → Bool
is_letter letter = true
is_letter digit = false
is_letter space = false
is_letter newline = false
is_letter foreign = false
is_letter (mark b) = false

-- identifiers, after their first letter
abbrev pub in_word : Class → Bool
in_word letter = true
in_word digit = true
in_word space = false
in_word newline = false
in_word foreign = false
in_word (mark b) = b is "_"

-- strings, between their quotes
abbrev pub in_string : Class → Bool
in_string letter = true
in_string digit = true
in_string space = true
in_string newline = false
in_string foreign = false
in_string (mark b) = b ∈ bytes "_,;.?!-"

-- comments, after their slashes
abbrev pub in_comment : Class → Bool
in_comment letter = true
in_comment digit = true
in_comment space = true
in_comment newline = false
in_comment foreign = false
in_comment (mark b) = b ∈ bytes ";:.?-!"

abbrev pub word_byte : ℕ → Bool
word_byte b = in_word (class b)

abbrev pub string_byte : ℕ → Bool
string_byte b = in_string (class b)

abbrev pub comment_byte : ℕ → Bool
comment_byte b = in_comment (class b)
