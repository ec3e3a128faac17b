-- Document 01, "Program text", and request M-100 for parentheses: tokens, the longest taken; the first one of a text, and all of a line.
use Rattle.std.specs.Prelude.{ℕ, zero, suc, List, [], ◌∷◌, length, leb}
use Rattle.language.specs.Text.{Text, bytes, when◌then◌else◌, ◌≟◌, member, front, past}
use Rattle.language.specs.Bytes.{◌is◌, ◌∈◌, Class, letter, digit, space, newline, foreign, mark, class, word_byte, string_byte, comment_byte}
use Rattle.language.specs.Identifiers.{keywords, longest_name}

pub data Token : Type 0 where
  sign : Text → Token  -- a keyword or a mark, as it is spelled
  ident : Text → Token  -- an identifier
  text : Text → Token  -- a string, without its quotes
  wrong : Token  -- what is no token

-- what stands at the front of a text
pub data Lexeme : Type 0 where
  gap : Lexeme  -- a space
  end : Lexeme  -- the line's end, perhaps with a comment before it
  token : Token → ℕ → Lexeme  -- a token, and how many bytes it has after its first
  bad : Lexeme  -- no token

-- a run of letters, digits and underscores is a keyword or, if it is not too long, an identifier
abbrev pub word : Text → ℕ → Lexeme
word w n =
    when member w keywords then token (sign w) n
    else when leb (length w) longest_name then token (ident w) n
    else bad

-- a string whose characters are s, if a quote comes after them
abbrev pub quoted_by : Text → Text → Lexeme
quoted_by s [] = bad
quoted_by s (b ∷ bs) = when b is "\"" then token (text s) (suc (length s)) else bad

-- a comment, if the line ends after its alphabet does
abbrev pub comment : Text → Lexeme
comment [] = end
comment (b ∷ bs) = when b is "\n" then end else bad

-- a mark of two bytes, of which the first is b
abbrev pub pair : ℕ → Text → Lexeme
pair b [] = bad
pair b (c ∷ cs) =
    when (b ∷ c ∷ []) ≟ bytes "->" then token (sign (bytes "->")) 1
    else when (b ∷ c ∷ []) ≟ bytes "[]" then token (sign (bytes "[]")) 1
    else when (b ∷ c ∷ []) ≟ bytes "//" then comment (past comment_byte cs)
    else bad

-- a text that starts with a byte of a class
abbrev pub lexeme : Class → ℕ → Text → Lexeme
lexeme letter b bs = word (b ∷ front word_byte bs) (length (front word_byte bs))
lexeme digit b bs = bad
lexeme space b bs = gap
lexeme newline b bs = end
lexeme foreign b bs = bad
lexeme (mark m) b bs =
    when m is "\"" then quoted_by (front string_byte bs) (past string_byte bs)
    else when m ∈ bytes "=.,{}()" then token (sign (m ∷ [])) 0
    else pair m bs

-- a lexeme's token in front of the tokens that `rest n` gives, those past n bytes more
abbrev pub lead : Lexeme → (ℕ → List Token) → List Token
lead gap rest = rest 0
lead end rest = []
lead (token t n) rest = t ∷ rest n
lead bad rest = wrong ∷ []

-- The tokens of a line, up to its end, past k bytes that belong to the token before.
abbrev pub tokens : Text → ℕ → List Token
tokens [] k = []
tokens (b ∷ bs) (suc k) = tokens bs k
tokens (b ∷ bs) zero = lead (lexeme (class b) b bs) (λ n. tokens bs n)

abbrev pub lex : Text → List Token
lex line = tokens line 0
