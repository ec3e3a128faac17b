-- Document 01, "Program text", and request M-104: identifiers, keywords and strings.
use Rattle.std.specs.Prelude.{ℕ, Bool, false, ◌&&◌, not, List, [], ◌∷◌, ◌++◌, map, length, leb}
use Rattle.language.specs.Text.{Text, bytes, all, member}
use Rattle.language.specs.Bytes.{class, is_letter, word_byte, string_byte}

-- the keywords of document 01, which no state text may hold as a name or a label
abbrev pub base_keywords : List Text
base_keywords = map bytes (
    "all" ∷ "append" ∷ "as" ∷ "change" ∷ "create" ∷ "default" ∷ "delegate" ∷ "delegation" ∷ "delegator" ∷ "delete" ∷ "do"
    ∷ "exit" ∷ "foreach" ∷ "in" ∷ "local" ∷ "password" ∷ "principal" ∷ "read" ∷ "replacewith" ∷ "return" ∷ "set" ∷ "to"
    ∷ "write" ∷ "split" ∷ "concat" ∷ "tolower" ∷ "notequal" ∷ "equal" ∷ "filtereach" ∷ "with" ∷ "let" ∷ [])

-- the operations on prices (request M-104)
abbrev pub price_keywords : List Text
price_keywords = map bytes ("add" ∷ "sub" ∷ "times" ∷ "per" ∷ [])

-- The keywords of programs. A language that grows adds its words here. A state keeps the older names and labels that it holds, and no program
-- can write them.
abbrev pub keywords : List Text
keywords = base_keywords ++ price_keywords

abbrev pub is_string : Text → Bool
is_string t = all string_byte t

-- a letter, then letters, digits and underscores
abbrev pub is_word : Text → Bool
is_word [] = false
is_word (b ∷ rest) = is_letter (class b) && all word_byte rest

abbrev pub longest_name : ℕ
longest_name = 255

-- what a program may write as a name or a label
abbrev pub is_identifier : Text → Bool
is_identifier t = is_word t && leb (length t) longest_name && not (member t keywords)

-- what a state text may hold as a name or a label
abbrev pub is_name : Text → Bool
is_name t = is_word t && leb (length t) longest_name && not (member t base_keywords)
