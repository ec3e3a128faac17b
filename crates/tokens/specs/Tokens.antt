-- What a token that the scanner found means in the terms of document 01, and where it stands. The scanner stands at n then.
use Rattle.std.specs.Prelude.{ℕ, ◌≤◌, ◌<◌, List, [], ◌∷◌, length, drop}
use Rattle.language.specs.Text.{Text}
use Rattle.language.specs.Tokens as Tokens
use Rattle.text.specs.Meaning.{part}
use Rattle.text.specs.declared.Span.{Span}
use Rattle.tokens.specs.declared.token.Token.{Token}
use Rattle.tokens.specs.declared.token.Token.TheVariants.{End, Sign, Name, Quoted, Wrong}

-- the tokens of a line, of which the code has found the first
abbrev pub tokens_meant : Text → Token → ℕ → List Tokens.Token
tokens_meant t End n = []
tokens_meant t (Sign s) n = Tokens.sign (part t s) ∷ Tokens.lex (drop n t)
tokens_meant t (Name s) n = Tokens.ident (part t s) ∷ Tokens.lex (drop n t)
tokens_meant t (Quoted s) n = Tokens.text (part t s) ∷ Tokens.lex (drop n t)
tokens_meant t Wrong n = Tokens.wrong ∷ []

-- what was found from place `at` on stands at s, and n is past it
abbrev pub Stands : Text → ℕ → Span → ℕ → Type 0
Stands t at s n = (at ≤ s.start) × (s.start ≤ s.end) × (s.end ≤ n) × (at < n) × (n ≤ length t)

abbrev pub Placed : Text → ℕ → Token → ℕ → Type 0
Placed t at End n = Unit
Placed t at (Sign s) n = Stands t at s n
Placed t at (Name s) n = Stands t at s n
Placed t at (Quoted s) n = Stands t at s n
Placed t at Wrong n = Unit
