-- What a `let` starts with, and what follows an expression, in the terms of the language's grammar.
use Rattle.language.specs.Syntax.{Name}
use Rattle.language.specs.Grammar.{Reader, ◌>>=◌, ◌>>◌, give, the, any_name, any_expression}

-- `let x =`
abbrev pub let_head : Reader Name
let_head = do the "let"; x ← any_name; the "="; give x

-- an expression, of which nothing but its end is kept
abbrev pub past_expression : Reader (Unit {0})
past_expression = do any_expression; give tt
