-- What an answer says of an expression.
use Rattle.language.specs.Text.{Text}
use Rattle.language.specs.Syntax.{Expr}
use Rattle.language.specs.Values.{Session}
use Rattle.language.specs.Expressions.{value, names}
use Rattle.evaluated.specs.declared.Answered.{Answered}
use Rattle.term_answer.specs.Telling.{Tells}

-- the sender may not read all that the expression evaluates; or may, and it cannot be done, would weigh too much, or has the value that out holds
abbrev pub Answers : Answered → Session → Expr → Text → Type 0
Answers r s e out = Tells r s (names s e) (value s e) out
