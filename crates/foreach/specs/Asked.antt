-- What foreach asks.
use Rattle.language.specs.Text.{Text}
use Rattle.text.specs.declared.Span.{Span}
use Rattle.syntax.specs.declared.Expr as Read
use Rattle.foreach_piece.specs.declared.Way.TheVariants.{Replace}
use Rattle.foreach_command.specs.Each.{SomeEach}

-- the program's text says a valid foreach at these places
abbrev pub SomeForeach : Text → Span → Span → Read.Expr → Type 0
SomeForeach t y x e = SomeEach Replace t y x e
