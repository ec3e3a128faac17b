-- What filtereach asks.
use Rattle.language.specs.Text.{Text}
use Rattle.text.specs.declared.Span.{Span}
use Rattle.syntax.specs.declared.Expr as Read
use Rattle.foreach_piece.specs.declared.Way.TheVariants.{Filter}
use Rattle.foreach_command.specs.Each.{SomeEach}

-- the program's text says a valid filtereach at these places
abbrev pub SomeFiltereach : Text → Span → Span → Read.Expr → Type 0
SomeFiltereach t y x e = SomeEach Filter t y x e
