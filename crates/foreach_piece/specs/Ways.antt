-- Document 01, "Commands", and request M-106: what foreach and filtereach leave of an element, in one form for both.
use Rattle.std.specs.Prelude.{Bool, true, false, List, [], ◌∷◌, ◌++◌}
use Rattle.language.specs.Syntax.{Name, Expr}
use Rattle.language.specs.State as S
use Rattle.language.specs.State.{Element, Value, list}
use Rattle.language.specs.Outcomes.{Outcome, gives, fails, fills, ◌>>=◌, from}
use Rattle.language.specs.Values.{Session, as_element}
use Rattle.language.specs.Expressions.{value}
use Rattle.language.specs.Commands.{with_element, left_of}
use Rattle.foreach_piece.specs.declared.Way.{Way}
use Rattle.foreach_piece.specs.declared.Way.TheVariants.{Replace, Filter}

-- the empty string
abbrev pub is_blank : Value → Bool
is_blank (S.single (S.string [])) = true
is_blank (S.single (S.string (b ∷ t))) = false
is_blank (S.single (S.fields fs)) = false
is_blank (list es) = false

-- the elements that stand in the place of one, by the value that the expression has for it
abbrev pub becomes : Way → Element → Value → Outcome (List Element)
becomes Replace a v = from (as_element v) >>= λ e. gives (e ∷ [])
becomes Filter a v = gives (left_of a v)

abbrev pub comes_to : Way → Element → Outcome Value → Outcome (List Element)
comes_to w a o = o >>= becomes w a

abbrev pub made : Way → Session → Name → Expr → Element → Outcome (List Element)
made w s y x a = comes_to w a (value (with_element s y a) x)

-- some elements, then others; what fails anywhere fails, else what would weigh too much anywhere does
abbrev pub together : Outcome (List Element) → Outcome (List Element) → Outcome (List Element)
together (gives l) (gives m) = gives (l ++ m)
together (gives l) fails = fails
together (gives l) fills = fills
together fails o = fails
together fills (gives m) = fills
together fills fails = fails
together fills fills = fills

-- those in the place of each
abbrev pub throughout : (Element → Outcome (List Element)) → List Element → Outcome (List Element)
throughout f [] = gives []
throughout f (a ∷ rest) = together (f a) (throughout f rest)
