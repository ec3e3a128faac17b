-- An expression that needs no room for the names of a `let`.
use Rattle.syntax.specs.declared.Expr.{Expr}
use Rattle.syntax.specs.declared.Expr.TheVariants as ExprOf

abbrev pub WithoutLet : Expr → Type 0
WithoutLet (ExprOf.Term t) = Unit {0}
WithoutLet (ExprOf.Let p) = ⊥
