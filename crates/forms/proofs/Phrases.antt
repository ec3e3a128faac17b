-- Laws of what several commands have in common.
-- Assumes nothing.
use mathlib.Core.Path.{◌≡◌, refl}
use mathlib.Core.Option.{Option, none, some}
use mathlib.Core.List.{List}
use Rattle.language.specs.Text as Options
use Rattle.language.specs.Tokens.{Token}
use Rattle.language.specs.Syntax.{Expr, Command}
use Rattle.language.specs.Grammar.{then_read, give}
use Rattle.forms.specs.Forms.{of_expr}

-- ---- what k makes of an expression
pub of_expr_lem : (o : Option Expr) (k : Expr → Command) (us : List Token) → then_read (Options.◌>>=◌ o (λ x. some (x, us))) (λ e. give (k e)) ≡ of_expr o k us
of_expr_lem none k us = refl
of_expr_lem (some v) k us = refl
