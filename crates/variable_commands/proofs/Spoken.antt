-- What a command with an expression says.
-- Assumes nothing.
use mathlib.Core.Path.{◌≡◌, refl, subst, sym}
use Prim.Native.Nat.{◌≤◌}
use mathlib.Core.Bool.{Bool, ◌&&◌}
use mathlib.Core.Option.{Option, none, some, some_inj}
use lib.Dec.{T}
use lib.ListN.{length}
use Rattle.language.specs.Text.{Text, ◌>>=◌}
use Rattle.language.specs.Syntax.{Expr, Command}
use Rattle.language.specs.Programs.{longest}
use Rattle.language.specs.Identifiers.{is_identifier}
use Rattle.language.proofs.Logic.Tests.{both}
use Rattle.language.proofs.Parsing.ValidPrograms.{valid_expr, valid_command}
use Rattle.text.specs.declared.Span.{Span}
use Rattle.text.specs.Meaning.{part, Within}
use Rattle.syntax.specs.declared.Expr as Read
use Rattle.syntax.specs.Values.{expr_meant, ExprWithin, SomeExpr}
use Rattle.tokens.proofs.Reading.{no_some}
use Rattle.settlement.specs.Commands.{Names}

-- k is the command f of the expression that o is
pub record Said (o : Option Expr) (f : Expr → Command) (k : Command) : Type 0 where
  pub expression : Expr
  pub meant : o ≡ some expression
  pub is_command : f expression ≡ k

pub said : (o : Option Expr) (f : Expr → Command) (k : Command) → (o >>= λ e. some (f e)) ≡ some k → Said o f k
said none f k e = no_some e
said (some x) f k e = record { expression = x; meant = refl; is_command = some_inj.0 e }

-- it is valid, where all else that it holds passes the test a and the expression is valid
pub expr_of : (t : Text) (e : Read.Expr) (f : Expr → Command) (a : Bool) → ((x : Expr) → valid_command (f x) ≡ (a && valid_expr x)) → ExprWithin t e
    → (k : Command) → (expr_meant t e >>= λ x. some (f x)) ≡ some k → T (valid_command k) → T a × SomeExpr t e
expr_of t e f a same w k m h =
    let S = said (expr_meant t e) f k m in
    let (h₁, h₂) = both a (valid_expr S.expression) (subst T (same S.expression) (subst (λ c. T (valid_command c)) (sym S.is_command) h)) in
    (h₁, record { expression = S.expression; meant = S.meant; within = w; is_valid = h₂ })

-- a variable's name and an expression
pub names : {t : Text} {x : Span} {e : Read.Expr} → Within t x → T (is_identifier (part t x)) → SomeExpr t e → length t ≤ longest → Names t x e
names w h X short = record { within = w; name_holds = h; said = record { expression = X; short = short } }
