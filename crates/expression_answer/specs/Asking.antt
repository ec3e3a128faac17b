-- An expression that is asked for, and the session in which it stands.
use Rattle.std.specs.Prelude.{◌≡◌, ℕ, ◌≤◌, List, T, length, take}
use Rattle.std.proofs.Math.Option.{some}
use Rattle.language.specs.Text.{Text}
use Rattle.language.specs.Syntax as Syntax
use Rattle.language.specs.Values.{Session}
use Rattle.language.proofs.Parsing.ValidPrograms.{valid_expr}
use Rattle.syntax.specs.declared.Expr.{Expr}
use Rattle.syntax.specs.declared.Expr.TheVariants as ExprOf
use Rattle.syntax.specs.Values.{expr_meant, ExprWithin}
use Rattle.permits.specs.Permits.{Sends}
use Rattle.permits.specs.declared.Known.{Known}
use Rattle.permits.specs.Knowledge.{terms, Knows}
use Rattle.scopes.specs.Scopes.{Scope}
use Rattle.lets.specs.Reaching.{Texts, Stack, Sized}

-- e says the valid expression x, and the locals of the session s are in the first bytes of the scope
pub record Asked (s : Session) (x : Syntax.Expr) (t : Text) (b : Texts) (len number : ℕ) (e : Expr) : Type 0 where
  pub meant : expr_meant t e ≡ some x
  pub within : ExprWithin t e
  pub is_valid : T (valid_expr x)
  pub held : Scope s b.shared b.slots b.count (take len b.scope) b.local_slots number
  pub in_scope : len ≤ length b.scope

pub record SomeAsked (t : Text) (b : Texts) (len number : ℕ) (e : Expr) (assertions : List ℕ) (n principals sender : ℕ) (known : Known) : Type 0 where
  pub session : Session
  pub expression : Syntax.Expr
  pub asked : Asked session expression t b len number e
  pub sends : Sends session b.shared b.slots b.count assertions n principals sender
  pub knows : Knows known session (terms expression)

-- a `let` has room for its names and frames
abbrev pub Fitted : Expr → Texts → Stack → ℕ → ℕ → Type 0
Fitted (ExprOf.Term e) b k len number = Unit {0}
Fitted (ExprOf.Let p) b k len number = Sized b k len number
