-- The session in which foreach and filtereach evaluate their expression for one element after the other.
use Rattle.std.specs.Prelude.{ℕ, ◌+◌, ◌≤◌, ◌<◌, List, T, length}
use Rattle.language.specs.Text.{Text}
use Rattle.language.specs.Syntax as Syntax
use Rattle.language.specs.Identifiers.{is_name}
use Rattle.language.specs.Programs.{longest}
use Rattle.language.specs.Values.{Session}
use Rattle.text.specs.declared.Span.{Span}
use Rattle.text.specs.Meaning.{part, Within}
use Rattle.syntax.specs.declared.Expr.{Expr}
use Rattle.syntax.specs.declared.Expr.TheVariants as ExprOf
use Rattle.permits.specs.Permits.{Sends}
use Rattle.permits.specs.declared.Known.{Known}
use Rattle.permits.specs.Knowledge.{terms, Knows}
use Rattle.lets.specs.Reaching.{Texts, Stack, Deep}
use Rattle.expression_answer.specs.Asking.{Asked}

-- room for the locals of any session, and for one more, whose value is one element: 32,768 bytes, 258 for its name, and 24,579; and for the
-- names of `let` behind them 32,768 more
abbrev pub scope_size : ℕ
scope_size = 57605

abbrev pub let_size : ℕ
let_size = 90373

-- the texts hold the session s, whose locals stand in the first bytes of the scope, e says x, and so much is known of its terms
pub record Turning (s : Session) (x : Syntax.Expr) (t : Text) (b : Texts) (len number : ℕ) (y : Span) (e : Expr) (assertions : List ℕ) (n principals sender : ℕ) (known : Known) : Type 0 where
  pub asked : Asked s x t b len number e
  pub sends : Sends s b.shared b.slots b.count assertions n principals sender
  pub knows : Knows known s (terms x)

-- some session, which may have one local more, of the name y
pub record SomeTurning (t : Text) (b : Texts) (len number : ℕ) (y : Span) (e : Expr) (assertions : List ℕ) (n principals sender : ℕ) (known : Known) : Type 0 where
  pub session : Session
  pub expression : Syntax.Expr
  pub turning : Turning session expression t b len number y e assertions n principals sender known
  pub text_short : length t ≤ longest
  pub y_within : Within t y
  pub y_named : T (is_name (part t y))
  pub locals_short : len ≤ 32768
  pub few : number < 4096
  pub slots_room : number < length b.local_slots

-- what a `let` needs besides
pub record ForLet (b : Texts) (k : Stack) (number : ℕ) : Type 0 where
  pub scope_size_lem : let_size ≤ length b.scope
  pub slots_size : number + 4097 ≤ length b.local_slots
  pub slots_small : length b.local_slots ≤ 32768
  pub deep : Deep k

abbrev pub Besides : Expr → Texts → Stack → ℕ → Type 0
Besides (ExprOf.Term t) b k number = Unit {0}
Besides (ExprOf.Let p) b k number = ForLet b k number

-- what was lent is large enough
pub record Room (e : Expr) (b : Texts) (k : Stack) (number : ℕ) : Type 0 where
  pub scope_size_lem : scope_size ≤ length b.scope
  pub scope_small : length b.scope ≤ 131072
  pub besides : Besides e b k number
