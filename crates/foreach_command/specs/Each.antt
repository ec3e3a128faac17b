-- foreach and filtereach as one command, and what it asks.
use Rattle.std.specs.Prelude.{◌≡◌, ℕ, ◌≤◌, List, T, length}
use Rattle.std.proofs.Math.Option.{some}
use Rattle.language.specs.Text.{Text}
use Rattle.language.specs.Syntax.{Name, Expr, Command, foreach, filtereach}
use Rattle.language.specs.State.{Element, list}
use Rattle.language.specs.Outcomes.{Outcome, gives, ◌>>=◌}
use Rattle.language.specs.Values.{Session}
use Rattle.language.specs.Commands.{Effect, assign}
use Rattle.language.specs.Programs.{longest}
use Rattle.language.proofs.Parsing.ValidPrograms.{valid_command}
use Rattle.text.specs.declared.Span.{Span}
use Rattle.text.specs.Meaning.{part, Within}
use Rattle.syntax.specs.declared.Expr as Read
use Rattle.syntax.specs.Values.{expr_meant, SomeExpr}
use Rattle.permits.specs.declared.Known.{Known}
use Rattle.session.specs.declared.Layout.{Layout}
use Rattle.session.specs.Sessions.{Slices, Running}
use Rattle.foreach_piece.specs.declared.Way.{Way}
use Rattle.foreach_piece.specs.declared.Way.TheVariants.{Replace, Filter}
use Rattle.foreach_source.specs.declared.Prepared.TheVariants as Is
use Rattle.foreach_source.specs.Sources.{Prepares}

abbrev pub command : Way → Name → Name → Expr → Command
command Replace y x e = foreach y x e
command Filter y x e = filtereach y x e

-- what putting the new list in the place of x comes to, where there is one
abbrev pub putting : Session → Name → Text → Outcome (List Element) → Outcome Effect
putting s x line o = o >>= λ fs. gives (record { after = assign s x (list fs); line = line })

-- the buffers hold some session, and the first n bytes of out are the list that it goes through
pub record SomeSource (l : Layout) (b : Slices) (t : Text) (y x : Span) (e : Read.Expr) (out : Text) (n : ℕ) (known : Known) : Type 0 where
  pub session : Session
  pub expression : Expr
  pub running : Running session l b
  pub meant : expr_meant t e ≡ some expression
  pub prepares : Prepares (Is.List n known) session (part t y) (part t x) expression out

-- the program's text says a valid command at these places
pub record SomeEach (w : Way) (t : Text) (y x : Span) (e : Read.Expr) : Type 0 where
  pub says : SomeExpr t e
  pub is_valid : T (valid_command (command w (part t y) (part t x) says.expression))
  pub y_within : Within t y
  pub x_within : Within t x
  pub short : length t ≤ longest

-- the buffers in which it works are large enough
pub record Workspace (value : Text) (labels : List ℕ) : Type 0 where
  pub value_size : length value ≡ 45056
  pub labels_size : 4096 ≤ length labels
