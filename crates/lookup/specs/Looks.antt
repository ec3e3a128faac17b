-- A running session as its buffers and its layout say it, and what a command says.
use Rattle.std.specs.Prelude.{ℕ, ◌≤◌, List, length, take}
use Rattle.std.proofs.Math.Option.{Option}
use Rattle.language.specs.Text.{Text, ◌>>=◌}
use Rattle.language.specs.Programs.{longest}
use Rattle.language.specs.State.{Element, Value}
use Rattle.language.specs.Values.{Session, as_list}
use Rattle.syntax.specs.declared.Expr as Read
use Rattle.scopes.specs.Scopes.{Scope}
use Rattle.permits.specs.Permits.{Sends}
use Rattle.syntax.specs.Values.{SomeExpr}
use Rattle.session.specs.declared.Layout.{Layout}

-- the elements of a list, where there is one
abbrev pub elements_in : Option Value → Option (List Element)
elements_in o = o >>= as_list

-- the variables of the session s stand in these buffers
pub record Scoped (s : Session) (l : Layout) (vars : Text) (variable_slots : List ℕ) (locals : Text) (local_slots : List ℕ) : Type 0 where
  pub scope : Scope s (take l.vars_len vars) variable_slots l.vars (take l.locals_len locals) local_slots l.locals
  pub vars_within : l.vars_len ≤ length vars
  pub locals_within : l.locals_len ≤ length locals

pub record SomeScoped (l : Layout) (vars : Text) (variable_slots : List ℕ) (locals : Text) (local_slots : List ℕ) : Type 0 where
  pub session : Session
  pub scoped : Scoped session l vars variable_slots locals local_slots

-- and so do its shared variables and its assertions
pub record Sending (s : Session) (l : Layout) (vars : Text) (variable_slots assertions : List ℕ) : Type 0 where
  pub sends : Sends s (take l.vars_len vars) variable_slots l.vars assertions l.asserted l.principals l.sender
  pub vars_within : l.vars_len ≤ length vars

pub record SomeSending (l : Layout) (vars : Text) (variable_slots assertions : List ℕ) : Type 0 where
  pub session : Session
  pub sending : Sending session l vars variable_slots assertions

-- the locals fit a copy that has room for the names of a `let`
pub record Copyable (locals : Text) (local_slots : List ℕ) : Type 0 where
  pub locals_short : length locals ≤ 32768
  pub slots_few : length local_slots ≤ 4096

-- the program's text says a valid expression at these places
pub record Said (t : Text) (e : Read.Expr) : Type 0 where
  pub expression : SomeExpr t e
  pub short : length t ≤ longest
