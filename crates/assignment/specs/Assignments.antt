-- What an assignment asks and answers.
use Rattle.std.specs.Prelude.{◌≡◌, ℕ, ◌<◌, List}
use Rattle.std.proofs.Math.Option.{none}
use Rattle.language.specs.Text.{Text}
use Rattle.language.specs.Syntax.{Name}
use Rattle.language.specs.State.{value_in}
use Rattle.language.specs.Weight.{limit}
use Rattle.language.specs.Values.{Session}
use Rattle.language.specs.Commands.{session_weight}
use Rattle.session.specs.declared.Layout.{Layout}
use Rattle.session.specs.Sessions.{Slices, slices, Running}
use Rattle.assignment.specs.declared.Assigned.{Assigned}
use Rattle.assignment.specs.declared.Assigned.TheVariants.{Full, Done}

-- the buffers hold some session, whatever holds its locals
pub record SomeShared (l : Layout) (principals : Text) (principal_slots : List ℕ) (vars : Text) (variable_slots assertions : List ℕ) : Type 0 where
  pub session : Session
  pub locals : Text
  pub local_slots : List ℕ
  pub running : Running session l (slices principals principal_slots vars variable_slots locals local_slots assertions)

-- and no shared variable has that name
pub record SomeNew (l : Layout) (principals : Text) (principal_slots : List ℕ) (vars : Text) (variable_slots assertions : List ℕ) (x : Name) : Type 0 where
  pub some : SomeShared l principals principal_slots vars variable_slots assertions
  pub is_new : value_in some.session.store.variables x ≡ none

-- the session s is there, or is too heavy
abbrev pub Assigns : Assigned → Session → Slices → Type 0
Assigns Full s b = limit < session_weight s
Assigns (Done l) s b = Running s l b
