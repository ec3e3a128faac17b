-- What a list is extended with.
use Rattle.std.specs.Prelude.{◌≡◌, ℕ, ◌-◌, ◌≤◌, List, [], ◌∷◌, length, take, drop}
use Rattle.std.proofs.Math.Option.{some}
use Rattle.language.specs.Text.{Text}
use Rattle.language.specs.Syntax.{Name}
use Rattle.language.specs.State.{Element, Value, single, list, value_in}
use Rattle.language.specs.Values.{Session, lookup}
use Rattle.session.specs.declared.Layout.{Layout}
use Rattle.session.specs.Sessions.{Slices, Running}
use Rattle.variable_text.specs.Puts.{Extra}
use Rattle.assignment.specs.Assignments.{SomeShared}

-- a list's elements, or anything else as one element
abbrev pub added_by : Value → List Element
added_by (single e) = e ∷ []
added_by (list fs) = fs

-- from that place on the text of v is the text of the elements that it adds, which have that weight in a list
pub record Adds (v : Value) (t : Text) (from weight : ℕ) : Type 0 where
  pub within : from ≤ length t
  pub extra : Extra (added_by v) (take (length t - from) (drop from t)) weight
  pub small : weight ≤ 65536

-- the name is a list's in some session
pub record SomeList (l : Layout) (b : Slices) (x : Name) : Type 0 where
  pub session : Session
  pub running : Running session l b
  pub elements : List Element
  pub is_list : lookup session x ≡ some (list elements)

-- the name is a shared list's in some session, and t is the text of more elements
pub record SomeSharedList (l : Layout) (principals : Text) (principal_slots : List ℕ) (vars : Text) (variable_slots assertions : List ℕ) (x : Name) (t : Text) (weight : ℕ) : Type 0 where
  pub some_shared : SomeShared l principals principal_slots vars variable_slots assertions
  pub elements : List Element
  pub more : List Element
  pub is_list : value_in some_shared.session.store.variables x ≡ some (list elements)
  pub extra : Extra more t weight
