-- The variables of a running program as texts: the shared ones, and the locals.
use Rattle.std.specs.Prelude.{◌≡◌, ℕ, List, [], T}
use Rattle.std.proofs.Math.Option.{Option, none, some}
use Rattle.language.specs.Text.{Text, all}
use Rattle.language.specs.State.{Value}
use Rattle.language.specs.Values.{Session, lookup}
use Rattle.language.specs.Valid.{valid_variable}
use Rattle.text.specs.Meaning.{part}
use Rattle.syntax.specs.declared.Operand.{Operand}
use Rattle.syntax.specs.declared.Operand.TheVariants.{Name, Field, Quoted}
use Rattle.store.specs.Held.{Variables}
use Rattle.values.specs.Encoding.{Holds}

-- `shared` and `locals`, with their slots, hold the variables of the session s, all of them valid
pub record Scope (s : Session) (shared : Text) (slots : List ℕ) (count : ℕ) (locals : Text) (lslots : List ℕ) (lcount : ℕ) : Type 0 where
  pub shared_held : Variables s.store.variables shared count slots
  pub locals_held : Variables s.locals locals lcount lslots
  pub shared_valid : T (all valid_variable s.store.variables)
  pub locals_valid : T (all valid_variable s.locals)

-- those of some session
pub record SomeScope (shared : Text) (slots : List ℕ) (count : ℕ) (locals : Text) (lslots : List ℕ) (lcount : ℕ) : Type 0 where
  pub session : Session
  pub scope : Scope session shared slots count locals lslots lcount

-- t is what reading a name gives: the text of its value, or nothing where it has none
abbrev pub ReadAs : Option Value → Text → Type 0
ReadAs none t = t ≡ []
ReadAs (some v) t = Holds v t

pub record SomeRead (t : Text) : Type 0 where
  pub value : Option Value
  pub held : ReadAs value t

-- u is what an operand is looked for in: what reading its name gives, or the program's text
abbrev pub SourceOf : Session → Text → Operand → Text → Type 0
SourceOf s t (Name x) u = ReadAs (lookup s (part t x)) u
SourceOf s t (Field x y) u = ReadAs (lookup s (part t x)) u
SourceOf s t (Quoted q) u = u ≡ t

pub record SomeSource (t : Text) (v : Operand) (u : Text) : Type 0 where
  pub session : Session
  pub held : SourceOf session t v u
