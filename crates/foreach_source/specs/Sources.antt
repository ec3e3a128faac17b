-- The list that foreach and filtereach go through, and whether the sender may send them.
use Rattle.std.specs.Prelude.{◌≡◌, ℕ, ◌≤◌, Bool, true, false, ◌||◌, not, List, length, take}
use Rattle.std.proofs.Math.Option.{Option, none, some}
use Rattle.language.specs.Text.{Text}
use Rattle.language.specs.Syntax.{Name, read, write, Expr}
use Rattle.language.specs.State.{Element, list}
use Rattle.language.specs.Weight.{limit}
use Rattle.language.specs.Values.{Session}
use Rattle.language.specs.Commands.{elements, session_weight}
use Rattle.syntax.specs.declared.Expr as Read
use Rattle.values.specs.Encoding.{Holds}
use Rattle.permits.specs.Permits.{allowed_on}
use Rattle.permits.specs.Knowledge.{terms, Knows}
use Rattle.session.specs.declared.Layout.{Layout}
use Rattle.lookup.specs.Looks.{Scoped}
use Rattle.foreach_source.specs.declared.Source.{Source}
use Rattle.foreach_source.specs.declared.Source.TheVariants as SourceIs
use Rattle.foreach_source.specs.declared.Prepared.{Prepared}
use Rattle.foreach_source.specs.declared.Prepared.TheVariants as Is

-- the sender may not read x, or may not write it
abbrev pub forbidden : Session → Name → Bool
forbidden s x = not (allowed_on s read x) || not (allowed_on s write x)

-- the buffers hold some session that is not too heavy
pub record SomeLight (l : Layout) (vars : Text) (variable_slots : List ℕ) (locals : Text) (local_slots : List ℕ) : Type 0 where
  pub session : Session
  pub scoped : Scoped session l vars variable_slots locals local_slots
  pub is_light : session_weight session ≤ limit

-- the list is there, and its text is the first n bytes of out
pub record Copied (o : Option (List Element)) (out : Text) (n : ℕ) : Type 0 where
  pub elements : List Element
  pub is_source : o ≡ some elements
  pub held : Holds (list elements) (take n out)
  pub within : n ≤ length out

abbrev pub Sourced : Source → Option (List Element) → Text → Type 0
Sourced (SourceIs.List n) o out = Copied o out n
Sourced SourceIs.No o out = o ≡ none

-- the sender may not read or write x; may, and there is no list to go through; or there is, and so much is known of the expression's terms
abbrev pub Prepares : Prepared → Session → Name → Name → Expr → Text → Type 0
Prepares Is.Denied s y x e out = forbidden s x ≡ true
Prepares Is.Failed s y x e out = (forbidden s x ≡ false) × (elements s y x ≡ none)
Prepares (Is.List n known) s y x e out = (forbidden s x ≡ false) × Copied (elements s y x) out n × Knows known s (terms e)
