-- In a session that is not too heavy no name has a value that is.
-- Assumes nothing.
use Prim.Native.Nat.{◌≤◌}
use native.Mathlib.Omega.{arith}
use mathlib.Core.Option.{some}
use mathlib.Core.List.{List, [], ◌∷◌}
use Rattle.language.specs.Text.{◌≟◌, sum}
use Rattle.language.specs.Syntax.{Name}
use Rattle.language.specs.State.{Value, Variable, value_in}
use Rattle.language.specs.Weight.{limit, value_weight, variable_weight}
use Rattle.language.specs.Values.{Session, lookup}
use Rattle.language.specs.Commands.{session_weight}
use Rattle.language.proofs.Logic.Outcomes.{Where, if_where, or_else_where}

abbrev Light : Value → Type 0
Light v = value_weight v ≤ limit

light_in : (vs : List Variable) (x : Name) → sum variable_weight vs ≤ limit → Where Light (value_in vs x)
light_in [] x h = tt
light_in (v ∷ vs) x h = if_where Light (v.name ≟ x) (some v.value) (value_in vs x) (λ t. omega (arith, h)) (λ t. light_in vs x (omega (arith, h)))

pub lookup_light : (s : Session) (x : Name) → session_weight s ≤ limit → Where (λ v. value_weight v ≤ limit) (lookup s x)
lookup_light s x h =
    or_else_where Light (value_in s.locals x) (value_in s.store.variables x) (light_in s.locals x (omega (arith, h))) (light_in s.store.variables x (omega (arith, h)))
