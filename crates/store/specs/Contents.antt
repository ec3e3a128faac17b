-- The principal and the variable of a number.
use Rattle.std.specs.Prelude.{ℕ, List, [], get_or}
use Rattle.std.proofs.Math.Option.{none}
use Rattle.language.specs.State.{list, Principal, Variable}

abbrev pub principal_at : List Principal → ℕ → Principal
principal_at ks k = get_or ks k (record { name = []; password = none; count = 0 })

abbrev pub variable_at : List Variable → ℕ → Variable
variable_at vs k = get_or vs k (record { name = []; value = list [] })
