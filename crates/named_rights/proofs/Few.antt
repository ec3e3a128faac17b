-- A valid store has few principals, variables and assertions, by their weight.
use mathlib.Core.Path.{sym, subst}
use Prim.Native.Nat.{◌≤◌}
use native.Mathlib.Omega.{arith}
use lib.Dec.{T, leb, leb→le}
use lib.ListN.{length, length-map}
use Rattle.language.specs.State.{Store}
use Rattle.language.specs.Weight.{limit, store_weight}
use Rattle.language.specs.Valid.{well_formed, valid_store}
use Rattle.language.proofs.Logic.Tests.{both}
use Rattle.language.proofs.StateText.Least.{principals_weigh, variables_weigh, assertions_weigh}
use Rattle.language.proofs.StateText.Shape.{Shape, shape, assertions_spelled}
use Rattle.named_rights.specs.Numbers.{principals_of, variables}

module _ (s : Store) (v : T (valid_store s)) where
  pub store_shape : Shape s
  store_shape = shape s (both (well_formed s) (leb (store_weight s) limit) v).0

  light : store_weight s ≤ 8192
  light = leb→le (store_weight s) limit (both (well_formed s) (leb (store_weight s) limit) v).1

  pub few_names : length (principals_of s) ≤ 1024
  few_names = subst (λ n. n ≤ 1024) (sym (length-map s.principals (λ k. k.name))) (omega (
    arith,
    light,
    principals_weigh s.principals store_shape.principals_valid,
  ))

  pub few_variables : length (variables s) ≤ 4096
  few_variables = subst (λ n. n ≤ 4096) (sym (length-map s.variables (λ v. v.name))) (omega (
    arith,
    light,
    variables_weigh s.variables store_shape.variables_valid,
  ))

  pub few_assertions : length s.assertions ≤ 2048
  few_assertions = omega (
    arith,
    light,
    assertions_weigh s.assertions (assertions_spelled s store_shape),
  )
