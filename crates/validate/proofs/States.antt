-- What a function on a state that was checked knows of it: it is valid and small, its records are those of the tables, and a variable that is
-- found there has a number that fits.
-- Assumes nothing.
use mathlib.Core.Path.{◌≡◌, sym, ap, subst, ◌∙◌}
use Prim.Native.Nat.{ℕ, ◌≤◌, ◌<◌}
use native.Mathlib.Omega.{arith}
use mathlib.Core.Option.{Option}
use mathlib.Core.List.{List, map}
use lib.Dec.{T}
use lib.ListN.{length, length-map}
use lib.Seq.{length-take-le}
use Rattle.language.specs.Text.{Text, member, present}
use Rattle.language.specs.Syntax.{Name}
use Rattle.language.specs.State.{Principal, Value, Variable, Store}
use Rattle.language.specs.Valid.{valid_store}
use Rattle.language.proofs.StateText.Names.{valued_is}
use Rattle.language.proofs.StateText.RoundTrip.{decode_holds}
use Rattle.text.specs.Parts.{part}
use Rattle.store.specs.Rows.{Rows, SomeRows, principal_row, variable_row, found_at, place}
use Rattle.store.proofs.Holders.{principals_rows, some_principals, variables_rows, some_variables}
use Rattle.store.proofs.Answers.{FoundVariable, variable_found}
use Rattle.named_rights.specs.Numbers.{principals_of, variables, numbered}
use Rattle.language.proofs.StateText.Least.{two_principals}
use Rattle.named_rights.proofs.Few.{store_shape, few_names, few_variables, few_assertions}
use Rattle.validate.specs.Checked.{Understood}
use Rattle.validate.specs.declared.Parts.{Parts}

module _ {t : Text} {slots-p slots_v assertions : List ℕ} {m : Parts} (u : Understood t slots-p slots_v assertions m) where
  abbrev pub store : Store
  store = u.state

  pub store_valid : T (valid_store store)
  store_valid = ((decode_holds t u.state).0 u.decoded).is_valid

  pub everyone : m.principals ≡ length (principals_of store)
  everyone = u.represents.principals.counted ∙ sym (length-map store.principals (λ (k : Principal). k.name))

  pub few_everyone : m.principals ≤ 1024
  few_everyone = omega (arith, everyone, few_names store store_valid)

  pub two_at_least : 1 < m.principals
  two_at_least = omega (arith, u.represents.principals.counted, two_principals store.principals (store_shape store store_valid).order)

  pub few_asserted : m.asserted ≤ 2048
  few_asserted =
      let S = u.represents.assertions in
      let e : m.asserted ≡ length store.assertions = sym (length-take-le m.asserted assertions S.within) ∙ ap length S.are ∙ length-map store.assertions (numbered (principals_of store) (variables store)) in
      omega (arith, few_assertions store store_valid)

  pub rows_of_principals : SomeRows (part t m.principals_from m.principals_to) m.principals slots-p
  rows_of_principals = some_principals store.principals (part t m.principals_from m.principals_to) m.principals slots-p u.represents.principals

  pub vars_rows : SomeRows (part t m.vars_from m.vars_to) m.vars slots_v
  vars_rows = some_variables store.variables (part t m.vars_from m.vars_to) m.vars slots_v u.represents.variables

  pub are_principals : Rows (map principal_row store.principals) (part t m.principals_from m.principals_to) m.principals slots-p
  are_principals = principals_rows store.principals (part t m.principals_from m.principals_to) m.principals slots-p u.represents.principals

  pub are_vars : Rows (map variable_row store.variables) (part t m.vars_from m.vars_to) m.vars slots_v
  are_vars = variables_rows store.variables (part t m.vars_from m.vars_to) m.vars slots_v u.represents.variables

  -- a variable that is found
  module _ (x : Name) (l d e : ℕ) (w : found_at l d e ≡ place (map variable_row store.variables) x) where
    pub found : FoundVariable store.variables (part t m.vars_from m.vars_to) x l d e
    found = variable_found store.variables (part t m.vars_from m.vars_to) m.vars slots_v u.represents.variables x l d e w

    pub number_fits : l < 65536
    number_fits = omega (arith, found.below, few_variables store store_valid, length-map store.variables (λ (v : Variable). v.name))

    pub variable_known : T (member x (variables store))
    variable_known = valued_is x store.variables (subst (λ (o : Option Value). T (present o)) (sym found.is_value) tt)
