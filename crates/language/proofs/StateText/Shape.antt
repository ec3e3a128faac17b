-- The parts of a well-formed store, by name.
use mathlib.Core.Bool.{Bool, true, false, ◌&&◌}
use lib.Dec.{T}
use Rattle.language.specs.Text.{all, distinct, present}
use Rattle.language.specs.State.{Store, Assertion, named, value_in}
use Rattle.language.specs.Identifiers.{is_name}
use Rattle.language.specs.Valid.{valid_order, valid_principal, valid_variable, valid_assertion, unrepeated, well_formed}
use Rattle.language.proofs.StateText.Names.{principal_names, variable_names, principal_name, variable_name}
use Rattle.language.proofs.Logic.Tests.{and, three, and_three, all_map}

pub record Shape (s : Store) : Type 0 where
  pub order : T (valid_order s.principals)
  pub principals_valid : T (all valid_principal s.principals)
  pub principals_distinct : T (distinct (principal_names s.principals))
  pub delegator_known : T (present (named s.principals s.delegator))
  pub variables_valid : T (all valid_variable s.variables)
  pub variables_distinct : T (distinct (variable_names s.variables))
  pub assertions_valid : T (all (valid_assertion s) s.assertions)
  pub assertions_unrepeated : T (unrepeated s.assertions)

-- eight tests
all_eight : (a b c d e f g h : Bool) → T (a && b && c && d && e && f && g && h) → T a × T b × T c × T d × T e × T f × T g × T h
all_eight true true true true true true true h t = (tt, tt, tt, tt, tt, tt, tt, t)
all_eight true true true true true true false h t = absurd t
all_eight true true true true true false g h t = absurd t
all_eight true true true true false f g h t = absurd t
all_eight true true true false e f g h t = absurd t
all_eight true true false d e f g h t = absurd t
all_eight true false c d e f g h t = absurd t
all_eight false b c d e f g h t = absurd t

eight : (a b c d e f g h : Bool) → T a → T b → T c → T d → T e → T f → T g → T h → T (a && b && c && d && e && f && g && h)
eight a b c d e f g h ta tb tc td te tf tg th =
    and (a && b && c && d && e && f && g) h (and (a && b && c && d && e && f) g (and (a && b && c && d && e) f (and (a && b && c && d) e
    (and (a && b && c) d (and (a && b) c (and a b ta tb) tc) td) te) tf) tg) th

module _ (s : Store) where
  pub shape : T (well_formed s) → Shape s
  shape h =
      let t = all_eight (valid_order s.principals) (all valid_principal s.principals) (distinct (principal_names s.principals))
      (present (named s.principals s.delegator)) (all valid_variable s.variables) (distinct (variable_names s.variables))
      (all (valid_assertion s) s.assertions) (unrepeated s.assertions) h in
      record {
        order = t.0;
        principals_valid = t.1;
        principals_distinct = t.2;
        delegator_known = t.3;
        variables_valid = t.4;
        variables_distinct = t.5;
        assertions_valid = t.6;
        assertions_unrepeated = t.7;
      }

  pub formed : Shape s → T (well_formed s)
  formed g =
      eight (valid_order s.principals) (all valid_principal s.principals) (distinct (principal_names s.principals))
      (present (named s.principals s.delegator)) (all valid_variable s.variables) (distinct (variable_names s.variables))
      (all (valid_assertion s) s.assertions) (unrepeated s.assertions)
      g.order g.principals_valid g.principals_distinct g.delegator_known g.variables_valid g.variables_distinct
      g.assertions_valid g.assertions_unrepeated

-- the names in an assertion are identifiers
abbrev pub spelled : Assertion → Bool
spelled a = is_name a.variable && is_name a.from && is_name a.to

pub assertions_spelled : (s : Store) → Shape s → T (all spelled s.assertions)
assertions_spelled s g = all_map (valid_assertion s) spelled one s.assertions g.assertions_valid
  where
    one : (a : Assertion) → T (valid_assertion s a) → T (spelled a)
    one a h =
        let (v, from, to) = three (present (value_in s.variables a.variable)) (present (named s.principals a.from)) (present (named s.principals a.to)) h in
        and_three (is_name a.variable) (is_name a.from) (is_name a.to)
        (variable_name a.variable s.variables g.variables_valid v)
        (principal_name a.from s.principals g.principals_valid from)
        (principal_name a.to s.principals g.principals_valid to)
