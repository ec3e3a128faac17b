-- What is asked of the search for chains, in a running session.
-- Assumes nothing.
use mathlib.Core.Path.{◌≡◌, refl, sym, subst, ◌∙◌}
use mathlib.Core.Bool.{true}
use mathlib.Core.List.{List}
use Prim.Native.Nat.{ℕ, ◌≤◌, ◌<◌}
use native.Mathlib.Omega.{arith}
use lib.Dec.{T}
use lib.ListN.{length, length-map}
use Rattle.language.specs.Syntax.{Name, delegate}
use Rattle.language.specs.State.{Variable}
use Rattle.language.specs.Values.{Session, is_shared, is_principal}
use Rattle.language.proofs.StateText.Names.{named_is, valued_is}
use Rattle.store.specs.Rows.{position}
use Rattle.named_rights.specs.Numbers.{principals_of, variables, Standing, Asks}
use Rattle.session.specs.declared.Layout.{Layout}
use Rattle.session.specs.Sessions.{Slices, Running}
use Rattle.session.proofs.Scoping.{store_valid, everyone}
use Rattle.session.proofs.Room.{assertions_few, records_few}
use Rattle.delegation_rules.specs.Numbered.{Counted}
use Rattle.delegation_rules.specs.Asking.{Runs}

module _ (s : Session) (l : Layout) (b : Slices) (R : Running s l b) where
  pub asks : (x q : Name) (n k : ℕ) → n ≡ position (variables s.store) x → k ≡ position (principals_of s.store) q → is_shared s x ≡ true → is_principal s q ≡ true
      → Asks s.store delegate x q l.principals n 3 k
  asks x q n k e f hx hq = record {
    everyone = everyone s l b R;
    variable_known = valued_is x s.store.variables (subst T (sym hx) tt);
    variable_is = e;
    right_is = refl;
    principal_known = named_is q s.store.principals (subst T (sym hq) tt);
    principal_is = f;
  }

  every_variable : l.vars ≡ length (variables s.store)
  every_variable = R.variables.counted ∙ sym (length-map s.store.variables (λ (v : Variable). v.name))

  pub few_variables : length (variables s.store) ≤ 4096
  few_variables = omega (arith, every_variable, records_few s l b R, R.light)

module _ (s : Session) (l : Layout) (b : Slices) (assertions : List ℕ) (R : Runs s l b assertions) where
  assertions_held : Standing s.store l.asserted assertions
  assertions_held = subst (Standing s.store l.asserted) R.stood R.running.assertions

  -- the numbers fit
  pub few : (l.asserted ≤ length assertions) × (l.asserted ≤ 2048) × (l.principals ≤ 1024) × (l.vars ≤ 4096)
  few = (
    assertions_held.within,
    omega (arith, assertions_few s l b R.running, R.running.light),
    omega (arith, records_few s l b R.running, R.running.light),
    omega (arith, records_few s l b R.running, R.running.light),
  )

  pub fits : (x : ℕ) → x < l.vars → (l.asserted ≤ length assertions) × (l.asserted ≤ 2048) × (l.principals ≤ 1024) × (x < 65536)
  fits x h = let f = few in (f.0, f.1, f.2, omega (arith, f.3, h))

  pub counted : Counted s.store assertions l.asserted l.principals l.vars
  counted = record {
    is_valid = store_valid s l b R.running;
    assertions_held = assertions_held;
    everyone = everyone s l b R.running;
    every_variable = every_variable s l b R.running;
  }
