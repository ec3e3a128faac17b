-- A session that is not too heavy is small: its texts are short, and its records few. The buffers have room for one more of each.
use mathlib.Core.Path.{◌≡◌, sym, ap, ◌∙◌}
use Prim.Native.Nat.{◌+◌, ◌*◌, ◌≤◌}
use native.Mathlib.Omega.{arith}
use lib.ListN.{length, length-map}
use lib.Seq.{length-take-le}
use Rattle.language.specs.Text.{sum}
use Rattle.language.specs.Weight.{principal_weight, variable_weight, assertion_weight}
use Rattle.language.specs.Encode.{principals_text, variables_text}
use Rattle.language.specs.Values.{Session}
use Rattle.language.proofs.StateText.Bound.{variables_bound}
use Rattle.language.proofs.StateText.Shape.{Shape, assertions_spelled}
use Rattle.language.proofs.StateText.Least.{principals_weigh, variables_weigh, assertions_weigh, two_principals}
use Rattle.session.specs.declared.Layout.{Layout}
use Rattle.session.specs.Sessions.{Slices, Running}
use Rattle.session.proofs.Scoping.{locals_valid}
use Rattle.session.proofs.PrincipalsText.{principals_text_lem}

module _ (s : Session) (l : Layout) (b : Slices) (R : Running s l b) where
  shaped : Shape s.store
  shaped = R.ready.is_good.store_shape

  pub weighs : sum principal_weight s.store.principals + sum variable_weight s.store.variables + sum assertion_weight s.store.assertions
      + sum variable_weight s.locals ≡ l.weight
  weighs = sym R.weighed

  pub principals_is : l.principals_len ≡ length (principals_text s.store.principals)
  principals_is = sym (length-take-le l.principals_len b.principals R.principals_within) ∙ ap length R.principals.is_text_lem

  pub vars_is : l.vars_len ≡ length (variables_text s.store.variables)
  vars_is = sym (length-take-le l.vars_len b.vars R.vars_within) ∙ ap length R.variables.is_text_lem

  pub locals_is : l.locals_len ≡ length (variables_text s.locals)
  locals_is = sym (length-take-le l.locals_len b.locals R.locals_within) ∙ ap length R.local_variables.is_text_lem

  -- the texts
  pub principals_short : 3 * l.principals_len ≤ 4 * l.weight + 27
  principals_short = omega (arith, weighs, principals_is, principals_text_lem s.store.principals shaped.order shaped.principals_valid shaped.principals_distinct)

  pub variables_short : l.vars_len + l.locals_len ≤ 4 * l.weight
  variables_short =
      omega (arith, weighs, vars_is, locals_is, variables_bound s.store.variables shaped.variables_valid, variables_bound s.locals (locals_valid s l b R))

  -- the records
  pub records_few : 12 * l.principals + 2 * (l.vars + l.locals) ≤ l.weight
  records_few = omega (
    arith,
    weighs,
    R.principals.counted,
    R.variables.counted,
    R.local_variables.counted,
    principals_weigh s.store.principals shaped.principals_valid,
    variables_weigh s.store.variables shaped.variables_valid,
    variables_weigh s.locals (locals_valid s l b R),
  )

  pub principals_some : 2 ≤ l.principals
  principals_some = omega (arith, R.principals.counted, two_principals s.store.principals shaped.order)

  pub assertions_few : 4 * l.asserted ≤ l.weight
  assertions_few = omega (arith, weighs, counted, assertions_weigh s.store.assertions (assertions_spelled s.store shaped))
    where
      counted : l.asserted ≡ length s.store.assertions
      counted = sym (length-take-le l.asserted b.assertions R.assertions.within) ∙ ap length R.assertions.are ∙ length-map s.store.assertions _
