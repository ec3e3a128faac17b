use mathlib.Core.Path.{◌≡◌, ap, subst}
use mathlib.Core.List.{List, [], ◌∷◌, map}
use Prim.Native.Nat.{ℕ, ◌+◌, ◌≤◌}
use native.Mathlib.Omega.{arith}
use lib.ListN.{take}
use Rattle.language.specs.Syntax.{Name, Right}
use Rattle.language.specs.Values.{Session}
use Rattle.language.specs.Commands.{assertions_on, entering}
use Rattle.store.specs.Rows.{principal_row, variable_row}
use Rattle.store.proofs.Holders.{principals_rows, variables_rows, some_principals, some_variables}
use Rattle.session.specs.Sessions.{slices}
use Rattle.assertion_changes.specs.declared.Entered.{Entered}
use Rattle.assertion_changes.specs.Entering.{Asserts, Ends, entered}
use Rattle.delegations.specs.Delegates.{Delegates}
use Rattle.assertion_changes.proofs.Lists.{assertion_at}
use Rattle.delegations.proofs.Delegating.{principal_below, principal_few, right_few, pair_short, target_short, target_below, target_few, asserts_at, entered_next, entered_over, entered_last}
use Rattle.delegations.proofs.enter_all.Goals as goal

pub pair-pair-requires : goal.pair-pair-requires
pair-pair-requires c =
    let a = c.args in
    let D = c.requires.delegates in
    let s = c.requires.session in
    let R = D.running in
    (R.principals_within, some_principals s.store.principals _ _ _ R.principals, principal_below s a.l _ R c.requires.from a.q D.giver, principal_below s a.l _ R c.requires.to a.p D.taker)

pub variable-requires : goal.variable-requires
variable-requires c =
    let a = c.args in
    let P = c.requires in
    let R = P.delegates.running in
    let l = c.loop-target in
    (R.vars_within, some_variables P.session.store.variables _ _ _ R.variables, target_below P.session a.l _ a.targets.now a.count a.q a.right a.p P.variables_named P.from P.of_right P.to P.delegates l.target-index c.loop-target-test.true)

pub overflow_add-weight : goal.overflow_add-weight
overflow_add-weight c =
    let short : (c.variable.result ≤ 255) × (c.pair-pair.result ≤ 510) = let a = c.args in
    let P = c.requires in
    let s = P.session in
    let R = P.delegates.running in (
      target_short s a.l _ a.targets.now a.count a.q a.right a.p P.variables_named P.from P.of_right P.to P.delegates c.loop-target.target-index c.loop-target-test.true _
          (c.variable.ensures (map variable_row s.store.variables) (variables_rows s.store.variables _ _ _ R.variables)),
      pair_short s a.l _ a.targets.now a.count a.q a.right a.p P.variables_named P.from P.of_right P.to P.delegates _
          (c.pair-pair.ensures (map principal_row s.store.principals) (principals_rows s.store.principals _ _ _ R.principals)),
    ) in
    let h = short in omega (arith, h.0)

pub overflow_add-weight-in-loop-target : goal.overflow_add-weight-in-loop-target
overflow_add-weight-in-loop-target c =
    let short : (c.variable.result ≤ 255) × (c.pair-pair.result ≤ 510) = let a = c.args in
    let P = c.requires in
    let s = P.session in
    let R = P.delegates.running in (
      target_short s a.l _ a.targets.now a.count a.q a.right a.p P.variables_named P.from P.of_right P.to P.delegates c.loop-target.target-index c.loop-target-test.true _
          (c.variable.ensures (map variable_row s.store.variables) (variables_rows s.store.variables _ _ _ R.variables)),
      pair_short s a.l _ a.targets.now a.count a.q a.right a.p P.variables_named P.from P.of_right P.to P.delegates _
          (c.pair-pair.ensures (map principal_row s.store.principals) (principals_rows s.store.principals _ _ _ R.principals)),
    ) in
    let h = short in omega (arith, h.0, h.1)

pub packed-number-requires : goal.packed-number-requires
packed-number-requires c =
    let a = c.args in
    let P = c.requires in
    let s = P.session in
    let R = P.delegates.running in
    let l = c.loop-target in (
      target_few s a.l _ a.targets.now a.count a.q a.right a.p P.variables_named P.from P.of_right P.to P.delegates l.target-index c.loop-target-test.true,
      principal_few s a.l _ R P.from a.q P.delegates.giver,
      right_few s a.l _ a.targets.now a.count a.q a.right a.p P.variables_named P.from P.of_right P.to P.delegates,
      principal_few s a.l _ R P.to a.p P.delegates.taker,
    )

pub enter_one-next-requires : goal.enter_one-next-requires
enter_one-next-requires c =
    let one : (s : Session) (xs : List Name) (from : Name) (of : Right) (to : Name) → let a = c.args in let l = c.loop-target in Delegates s a.l (slices a.principals.now a.principal_slots.now a.vars.now a.variable_slots.now a.locals.now a.local_slots.now a.assertions.now) a.targets.now a.count a.q a.right a.p xs from of to → Asserts (entered s (assertions_on (take l.target-index xs) from of to)) l.k (slices a.principals.now a.principal_slots.now a.vars.now a.variable_slots.now a.locals.now a.local_slots.now l.assertions) l.assertions (assertion_at xs from of to l.target-index) c.packed-number.result (c.variable.result + 1 + c.pair-pair.result) = λ s xs from of to D. let a = c.args in
    let l = c.loop-target in
    let R = D.running in
    asserts_at s a.l _ a.targets.now a.count a.q a.right a.p xs from of to D l.target-index c.loop-target-test.true
    (entering s.store.assertions (assertions_on (take l.target-index xs) from of to)) l.k l.assertions c.packed-number.result (c.variable.result + 1 + c.pair-pair.result) c.pair-pair.result
    (l.invariant s xs from of to D) c.packed-number.ensures
    (c.pair-pair.ensures (map principal_row s.store.principals) (principals_rows s.store.principals _ _ _ R.principals))
    (ap (λ (n : ℕ). n + 1 + c.pair-pair.result) (c.variable.ensures (map variable_row s.store.variables) (variables_rows s.store.variables _ _ _ R.variables))) in
    let P = c.requires in
    record { session = _; buffers = _; assertion = _; asserts = one P.session P.variables_named P.from P.of_right P.to P.delegates }

pub returns-in_default : goal.returns-in_default
returns-in_default c s xs from of to D =
    let one : (s : Session) (xs : List Name) (from : Name) (of : Right) (to : Name) → let a = c.args in let l = c.loop-target in Delegates s a.l (slices a.principals.now a.principal_slots.now a.vars.now a.variable_slots.now a.locals.now a.local_slots.now a.assertions.now) a.targets.now a.count a.q a.right a.p xs from of to → Asserts (entered s (assertions_on (take l.target-index xs) from of to)) l.k (slices a.principals.now a.principal_slots.now a.vars.now a.variable_slots.now a.locals.now a.local_slots.now l.assertions) l.assertions (assertion_at xs from of to l.target-index) c.packed-number.result (c.variable.result + 1 + c.pair-pair.result) = λ s xs from of to D. let a = c.args in
    let l = c.loop-target in
    let R = D.running in
    asserts_at s a.l _ a.targets.now a.count a.q a.right a.p xs from of to D l.target-index c.loop-target-test.true
    (entering s.store.assertions (assertions_on (take l.target-index xs) from of to)) l.k l.assertions c.packed-number.result (c.variable.result + 1 + c.pair-pair.result) c.pair-pair.result
    (l.invariant s xs from of to D) c.packed-number.ensures
    (c.pair-pair.ensures (map principal_row s.store.principals) (principals_rows s.store.principals _ _ _ R.principals))
    (ap (λ (n : ℕ). n + 1 + c.pair-pair.result) (c.variable.ensures (map variable_row s.store.variables) (variables_rows s.store.variables _ _ _ R.variables))) in
    let next-ends : (s : Session) (xs : List Name) (from : Name) (of : Right) (to : Name) → let a = c.args in let l = c.loop-target in Delegates s a.l (slices a.principals.now a.principal_slots.now a.vars.now a.variable_slots.now a.locals.now a.local_slots.now a.assertions.now) a.targets.now a.count a.q a.right a.p xs from of to → (r : Entered) → c.enter_one-next.result ≡ r → Ends r (entered (entered s (assertions_on (take l.target-index xs) from of to)) (assertion_at xs from of to l.target-index ∷ [])) (slices a.principals.now a.principal_slots.now a.vars.now a.variable_slots.now a.locals.now a.local_slots.now c.enter_one-next.new.assertions) = λ s xs from of to D r e. let a = c.args in
    let l = c.loop-target in
    subst (λ (r : Entered). Ends r (entered (entered s (assertions_on (take l.target-index xs) from of to)) (assertion_at xs from of to l.target-index ∷ []))
    (slices a.principals.now a.principal_slots.now a.vars.now a.variable_slots.now a.locals.now a.local_slots.now c.enter_one-next.new.assertions)) e
    (c.enter_one-next.ensures _ _ _ (one s xs from of to D)) in
    let a = c.args in
    entered_over s a.l _ a.targets.now a.count a.q a.right a.p xs from of to D c.loop-target.target-index c.loop-target-test.true
    (next-ends s xs from of to D _ c.in_default.is)

pub loop-target-preserved : goal.loop-target-preserved
loop-target-preserved c =
    let one : (s : Session) (xs : List Name) (from : Name) (of : Right) (to : Name) → let a = c.args in let l = c.loop-target in Delegates s a.l (slices a.principals.now a.principal_slots.now a.vars.now a.variable_slots.now a.locals.now a.local_slots.now a.assertions.now) a.targets.now a.count a.q a.right a.p xs from of to → Asserts (entered s (assertions_on (take l.target-index xs) from of to)) l.k (slices a.principals.now a.principal_slots.now a.vars.now a.variable_slots.now a.locals.now a.local_slots.now l.assertions) l.assertions (assertion_at xs from of to l.target-index) c.packed-number.result (c.variable.result + 1 + c.pair-pair.result) = λ s xs from of to D. let a = c.args in
    let l = c.loop-target in
    let R = D.running in
    asserts_at s a.l _ a.targets.now a.count a.q a.right a.p xs from of to D l.target-index c.loop-target-test.true
    (entering s.store.assertions (assertions_on (take l.target-index xs) from of to)) l.k l.assertions c.packed-number.result (c.variable.result + 1 + c.pair-pair.result) c.pair-pair.result
    (l.invariant s xs from of to D) c.packed-number.ensures
    (c.pair-pair.ensures (map principal_row s.store.principals) (principals_rows s.store.principals _ _ _ R.principals))
    (ap (λ (n : ℕ). n + 1 + c.pair-pair.result) (c.variable.ensures (map variable_row s.store.variables) (variables_rows s.store.variables _ _ _ R.variables))) in
    let next-ends : (s : Session) (xs : List Name) (from : Name) (of : Right) (to : Name) → let a = c.args in let l = c.loop-target in Delegates s a.l (slices a.principals.now a.principal_slots.now a.vars.now a.variable_slots.now a.locals.now a.local_slots.now a.assertions.now) a.targets.now a.count a.q a.right a.p xs from of to → (r : Entered) → c.enter_one-next.result ≡ r → Ends r (entered (entered s (assertions_on (take l.target-index xs) from of to)) (assertion_at xs from of to l.target-index ∷ [])) (slices a.principals.now a.principal_slots.now a.vars.now a.variable_slots.now a.locals.now a.local_slots.now c.enter_one-next.new.assertions) = λ s xs from of to D r e. let a = c.args in
    let l = c.loop-target in
    subst (λ (r : Entered). Ends r (entered (entered s (assertions_on (take l.target-index xs) from of to)) (assertion_at xs from of to l.target-index ∷ []))
    (slices a.principals.now a.principal_slots.now a.vars.now a.variable_slots.now a.locals.now a.local_slots.now c.enter_one-next.new.assertions)) e
    (c.enter_one-next.ensures _ _ _ (one s xs from of to D)) in
    λ s xs from of to D.
    let a = c.args in
    entered_next s a.l _ a.targets.now a.count a.q a.right a.p xs from of to D c.loop-target.target-index c.loop-target-test.true c.in-Done.after _
    (next-ends s xs from of to D _ c.in-Done.is)

pub returns : goal.returns
returns c s xs from of to D =
    let a = c.args in
    entered_last s a.l _ a.targets.now a.count a.q a.right a.p xs from of to D c.loop-target.target-index c.loop-target-test.false c.loop-target.k _ (c.loop-target.invariant s xs from of to D)
