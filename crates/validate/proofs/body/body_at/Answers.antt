use mathlib.Core.Path.{◌≡◌, sym, ◌∙◌}
use mathlib.Core.List.{List, map}
use Prim.Native.Nat.{ℕ}
use native.Mathlib.Omega.{arith}
use borrow.Author.Tests.{eqb-true, eqb-false}
use lib.ListN.{length, drop}
use Rattle.language.specs.Former.{Form}
use Rattle.store.specs.Rows.{Row, row_names, row_in, variable_row}
use Rattle.store.proofs.Records.{slots_long}
use Rattle.frame.specs.Edges.{total}
use Rattle.principal_lines.specs.Principals.{form_meant}
use Rattle.references.specs.Known.{Delegating}
use Rattle.assertion_lines.specs.Assertions.{Granted}
use Rattle.validate.proofs.Verdicts.{Principals, Values, bad_principals, rows_of_principals, principals_light, bad_delegator, bad_variables, values_rows, values_light, bad_assertions, bad_behind, all_good}
use Rattle.validate.proofs.body.body_at.Goals as goal

pub principals-requires : goal.principals-requires
principals-requires c = (c.requires.start, omega (arith, c.requires.size), c.requires.principals_room)

pub returns-in_err-roster : goal.returns-in_err-roster
returns-in_err-roster c =
    let text : List ℕ = c.args.state.now in
    let form : Form = form_meant c.args.form in
    let slots-p : List ℕ = c.principals.new.slots in
    rw c.from_residual.ensures
    (bad_principals form text c.args.«open» c.args.from
    c.in_err-roster.ensures)

pub delegator_at-requires : goal.delegator_at-requires
delegator_at-requires c =
    let text : List ℕ = c.args.state.now in
    let form : Form = form_meant c.args.form in
    let slots-p : List ℕ = c.principals.new.slots in
    let roster : Principals form text c.args.from slots-p c.in_ok-roster.roster.end c.in_ok-roster.roster.count c.in_ok-roster.roster.weighed = c.in_ok-roster.ensures in
    let prows : List Row = map (row_in form) roster.records.rows in
    let P = roster in
    (P.records.reads.low, P.records.reads.high, record { rows = prows; held = rows_of_principals form text c.args.«open» c.args.from _ _ _ _ P })

pub returns-in_err-delegator : goal.returns-in_err-delegator
returns-in_err-delegator c =
    let text : List ℕ = c.args.state.now in
    let form : Form = form_meant c.args.form in
    let slots-p : List ℕ = c.principals.new.slots in
    let roster : Principals form text c.args.from slots-p c.in_ok-roster.roster.end c.in_ok-roster.roster.count c.in_ok-roster.roster.weighed = c.in_ok-roster.ensures in
    let prows : List Row = map (row_in form) roster.records.rows in
    rw c.from_residual-in_err-delegator.ensures
    (bad_delegator form text c.args.«open» c.args.from _ _ _ _ roster
    (c.in_err-delegator.ensures prows (rows_of_principals form text c.args.«open» c.args.from _ _ _ _ roster)))

pub variables-requires : goal.variables-requires
variables-requires c =
    let text : List ℕ = c.args.state.now in
    let form : Form = form_meant c.args.form in
    let slots-p : List ℕ = c.principals.new.slots in
    let roster : Principals form text c.args.from slots-p c.in_ok-roster.roster.end c.in_ok-roster.roster.count c.in_ok-roster.roster.weighed = c.in_ok-roster.ensures in
    let prows : List Row = map (row_in form) roster.records.rows in
    let delegating : Delegating (row_names prows) text c.in_ok-roster.roster.end c.in_ok-delegator.delegator c.in_ok-delegator.vars_from = (c.in_ok-delegator.ensures prows (rows_of_principals form text c.args.«open» c.args.from _ _ _ _ roster)) in
    let l = principals_light form text c.args.«open» c.args.from _ _ _ _ roster in
    (delegating.reads.high, omega (arith, c.requires.size), c.requires.variables_size, l)

pub returns-in_err-values : goal.returns-in_err-values
returns-in_err-values c =
    let text : List ℕ = c.args.state.now in
    let form : Form = form_meant c.args.form in
    let slots-p : List ℕ = c.principals.new.slots in
    let roster : Principals form text c.args.from slots-p c.in_ok-roster.roster.end c.in_ok-roster.roster.count c.in_ok-roster.roster.weighed = c.in_ok-roster.ensures in
    let prows : List Row = map (row_in form) roster.records.rows in
    let delegating : Delegating (row_names prows) text c.in_ok-roster.roster.end c.in_ok-delegator.delegator c.in_ok-delegator.vars_from = (c.in_ok-delegator.ensures prows (rows_of_principals form text c.args.«open» c.args.from _ _ _ _ roster)) in
    let slots_v : List ℕ = c.variables.new.slots in
    rw c.from_residual-in_err-values.ensures
    (bad_variables form text c.args.«open» c.args.from _ _ _ _ roster _ _ delegating
    c.in_err-values.ensures)

pub assertions-requires : goal.assertions-requires
assertions-requires c =
    let text : List ℕ = c.args.state.now in
    let form : Form = form_meant c.args.form in
    let slots-p : List ℕ = c.principals.new.slots in
    let roster : Principals form text c.args.from slots-p c.in_ok-roster.roster.end c.in_ok-roster.roster.count c.in_ok-roster.roster.weighed = c.in_ok-roster.ensures in
    let prows : List Row = map (row_in form) roster.records.rows in
    let delegating : Delegating (row_names prows) text c.in_ok-roster.roster.end c.in_ok-delegator.delegator c.in_ok-delegator.vars_from = (c.in_ok-delegator.ensures prows (rows_of_principals form text c.args.«open» c.args.from _ _ _ _ roster)) in
    let slots_v : List ℕ = c.variables.new.slots in
    let values : Values text c.in_ok-delegator.vars_from c.in_ok-roster.roster.weighed slots_v c.in_ok-values.values.end c.in_ok-values.values.count c.in_ok-values.values.weighed = c.in_ok-values.ensures in
    let vrows : List Row = map variable_row values.records.rows in
    let P = roster in
    let W = values in
    let p = rows_of_principals form text c.args.«open» c.args.from _ _ _ _ P in
    let v = values_rows form text c.args.«open» c.args.from _ _ _ _ P _ _ delegating _ _ _ _ W in
    let lp = slots_long prows _ _ _ p in
    let lv = slots_long vrows _ _ _ v in
    let kp : length slots-p ≡ length c.args.principals.now = c.principals.auto.slots in
    let kv : length slots_v ≡ 4096 = c.variables.auto.slots ∙ c.requires.variables_size in (
      record {
        small = omega (arith, c.requires.size);
        principals_order = P.records.reads.low;
        principals_within = P.records.reads.high;
        principals_few = omega (arith, lp, kp, c.requires.principals_few);
        principals_some = record { rows = prows; held = p };
        vars_order = W.records.reads.low;
        vars_within = W.records.reads.high;
        vars_few = omega (arith, lv, kv);
        vars_some = record { rows = vrows; held = v };
      },
      W.records.reads.high,
      values_light form text c.args.«open» c.args.from _ _ _ _ P _ _ delegating _ _ _ _ W,
      c.requires.assertions_size,
    )

pub returns-in_err-listed : goal.returns-in_err-listed
returns-in_err-listed c =
    let text : List ℕ = c.args.state.now in
    let form : Form = form_meant c.args.form in
    let slots-p : List ℕ = c.principals.new.slots in
    let roster : Principals form text c.args.from slots-p c.in_ok-roster.roster.end c.in_ok-roster.roster.count c.in_ok-roster.roster.weighed = c.in_ok-roster.ensures in
    let prows : List Row = map (row_in form) roster.records.rows in
    let delegating : Delegating (row_names prows) text c.in_ok-roster.roster.end c.in_ok-delegator.delegator c.in_ok-delegator.vars_from = (c.in_ok-delegator.ensures prows (rows_of_principals form text c.args.«open» c.args.from _ _ _ _ roster)) in
    let slots_v : List ℕ = c.variables.new.slots in
    let values : Values text c.in_ok-delegator.vars_from c.in_ok-roster.roster.weighed slots_v c.in_ok-values.values.end c.in_ok-values.values.count c.in_ok-values.values.weighed = c.in_ok-values.ensures in
    let vrows : List Row = map variable_row values.records.rows in
    let packed : List ℕ = c.assertions.new.assertions in
    rw c.from_residual-in_err-listed.ensures
    (bad_assertions form text c.args.«open» c.args.from _ _ _ _ roster _ _ delegating _ _ _ _ values
    ((c.in_err-listed.ensures prows vrows
    (rows_of_principals form text c.args.«open» c.args.from _ _ _ _ roster)
    (values_rows form text c.args.«open» c.args.from _ _ _ _ roster _ _ delegating _ _ _ _ values))))

pub zeros_from-requires : goal.zeros_from-requires
zeros_from-requires c =
    let text : List ℕ = c.args.state.now in
    let form : Form = form_meant c.args.form in
    let slots-p : List ℕ = c.principals.new.slots in
    let roster : Principals form text c.args.from slots-p c.in_ok-roster.roster.end c.in_ok-roster.roster.count c.in_ok-roster.roster.weighed = c.in_ok-roster.ensures in
    let prows : List Row = map (row_in form) roster.records.rows in
    let delegating : Delegating (row_names prows) text c.in_ok-roster.roster.end c.in_ok-delegator.delegator c.in_ok-delegator.vars_from = (c.in_ok-delegator.ensures prows (rows_of_principals form text c.args.«open» c.args.from _ _ _ _ roster)) in
    let slots_v : List ℕ = c.variables.new.slots in
    let values : Values text c.in_ok-delegator.vars_from c.in_ok-roster.roster.weighed slots_v c.in_ok-values.values.end c.in_ok-values.values.count c.in_ok-values.values.weighed = c.in_ok-values.ensures in
    let vrows : List Row = map variable_row values.records.rows in
    let packed : List ℕ = c.assertions.new.assertions in
    let granted : Granted (row_names prows) (row_names vrows) text c.in_ok-values.values.end c.in_ok-values.values.weighed packed c.in_ok-listed.listed.end c.in_ok-listed.listed.count c.in_ok-listed.listed.weighed = (c.in_ok-listed.ensures prows vrows
    (rows_of_principals form text c.args.«open» c.args.from _ _ _ _ roster)
    (values_rows form text c.args.«open» c.args.from _ _ _ _ roster _ _ delegating _ _ _ _ values)) in
    (granted.records.reads.high, omega (arith, c.requires.size))

pub shape_of-principals-then-not-zeros_from : goal.shape_of-principals-then-not-zeros_from
shape_of-principals-then-not-zeros_from c = c.principals.auto.slots

pub returns-then-not-zeros_from : goal.returns-then-not-zeros_from
returns-then-not-zeros_from c =
    let text : List ℕ = c.args.state.now in
    let form : Form = form_meant c.args.form in
    let slots-p : List ℕ = c.principals.new.slots in
    let roster : Principals form text c.args.from slots-p c.in_ok-roster.roster.end c.in_ok-roster.roster.count c.in_ok-roster.roster.weighed = c.in_ok-roster.ensures in
    let prows : List Row = map (row_in form) roster.records.rows in
    let delegating : Delegating (row_names prows) text c.in_ok-roster.roster.end c.in_ok-delegator.delegator c.in_ok-delegator.vars_from = (c.in_ok-delegator.ensures prows (rows_of_principals form text c.args.«open» c.args.from _ _ _ _ roster)) in
    let slots_v : List ℕ = c.variables.new.slots in
    let values : Values text c.in_ok-delegator.vars_from c.in_ok-roster.roster.weighed slots_v c.in_ok-values.values.end c.in_ok-values.values.count c.in_ok-values.values.weighed = c.in_ok-values.ensures in
    let vrows : List Row = map variable_row values.records.rows in
    let packed : List ℕ = c.assertions.new.assertions in
    let granted : Granted (row_names prows) (row_names vrows) text c.in_ok-values.values.end c.in_ok-values.values.weighed packed c.in_ok-listed.listed.end c.in_ok-listed.listed.count c.in_ok-listed.listed.weighed = (c.in_ok-listed.ensures prows vrows
    (rows_of_principals form text c.args.«open» c.args.from _ _ _ _ roster)
    (values_rows form text c.args.«open» c.args.from _ _ _ _ roster _ _ delegating _ _ _ _ values)) in
    bad_behind form text c.args.«open» c.args.from _ _ _ _ roster _ _ delegating _ _ _ _ values _ _ _ _ granted
    (eqb-false (total (drop c.in_ok-listed.listed.end text)) 0 (sym c.zeros_from.ensures ∙ c.if-not-zeros_from.true))

pub shape_of-principals : goal.shape_of-principals
shape_of-principals c = c.principals.auto.slots

pub returns : goal.returns
returns c =
    let text : List ℕ = c.args.state.now in
    let form : Form = form_meant c.args.form in
    let slots-p : List ℕ = c.principals.new.slots in
    let roster : Principals form text c.args.from slots-p c.in_ok-roster.roster.end c.in_ok-roster.roster.count c.in_ok-roster.roster.weighed = c.in_ok-roster.ensures in
    let prows : List Row = map (row_in form) roster.records.rows in
    let delegating : Delegating (row_names prows) text c.in_ok-roster.roster.end c.in_ok-delegator.delegator c.in_ok-delegator.vars_from = (c.in_ok-delegator.ensures prows (rows_of_principals form text c.args.«open» c.args.from _ _ _ _ roster)) in
    let slots_v : List ℕ = c.variables.new.slots in
    let values : Values text c.in_ok-delegator.vars_from c.in_ok-roster.roster.weighed slots_v c.in_ok-values.values.end c.in_ok-values.values.count c.in_ok-values.values.weighed = c.in_ok-values.ensures in
    let vrows : List Row = map variable_row values.records.rows in
    let packed : List ℕ = c.assertions.new.assertions in
    let granted : Granted (row_names prows) (row_names vrows) text c.in_ok-values.values.end c.in_ok-values.values.weighed packed c.in_ok-listed.listed.end c.in_ok-listed.listed.count c.in_ok-listed.listed.weighed = (c.in_ok-listed.ensures prows vrows
    (rows_of_principals form text c.args.«open» c.args.from _ _ _ _ roster)
    (values_rows form text c.args.«open» c.args.from _ _ _ _ roster _ _ delegating _ _ _ _ values)) in
    all_good form text c.args.«open» c.args.from _ _ _ _ roster _ _ delegating _ _ _ _ values _ _ _ _ granted
    (eqb-true (total (drop c.in_ok-listed.listed.end text)) 0 (sym c.zeros_from.ensures ∙ c.if-not-zeros_from.false))
