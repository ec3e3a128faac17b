use mathlib.Core.Path.{◌≡◌}
use Prim.Native.Nat.{◌+◌, ◌≤◌}
use native.Mathlib.Omega.{arith}
use Rattle.language.specs.Weight.{name_weight}
use Rattle.store.specs.Rows.{row_at}
use Rattle.store.proofs.NameWeights.{row_light}
use Rattle.assertion_changes.proofs.FromStart.{rows_from_start, some_from_start}
use borrow.Author.Rules.{rules}
use Rattle.assertion_changes.proofs.weigh.pair.Goals as goal

pub principal_weight-requires : goal.principal_weight-requires
principal_weight-requires c = (some_from_start c.args.principals.now c.args.len c.args.count c.args.slots.now c.requires.1, c.requires.2)

pub principal_weight-requires-2 : goal.principal_weight-requires-2
principal_weight-requires-2 c = (some_from_start c.args.principals.now c.args.len c.args.count c.args.slots.now c.requires.1, c.requires.3)

pub overflow_add-result : goal.overflow_add-result
overflow_add-result c =
    let a = c.args in
    let rows = c.requires.1.rows in
    let H = rows_from_start rows a.principals.now a.len a.count a.slots.now c.requires.1.held in
    let q : c.principal_weight.result ≡ name_weight (row_at rows a.q).name = c.principal_weight.ensures rows H in
    let p : c.principal_weight-2.result ≡ name_weight (row_at rows a.p).name = c.principal_weight-2.ensures rows H in
    let lq : name_weight (row_at rows a.q).name ≤ 255 = row_light rows _ a.count a.slots.now H a.q c.requires.2 in
    let lp : name_weight (row_at rows a.p).name ≤ 255 = row_light rows _ a.count a.slots.now H a.p c.requires.3 in
    omega arith

pub returns : goal.returns
returns c rows K =
    let a = c.args in
    let H = rows_from_start rows a.principals.now a.len a.count a.slots.now K in
    λ i. c.principal_weight.ensures rows H i + c.principal_weight-2.ensures rows H i
