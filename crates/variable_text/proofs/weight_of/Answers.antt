-- `variable_text::weight_of` meets its contract. The value's text is found by number and weighed.
-- Assumes nothing.
use native.Mathlib.Omega.{arith}
use Prim.Native.Nat.{◌<◌}
use lib.ListN.{length}
use Rattle.store.proofs.Holders.{some_variables}
use Rattle.contents.specs.Contents.{ValueAt}
use Rattle.variable_text.proofs.Weighing.{value_holds}
use Rattle.variable_text.proofs.weight_of.Goals as goal

pub value_of-at-requires : goal.value_of-at-requires
value_of-at-requires c =
    let a = c.args in
    let S = c.requires.0 in
    (some_variables S.variables a.text.now a.count a.slots.now S.held, c.requires.1)

pub slice_bounds-weigh-count : goal.slice_bounds-weigh-count
slice_bounds-weigh-count c =
    let placed : let a = c.args in ValueAt c.requires.0.variables a.text.now a.number c.value_of-at.result.start c.value_of-at.result.end = c.value_of-at.ensures c.requires.0.variables c.requires.0.held in
    omega (arith, placed.order)

pub slice_bounds-weigh-start : goal.slice_bounds-weigh-start
slice_bounds-weigh-start c =
    let placed : let a = c.args in ValueAt c.requires.0.variables a.text.now a.number c.value_of-at.result.start c.value_of-at.result.end = c.value_of-at.ensures c.requires.0.variables c.requires.0.held in
    omega (arith, placed.order, placed.within)

pub slice_bounds-weigh-end : goal.slice_bounds-weigh-end
slice_bounds-weigh-end c =
    let placed : let a = c.args in ValueAt c.requires.0.variables a.text.now a.number c.value_of-at.result.start c.value_of-at.result.end = c.value_of-at.ensures c.requires.0.variables c.requires.0.held in
    omega (arith, placed.order, placed.within)

pub weigh-requires : goal.weigh-requires
weigh-requires c =
    let placed : let a = c.args in ValueAt c.requires.0.variables a.text.now a.number c.value_of-at.result.start c.value_of-at.result.end = c.value_of-at.ensures c.requires.0.variables c.requires.0.held in
    let a = c.args in
    let S = c.requires.0 in
    let l : a.number < length S.variables = omega (arith, S.held.counted, c.requires.1) in
    record { value = _; held = value_holds S.variables a.text.now a.number _ _ S.are_valid l placed }

pub returns : goal.returns
returns c vs W h =
    let a = c.args in
    let l : a.number < length vs = omega (arith, W.counted, c.requires.1) in
    c.weigh.ensures _ (value_holds vs a.text.now a.number _ _ h l (c.value_of-at.ensures vs W))
