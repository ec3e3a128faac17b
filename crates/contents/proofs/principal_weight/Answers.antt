use mathlib.Core.Path.{ap, ◌∙◌}
use Prim.Native.Nat.{◌+◌}
use native.Mathlib.Omega.{arith}
use Rattle.language.specs.Weight.{name_weight}
use Rattle.store.proofs.Places.{lies_here}
use Rattle.store.proofs.NameWeights.{name_is}
use Rattle.contents.proofs.principal_weight.Goals as goal

pub overflow_add-place : goal.overflow_add-place
overflow_add-place c =
    let l = lies_here c.requires.0 c.requires.1 c.nth-place.ensures in omega arith

pub slice_bounds-name_weight-count : goal.slice_bounds-name_weight-count
slice_bounds-name_weight-count c =
    let l = lies_here c.requires.0 c.requires.1 c.nth-place.ensures in omega arith

pub slice_bounds-name_weight-start : goal.slice_bounds-name_weight-start
slice_bounds-name_weight-start c =
    let l = lies_here c.requires.0 c.requires.1 c.nth-place.ensures in omega arith

pub slice_bounds-name_weight-end : goal.slice_bounds-name_weight-end
slice_bounds-name_weight-end c =
    let l = lies_here c.requires.0 c.requires.1 c.nth-place.ensures in omega arith

pub returns : goal.returns
returns c rows H =
    let a = c.args in
    c.name_weight.ensures ∙ ap name_weight (name_is rows a.principals.now a.count a.slots.now H a.number c.requires.1 c.nth-place.result (c.nth-place.ensures rows H) (c.nth-place.result.start + 2) (omega arith))
