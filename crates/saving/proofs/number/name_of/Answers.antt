-- `saving::number::name_of` meets its contract. The name stands after the letter and a tab.
-- Assumes nothing.
use mathlib.Core.Path.{refl}
use Prim.Native.Nat.{◌+◌}
use native.Mathlib.Omega.{arith}
use Rattle.store.proofs.Places.{Lies, lies}
use Rattle.store.proofs.NameWeights.{name_is}
use borrow.Author.Rules.{rules}
use Rattle.saving.proofs.number.name_of.Goals as goal

pub overflow_add-from : goal.overflow_add-from
overflow_add-from c =
    let safe : Lies c.args.text.now c.nth-place.result = let a = c.args in
    lies c.requires.0.rows a.text.now a.count a.slots.now c.requires.0.held a.number c.requires.1 c.nth-place.result (c.nth-place.ensures c.requires.0.rows c.requires.0.held) in
    let l = safe in omega (arith, l.first, l.middle, l.last)

pub slice_bounds-result-count : goal.slice_bounds-result-count
slice_bounds-result-count c =
    let safe : Lies c.args.text.now c.nth-place.result = let a = c.args in
    lies c.requires.0.rows a.text.now a.count a.slots.now c.requires.0.held a.number c.requires.1 c.nth-place.result (c.nth-place.ensures c.requires.0.rows c.requires.0.held) in
    let l = safe in omega (arith, l.first)

pub slice_bounds-result-start : goal.slice_bounds-result-start
slice_bounds-result-start c =
    let safe : Lies c.args.text.now c.nth-place.result = let a = c.args in
    lies c.requires.0.rows a.text.now a.count a.slots.now c.requires.0.held a.number c.requires.1 c.nth-place.result (c.nth-place.ensures c.requires.0.rows c.requires.0.held) in
    let l = safe in omega (arith, l.first, l.middle, l.last)

pub slice_bounds-result-end : goal.slice_bounds-result-end
slice_bounds-result-end c =
    let safe : Lies c.args.text.now c.nth-place.result = let a = c.args in
    lies c.requires.0.rows a.text.now a.count a.slots.now c.requires.0.held a.number c.requires.1 c.nth-place.result (c.nth-place.ensures c.requires.0.rows c.requires.0.held) in
    let l = safe in omega (arith, l.first, l.middle, l.last)

pub returns : goal.returns
returns c rows H =
    let a = c.args in
    name_is rows a.text.now a.count a.slots.now H a.number c.requires.1 c.nth-place.result (c.nth-place.ensures rows H) (c.nth-place.result.start + 2) refl
