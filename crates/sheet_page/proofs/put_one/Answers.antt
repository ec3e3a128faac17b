-- `sheet_page::put_one` meets its contract. The name stands after the letter and a tab.
-- Assumes nothing.
use mathlib.Core.Path.{refl, ap}
use native.Mathlib.Omega.{arith}
use Rattle.language.specs.Syntax.{Name}
use Rattle.language.specs.Sheet.{shown_line}
use Rattle.store.proofs.Places.{Lies, lies}
use Rattle.store.proofs.NameWeights.{name_is}
use Rattle.value_text.proofs.Pieces.{rewritten}
use Rattle.sheet_lines.specs.Rights.{had_by}
use Rattle.sheet_page.proofs.put_one.Goals as goal

pub overflow_add-from : goal.overflow_add-from
overflow_add-from c =
    let safe : Lies c.args.text.now c.nth-place.result = let a = c.args in
    let S = c.requires.0 in
    lies S.rows a.text.now a.count a.slots.now S.held a.i c.requires.1 c.nth-place.result (c.nth-place.ensures S.rows S.held) in
    let l = safe in omega (arith, l.first, l.middle, l.last)

pub slice_bounds-put_line-count : goal.slice_bounds-put_line-count
slice_bounds-put_line-count c =
    let safe : Lies c.args.text.now c.nth-place.result = let a = c.args in
    let S = c.requires.0 in
    lies S.rows a.text.now a.count a.slots.now S.held a.i c.requires.1 c.nth-place.result (c.nth-place.ensures S.rows S.held) in
    let l = safe in omega (arith, l.first)

pub slice_bounds-put_line-start : goal.slice_bounds-put_line-start
slice_bounds-put_line-start c =
    let safe : Lies c.args.text.now c.nth-place.result = let a = c.args in
    let S = c.requires.0 in
    lies S.rows a.text.now a.count a.slots.now S.held a.i c.requires.1 c.nth-place.result (c.nth-place.ensures S.rows S.held) in
    let l = safe in omega (arith, l.first, l.middle, l.last)

pub slice_bounds-put_line-end : goal.slice_bounds-put_line-end
slice_bounds-put_line-end c =
    let safe : Lies c.args.text.now c.nth-place.result = let a = c.args in
    let S = c.requires.0 in
    lies S.rows a.text.now a.count a.slots.now S.held a.i c.requires.1 c.nth-place.result (c.nth-place.ensures S.rows S.held) in
    let l = safe in omega (arith, l.first, l.middle, l.last)

pub returns : goal.returns
returns c rows H =
    let a = c.args in
    let e = name_is rows a.text.now a.count a.slots.now H a.i c.requires.1 c.nth-place.result (c.nth-place.ensures rows H) _ refl in
    rewritten (ap (λ (x : Name). shown_line x (had_by a.had)) e) c.put_line.ensures
