use native.Mathlib.Omega.{arith}
use Rattle.store.proofs.Places.{lies}
use Rattle.assertion_changes.proofs.FromStart.{rows_from_start, some_from_start}
use borrow.Author.Rules.{rules}
use Rattle.assertion_changes.proofs.weigh.variable.Goals as goal

pub nth-place-requires : goal.nth-place-requires
nth-place-requires c = (some_from_start c.args.vars.now c.args.len c.args.count c.args.slots.now c.requires.1, c.requires.2)

pub overflow_add-result : goal.overflow_add-result
overflow_add-result c =
    let a = c.args in
    let H = rows_from_start c.requires.1.rows a.vars.now a.len a.count a.slots.now c.requires.1.held in
    let P = c.nth-place.ensures c.requires.1.rows H in
    let l = lies c.requires.1.rows _ a.count a.slots.now H a.number c.requires.2 c.nth-place.result P in
    omega (arith, l.first, l.middle, l.last, H.small)

pub overflow_sub-result : goal.overflow_sub-result
overflow_sub-result c =
    let a = c.args in
    let H = rows_from_start c.requires.1.rows a.vars.now a.len a.count a.slots.now c.requires.1.held in
    let P = c.nth-place.ensures c.requires.1.rows H in
    let l = lies c.requires.1.rows _ a.count a.slots.now H a.number c.requires.2 c.nth-place.result P in
    omega (arith, l.first)

pub returns : goal.returns
returns c rows K =
    let a = c.args in
    let H = rows_from_start rows a.vars.now a.len a.count a.slots.now K in
    let P = c.nth-place.ensures rows H in
    omega (arith, P.starts, P.name_ends)
