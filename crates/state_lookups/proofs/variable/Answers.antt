use mathlib.Core.Path.{◌≡◌, refl, sym, subst}
use mathlib.Core.List.{List, map}
use Prim.Native.Nat.{◌<◌}
use native.Mathlib.Omega.{arith}
use Rattle.language.specs.State.{Variable}
use Rattle.store.specs.Held.{Variables}
use Rattle.store.specs.Rows.{found_at, place, variable_row}
use Rattle.store.proofs.Holders.{variables_rows, some_variables}
use Rattle.store.proofs.Answers.{variable_found}
use Rattle.splice.proofs.Splicing.{length_part}
use Rattle.state_lookups.specs.Looks.{Look, Says}
use Rattle.state_lookups.proofs.Lookups.{variable_gone, variable_here}
use Rattle.state_lookups.proofs.variable.Goals as goal

pub find-requires : goal.find-requires
find-requires c =
    let a = c.args in
    let p = c.requires.0 in
    some_variables p.rows a.text.now a.count a.slots.now p.held

pub returns-in_default : goal.returns-in_default
returns-in_default c vs W =
    let a = c.args in
    subst (λ (l : Look). Says l a.out.now a.out.now 4294967298)
    (sym (variable_gone vs a.name.now (c.in_default.ensures (map variable_row vs) (variables_rows vs a.text.now a.count a.slots.now W))))
    (record { number_is = refl; written = refl })

pub value_of-span-requires : goal.value_of-span-requires
value_of-span-requires c =
    let here : (vs : List Variable) → let a = c.args in Variables vs a.text.now a.count a.slots.now → found_at c.in-Some.found.number c.in-Some.found.start c.in-Some.found.end ≡ place (map variable_row vs) a.name.now = λ vs W. let a = c.args in
    c.in-Some.ensures (map variable_row vs) (variables_rows vs a.text.now a.count a.slots.now W) in
    let below : c.in-Some.found.number < c.args.count = let a = c.args in
    let p = c.requires.0 in
    let F = variable_found p.rows a.text.now a.count a.slots.now p.held a.name.now c.in-Some.found.number c.in-Some.found.start c.in-Some.found.end (here p.rows p.held) in
    omega (arith, F.below, p.held.counted) in
    let a = c.args in
    let p = c.requires.0 in
    (some_variables p.rows a.text.now a.count a.slots.now p.held, below)

pub slice_bounds-write-count : goal.slice_bounds-write-count
slice_bounds-write-count c = (c.value_of-span.ensures c.requires.0.rows c.requires.0.held).order

pub slice_bounds-write-start : goal.slice_bounds-write-start
slice_bounds-write-start c = let w = c.value_of-span.ensures c.requires.0.rows c.requires.0.held in omega (arith, w.order, w.within)

pub slice_bounds-write-end : goal.slice_bounds-write-end
slice_bounds-write-end c = let w = c.value_of-span.ensures c.requires.0.rows c.requires.0.held in omega (arith, w.order, w.within)

pub write-requires : goal.write-requires
write-requires c =
    let here : (vs : List Variable) → let a = c.args in Variables vs a.text.now a.count a.slots.now → found_at c.in-Some.found.number c.in-Some.found.start c.in-Some.found.end ≡ place (map variable_row vs) a.name.now = λ vs W. let a = c.args in
    c.in-Some.ensures (map variable_row vs) (variables_rows vs a.text.now a.count a.slots.now W) in
    let below : c.in-Some.found.number < c.args.count = let a = c.args in
    let p = c.requires.0 in
    let F = variable_found p.rows a.text.now a.count a.slots.now p.held a.name.now c.in-Some.found.number c.in-Some.found.start c.in-Some.found.end (here p.rows p.held) in
    omega (arith, F.below, p.held.counted) in
    let p = c.requires in
    let w = c.value_of-span.ensures p.0.rows p.0.held in
    let n = length_part c.args.text.now c.value_of-span.result.start c.value_of-span.result.end w.order w.within in
    (omega (arith, below, p.1), omega (arith, n, w.within, p.2), omega (arith, n, w.within, p.2, p.3))

pub returns : goal.returns
returns c vs W =
    let here : (vs : List Variable) → let a = c.args in Variables vs a.text.now a.count a.slots.now → found_at c.in-Some.found.number c.in-Some.found.start c.in-Some.found.end ≡ place (map variable_row vs) a.name.now = λ vs W. let a = c.args in
    c.in-Some.ensures (map variable_row vs) (variables_rows vs a.text.now a.count a.slots.now W) in
    let a = c.args in
    subst (λ (l : Look). Says l a.out.now c.write.new.out c.write.result)
    (sym (variable_here vs a.name.now c.in-Some.found.number c.in-Some.found.start c.in-Some.found.end (here vs W) a.text.now c.value_of-span.result.start c.value_of-span.result.end (c.value_of-span.ensures vs W)))
    c.write.ensures
