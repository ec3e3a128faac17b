use mathlib.Core.List.{map}
use native.Mathlib.Omega.{arith}
use Rattle.store.specs.Rows.{variable_row}
use Rattle.store.proofs.Holders.{variables_rows}
use Rattle.store.proofs.Answers.{found_row, variable_found, variable_missing}
use Rattle.contents.proofs.bytes_of.Goals as goal

pub returns-in_err-found : goal.returns-in_err-found
returns-in_err-found c vs W =
    let a = c.args in
    let m = variable_missing vs a.name.now (c.in_err-found.ensures (map variable_row vs) (variables_rows vs a.text.now a.count a.slots.now W)) in
    rw c.from_residual.ensures m

pub overflow_add-result : goal.overflow_add-result
overflow_add-result c =
    let a = c.args in
    let p = c.requires in
    let f = c.in_ok-found.found in
    let r = found_row p.rows a.text.now a.count a.slots.now p.held a.name.now f.number f.start f.end (c.in_ok-found.ensures p.rows p.held) in omega arith

pub overflow_add-result-2 : goal.overflow_add-result-2
overflow_add-result-2 c =
    let a = c.args in
    let p = c.requires in
    let f = c.in_ok-found.found in
    let r = found_row p.rows a.text.now a.count a.slots.now p.held a.name.now f.number f.start f.end (c.in_ok-found.ensures p.rows p.held) in omega arith

pub slice_bounds-result-count : goal.slice_bounds-result-count
slice_bounds-result-count c =
    let a = c.args in
    let p = c.requires in
    let f = c.in_ok-found.found in
    let r = found_row p.rows a.text.now a.count a.slots.now p.held a.name.now f.number f.start f.end (c.in_ok-found.ensures p.rows p.held) in omega arith

pub slice_bounds-result-start : goal.slice_bounds-result-start
slice_bounds-result-start c =
    let a = c.args in
    let p = c.requires in
    let f = c.in_ok-found.found in
    let r = found_row p.rows a.text.now a.count a.slots.now p.held a.name.now f.number f.start f.end (c.in_ok-found.ensures p.rows p.held) in omega arith

pub slice_bounds-result-end : goal.slice_bounds-result-end
slice_bounds-result-end c =
    let a = c.args in
    let p = c.requires in
    let f = c.in_ok-found.found in
    let r = found_row p.rows a.text.now a.count a.slots.now p.held a.name.now f.number f.start f.end (c.in_ok-found.ensures p.rows p.held) in omega arith

pub returns : goal.returns
returns c vs W =
    let a = c.args in
    let f = c.in_ok-found.found in
    let F = variable_found vs a.text.now a.count a.slots.now W a.name.now f.number f.start f.end
    (c.in_ok-found.ensures (map variable_row vs) (variables_rows vs a.text.now a.count a.slots.now W)) in
    record { value = _; is_value = F.is_value; bytes = F.value_bytes_lem }
