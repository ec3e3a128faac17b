-- `values::field_in` meets its contract. The loop's invariant: for every value that the text is of, the fields not looked at yet give the same answer as all.
-- Assumes nothing.
use mathlib.Core.Path.{sym, ◌∙◌}
use native.Mathlib.Omega.{arith}
use Rattle.values.proofs.Searching.{unseen_none, candidate, rest_of, candidate_at, some_field, matched, unmatched}
use Rattle.values.proofs.field_in.Goals as goal

pub field_ends-ends-requires : goal.field_ends-ends-requires
field_ends-ends-requires c =
    let t = c.args.text.now in
    let y = c.args.label.now in
    let v = c.requires.value in
    let at = c.loop-at.at in
    some_field t y v at (candidate t y v at (c.loop-at.invariant.1 v c.requires.held) c.loop-at-test.true)

pub returns-then-same_bytes-clause-meant : goal.returns-then-same_bytes-clause-meant
returns-then-same_bytes-clause-meant c v h =
    let t = c.args.text.now in
    let y = c.args.label.now in
    let at = c.loop-at.at in
    let C = candidate t y v at (c.loop-at.invariant.1 v h) c.loop-at-test.true in
    matched t y v at C _ (c.field_ends-ends.ensures.ends C.field (rest_of t y v at C) (candidate_at t y v at C)) (sym c.same_bytes.ensures ∙ c.if-same_bytes.true)

pub loop-at-preserved : goal.loop-at-preserved
loop-at-preserved c = (
  omega arith,
  λ v h.
      let t = c.args.text.now in
      let y = c.args.label.now in
      let at = c.loop-at.at in
      let C = candidate t y v at (c.loop-at.invariant.1 v h) c.loop-at-test.true in
      unmatched t y v at C _ (c.field_ends-ends.ensures.ends C.field (rest_of t y v at C) (candidate_at t y v at C)) (sym c.same_bytes.ensures ∙ c.if-same_bytes.false),
)

pub returns-clause-meant : goal.returns-clause-meant
returns-clause-meant c v h = unseen_none c.args.text.now c.args.label.now v c.loop-at.at (c.loop-at.invariant.1 v h) c.loop-at-test.false
