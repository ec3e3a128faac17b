-- `comparison::holds_lines` meets its contract. The loop's invariant: the first record holds all where it holds the fields not looked at yet.
-- Assumes nothing.
use mathlib.Core.Path.{sym, ◌∙◌}
use native.Mathlib.Omega.{arith}
use Rattle.comparison.proofs.Comparing.{left_start, left_none, next, rest_of, next_at, some_field, next_line, missed, passed}
use Rattle.comparison.proofs.holds_lines.Goals as goal

pub field_ends-ends-requires : goal.field_ends-ends-requires
field_ends-ends-requires c =
    let t = c.args.second.now in
    let fs = c.requires.0.fields in
    let gs = c.requires.1.fields in
    some_field t fs gs c.loop-at.at (next t fs gs c.loop-at.at (c.loop-at.invariant.1 fs gs c.requires.0.held c.requires.1.held) c.loop-at-test.true)

pub holds_line-requires : goal.holds_line-requires
holds_line-requires c =
    let t = c.args.second.now in
    let fs = c.requires.0.fields in
    let gs = c.requires.1.fields in
    let at = c.loop-at.at in
    let N = next t fs gs at (c.loop-at.invariant.1 fs gs c.requires.0.held c.requires.1.held) c.loop-at-test.true in (
      c.requires.0,
      record { field = N.field; is_line = next_line t fs gs at N _ (c.field_ends-ends.ensures.ends N.field (rest_of t fs gs at N) (next_at t fs gs at N)) },
    )

pub returns-then-not-holds_line : goal.returns-then-not-holds_line
returns-then-not-holds_line c fs gs h k =
    let t = c.args.second.now in
    let at = c.loop-at.at in
    let N = next t fs gs at (c.loop-at.invariant.1 fs gs h k) c.loop-at-test.true in
    let E = c.field_ends-ends.ensures.ends N.field (rest_of t fs gs at N) (next_at t fs gs at N) in
    missed t fs gs at N _ E (sym (c.holds_line.ensures fs _ h (next_line t fs gs at N _ E)) ∙ c.if-not-holds_line.true)

pub loop-at-preserved : goal.loop-at-preserved
loop-at-preserved c = (
  omega arith,
  λ fs gs h k.
      let t = c.args.second.now in
      let at = c.loop-at.at in
      let N = next t fs gs at (c.loop-at.invariant.1 fs gs h k) c.loop-at-test.true in
      let E = c.field_ends-ends.ensures.ends N.field (rest_of t fs gs at N) (next_at t fs gs at N) in
      passed t fs gs at N _ E (sym (c.holds_line.ensures fs _ h (next_line t fs gs at N _ E)) ∙ c.if-not-holds_line.false),
)

pub returns : goal.returns
returns c fs gs h k = left_none c.args.second.now fs gs c.loop-at.at (c.loop-at.invariant.1 fs gs h k) c.loop-at-test.false
