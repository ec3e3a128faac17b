use Rattle.std.proofs.Common.{◌≡◌, get_or, length, sym, ◌∙◌, arith}
use Rattle.store.specs.Rows.{row_names}
use Rattle.assertion_lines.proofs.AssertionLists.{enrolled_names, asserting_start, assertions_good, assertions_stuck, assertion_ahead, assertion_light, assertion_room, assertion_twice, assertions_next}
use Rattle.assertion_lines.proofs.assertions.Goals as goal

pub loop-roll-init : goal.loop-roll-init
loop-roll-init c =
    (c.requires.2, c.requires.1, omega arith, λ prows vrows G W. asserting_start (row_names prows) (row_names vrows) c.args.text.now c.args.at c.args.w _ c.requires.1)

pub returns-in_err-line : goal.returns-in_err-line
returns-in_err-line c =
    let is-a : get_or c.args.text.now c.loop-roll.i 0 ≡ 65 = sym c.byte_at.ensures ∙ c.loop-roll-test.true in
    let a = c.args in
    let l = c.loop-roll in
    λ prows vrows G W.
    rw c.from_residual.ensures (assertions_stuck (row_names prows) (row_names vrows) (enrolled_names a.text.now a.roll a.principals.now a.vars.now c.requires.0 prows vrows G W) a.text.now a.at a.w l.assertions l.i l.n l.now (l.invariant.3 prows vrows G W) is-a (c.in_err-line.ensures prows vrows G W))

pub returns-then-is_among : goal.returns-then-is_among
returns-then-is_among c =
    let is-a : get_or c.args.text.now c.loop-roll.i 0 ≡ 65 = sym c.byte_at.ensures ∙ c.loop-roll-test.true in
    let a = c.args in
    let l = c.loop-roll in
    λ prows vrows G W.
    assertion_twice (row_names prows) (row_names vrows) (enrolled_names a.text.now a.roll a.principals.now a.vars.now c.requires.0 prows vrows G W) a.text.now a.at a.w l.assertions l.i l.n l.now (l.invariant.3 prows vrows G W) is-a _ _ _ (c.in_ok-line.ensures prows vrows G W) (sym c.is_among.ensures ∙ c.if-is_among.true)

pub offset_bounds-assertions-n : goal.offset_bounds-assertions-n
offset_bounds-assertions-n c =
    let is-a : get_or c.args.text.now c.loop-roll.i 0 ≡ 65 = sym c.byte_at.ensures ∙ c.loop-roll-test.true in
    let whole : length c.loop-roll.assertions ≡ 2048 = c.loop-roll.auto.assertions ∙ c.requires.3 in
    let a = c.args in
    let l = c.loop-roll in
    let P = c.requires.0.principals_some in
    let X = c.requires.0.vars_some in
    let prows = P.rows in
    let vrows = X.rows in
    let G = P.held in
    let W = X.held in
    omega (arith, assertion_room (row_names prows) (row_names vrows) (enrolled_names a.text.now a.roll a.principals.now a.vars.now c.requires.0 prows vrows G W) a.text.now a.at a.w l.assertions l.i l.n l.now (l.invariant.3 prows vrows G W) is-a _ _ _ (c.in_ok-line.ensures prows vrows G W) whole)

pub bounds-assertions-n : goal.bounds-assertions-n
bounds-assertions-n c =
    let is-a : get_or c.args.text.now c.loop-roll.i 0 ≡ 65 = sym c.byte_at.ensures ∙ c.loop-roll-test.true in
    let whole : length c.loop-roll.assertions ≡ 2048 = c.loop-roll.auto.assertions ∙ c.requires.3 in
    let a = c.args in
    let l = c.loop-roll in
    let P = c.requires.0.principals_some in
    let X = c.requires.0.vars_some in
    let prows = P.rows in
    let vrows = X.rows in
    let G = P.held in
    let W = X.held in
    omega (arith, assertion_room (row_names prows) (row_names vrows) (enrolled_names a.text.now a.roll a.principals.now a.vars.now c.requires.0 prows vrows G W) a.text.now a.at a.w l.assertions l.i l.n l.now (l.invariant.3 prows vrows G W) is-a _ _ _ (c.in_ok-line.ensures prows vrows G W) whole)

pub overflow_add-n : goal.overflow_add-n
overflow_add-n c =
    let is-a : get_or c.args.text.now c.loop-roll.i 0 ≡ 65 = sym c.byte_at.ensures ∙ c.loop-roll-test.true in
    let whole : length c.loop-roll.assertions ≡ 2048 = c.loop-roll.auto.assertions ∙ c.requires.3 in
    let a = c.args in
    let l = c.loop-roll in
    let P = c.requires.0.principals_some in
    let X = c.requires.0.vars_some in
    let prows = P.rows in
    let vrows = X.rows in
    let G = P.held in
    let W = X.held in
    omega (arith, assertion_room (row_names prows) (row_names vrows) (enrolled_names a.text.now a.roll a.principals.now a.vars.now c.requires.0 prows vrows G W) a.text.now a.at a.w l.assertions l.i l.n l.now (l.invariant.3 prows vrows G W) is-a _ _ _ (c.in_ok-line.ensures prows vrows G W) whole)

pub loop-roll-smaller : goal.loop-roll-smaller
loop-roll-smaller c =
    let is-a : get_or c.args.text.now c.loop-roll.i 0 ≡ 65 = sym c.byte_at.ensures ∙ c.loop-roll-test.true in
    let a = c.args in
    let l = c.loop-roll in
    let P = c.requires.0.principals_some in
    let X = c.requires.0.vars_some in
    let prows = P.rows in
    let vrows = X.rows in
    let G = P.held in
    let W = X.held in
    let h = c.in_ok-line.ensures prows vrows G W in
    omega (arith, assertion_ahead (row_names prows) (row_names vrows) (enrolled_names a.text.now a.roll a.principals.now a.vars.now c.requires.0 prows vrows G W) a.text.now a.at a.w l.assertions l.i l.n l.now (l.invariant.3 prows vrows G W) is-a _ _ _ (c.in_ok-line.ensures prows vrows G W), h.reads.high)

pub loop-roll-preserved : goal.loop-roll-preserved
loop-roll-preserved c =
    let is-a : get_or c.args.text.now c.loop-roll.i 0 ≡ 65 = sym c.byte_at.ensures ∙ c.loop-roll-test.true in
    let whole : length c.loop-roll.assertions ≡ 2048 = c.loop-roll.auto.assertions ∙ c.requires.3 in
    let a = c.args in
    let l = c.loop-roll in
    let P = c.requires.0.principals_some in
    let X = c.requires.0.vars_some in
    let prows = P.rows in
    let vrows = X.rows in
    let G = P.held in
    let W = X.held in
    let h = c.in_ok-line.ensures prows vrows G W in (
      assertion_light (row_names prows) (row_names vrows) (enrolled_names a.text.now a.roll a.principals.now a.vars.now c.requires.0 prows vrows G W) a.text.now a.at a.w l.assertions l.i l.n l.now (l.invariant.3 prows vrows G W) is-a _ _ _ (c.in_ok-line.ensures prows vrows G W),
      h.reads.high,
      omega (arith, assertion_room (row_names prows) (row_names vrows) (enrolled_names a.text.now a.roll a.principals.now a.vars.now c.requires.0 prows vrows G W) a.text.now a.at a.w l.assertions l.i l.n l.now (l.invariant.3 prows vrows G W) is-a _ _ _ (c.in_ok-line.ensures prows vrows G W) whole),
      λ prows vrows G W. assertions_next (row_names prows) (row_names vrows) (enrolled_names a.text.now a.roll a.principals.now a.vars.now c.requires.0 prows vrows G W) a.text.now a.at a.w l.assertions l.i l.n l.now (l.invariant.3 prows vrows G W) is-a _ _ _ (c.in_ok-line.ensures prows vrows G W) whole (sym c.is_among.ensures ∙ c.if-is_among.false),
    )

pub returns : goal.returns
returns c =
    let a = c.args in
    let l = c.loop-roll in
    λ prows vrows G W.
    assertions_good (row_names prows) (row_names vrows) (enrolled_names a.text.now a.roll a.principals.now a.vars.now c.requires.0 prows vrows G W) a.text.now a.at a.w l.assertions l.i l.n l.now (l.invariant.3 prows vrows G W) (λ e. c.loop-roll-test.false (c.byte_at.ensures ∙ e)) l.invariant.0 (omega (arith, l.auto.assertions, c.requires.3))
