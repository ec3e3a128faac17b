use Rattle.std.proofs.Common.{◌≡◌, get_or, sym, ◌∙◌, arith}
use Rattle.record_fields.proofs.Labels.{fields_start, fields_heavy, fields_good, fields_stuck, field_ahead, field_light, field_entering, field_next, field_again}
use Rattle.record_fields.proofs.fields.Goals as goal

pub loop-at-init : goal.loop-at-init
loop-at-init c = (c.requires.weighed, fields_start c.args.text.now c.args.at c.args.w _ c.requires.start)

pub returns-in_err-line : goal.returns-in_err-line
returns-in_err-line c =
    let is_f : get_or c.args.text.now c.loop-at.i 0 ≡ 70 = sym c.byte_at.ensures ∙ c.loop-at-test.true in
    let a = c.args in
    let l = c.loop-at in
    rw c.from_residual.ensures (fields_stuck a.text.now a.at a.w l.slots l.i l.n l.now l.invariant.1 is_f c.in_err-line.ensures)

pub enter-requires : goal.enter-requires
enter-requires c =
    let is_f : get_or c.args.text.now c.loop-at.i 0 ≡ 70 = sym c.byte_at.ensures ∙ c.loop-at-test.true in
    let a = c.args in
    let l = c.loop-at in
    field_entering a.text.now a.at a.w l.slots l.i l.n l.now l.invariant.1 is_f _ _ _ c.in_ok-line.ensures c.requires.small (omega (arith, c.requires.room))

pub returns-then-not-enter : goal.returns-then-not-enter
returns-then-not-enter c =
    let is_f : get_or c.args.text.now c.loop-at.i 0 ≡ 70 = sym c.byte_at.ensures ∙ c.loop-at-test.true in
    let a = c.args in
    let l = c.loop-at in
    field_again a.text.now a.at a.w l.slots l.i l.n l.now l.invariant.1 is_f _ _ _ c.in_ok-line.ensures c.requires.small c.enter.new.slots c.if-not-enter.ensures

pub overflow_add-n : goal.overflow_add-n
overflow_add-n c =
    let is_f : get_or c.args.text.now c.loop-at.i 0 ≡ 70 = sym c.byte_at.ensures ∙ c.loop-at-test.true in
    let a = c.args in
    let l = c.loop-at in
    let h = field_entering a.text.now a.at a.w l.slots l.i l.n l.now l.invariant.1 is_f _ _ _ c.in_ok-line.ensures c.requires.small (omega (arith, c.requires.room)) in
    omega (arith, h.room)

pub loop-at-smaller : goal.loop-at-smaller
loop-at-smaller c =
    let is_f : get_or c.args.text.now c.loop-at.i 0 ≡ 70 = sym c.byte_at.ensures ∙ c.loop-at-test.true in
    let a = c.args in
    let l = c.loop-at in
    omega (arith, field_ahead a.text.now a.at a.w l.slots l.i l.n l.now l.invariant.1 is_f _ _ _ c.in_ok-line.ensures, c.in_ok-line.ensures.one.reads.high)

pub loop-at-preserved : goal.loop-at-preserved
loop-at-preserved c =
    let is_f : get_or c.args.text.now c.loop-at.i 0 ≡ 70 = sym c.byte_at.ensures ∙ c.loop-at-test.true in
    let a = c.args in
    let l = c.loop-at in
    let k = field_light a.text.now a.at a.w l.slots l.i l.n l.now l.invariant.1 is_f _ _ _ c.in_ok-line.ensures in (
      omega (arith, k),
      field_next a.text.now a.at a.w l.slots l.i l.n l.now l.invariant.1 is_f _ _ _ c.in_ok-line.ensures c.requires.small _ (omega (arith, c.requires.room)) c.if-not-enter.ensures,
    )

pub returns-then-now-gt-LIMIT : goal.returns-then-now-gt-LIMIT
returns-then-now-gt-LIMIT c =
    let a = c.args in
    let l = c.loop-at in
    fields_heavy a.text.now a.at a.w l.slots l.i l.n l.now l.invariant.1 c.if-now-gt-LIMIT.true

pub returns : goal.returns
returns c =
    let a = c.args in
    let l = c.loop-at in
    fields_good a.text.now a.at a.w l.slots l.i l.n l.now l.invariant.1 (λ e. c.loop-at-test.false (c.byte_at.ensures ∙ e)) c.if-now-gt-LIMIT.false
