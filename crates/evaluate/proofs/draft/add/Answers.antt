-- `evaluate::draft::add` meets its contract. A label that is there is refused; else its slot is set and its row written, with the text while all is light.
-- Assumes nothing.
use mathlib.Core.Path.{refl}
use Prim.Native.Nat.{◌*◌, ◌-◌, ◌≤◌}
use mathlib.Core.List.{List}
use native.Mathlib.Omega.{arith}
use lib.Dec.{T}
use Rattle.language.specs.Text.{member}
use Rattle.language.specs.State.{labels, Field}
use Rattle.evaluate.specs.Drafts.{Drafted}
use Rattle.evaluate.proofs.Labels.{slots_part}
use Rattle.evaluate.proofs.Drafting.{few, label_added, line_added, is_there, is_not_there}
use Rattle.evaluate.proofs.draft.add.Goals as goal

pub slice_bounds-is_new-end-2 : goal.slice_bounds-is_new-end-2
slice_bounds-is_new-end-2 c =
    let low : 4 * c.args.d.count ≤ 16384 - 4 = omega (arith, c.requires.lent.1.room, few c.requires.lent.1.fields_written c.args.out.now c.args.slots.now c.args.d c.requires.lent.1.drafted) in
    omega (arith, low, c.requires.lent.0.slots_size)

pub is_new-requires : goal.is_new-requires
is_new-requires c = record { rows = c.requires.lent.1.drafted.rows; held = slots_part c.requires.lent.1.drafted.rows _ c.args.d.count c.args.slots.now c.requires.lent.1.drafted.held }

pub returns-then-not-is_new : goal.returns-then-not-is_new
returns-then-not-is_new c fs D h =
    let a = c.args in
    is_there fs a.out.now a.slots.now a.d D a.label.now c.is_new.result
    (c.is_new.ensures D.rows (slots_part D.rows _ a.d.count a.slots.now D.held)) c.if-not-is_new.true-raw

pub offset_bounds-slots-count : goal.offset_bounds-slots-count
offset_bounds-slots-count c =
    let low : 4 * c.args.d.count ≤ 16384 - 4 = omega (arith, c.requires.lent.1.room, few c.requires.lent.1.fields_written c.args.out.now c.args.slots.now c.args.d c.requires.lent.1.drafted) in
    omega (arith, low)

pub bounds-slots-count : goal.bounds-slots-count
bounds-slots-count c =
    let low : 4 * c.args.d.count ≤ 16384 - 4 = omega (arith, c.requires.lent.1.room, few c.requires.lent.1.fields_written c.args.out.now c.args.slots.now c.args.d c.requires.lent.1.drafted) in
    omega (arith, low, c.requires.lent.0.slots_size)

pub overflow_add-result : goal.overflow_add-result
overflow_add-result c =
    let low : 4 * c.args.d.count ≤ 16384 - 4 = omega (arith, c.requires.lent.1.room, few c.requires.lent.1.fields_written c.args.out.now c.args.slots.now c.args.d c.requires.lent.1.drafted) in
    omega (arith, low)

pub returns-then-weight-gt8192 : goal.returns-then-weight-gt8192
returns-then-weight-gt8192 c fs D h =
    let absent : (fs : List Field) → let a = c.args in Drafted fs a.out.now a.slots.now a.d → T (member a.label.now (labels fs)) → ⊥ = λ fs D. let a = c.args in
    is_not_there fs a.out.now a.slots.now a.d D a.label.now c.is_new.result
    (c.is_new.ensures D.rows (slots_part D.rows _ a.d.count a.slots.now D.held)) c.if-not-is_new.false-raw in
    let a = c.args in
    label_added fs a.out.now a.slots.now a.d D a.label.now a.text.now _ _ _ _ c.requires.lent.1.name_holds c.requires.t.0 c.requires.t.1
    (absent fs D) refl h c.requires.lent.0.slots_size c.slot_of.ensures c.put_label-next.ensures c.if-weight-gt8192.true

pub overflow_add-result-2 : goal.overflow_add-result-2
overflow_add-result-2 c =
    let low : 4 * c.args.d.count ≤ 16384 - 4 = omega (arith, c.requires.lent.1.room, few c.requires.lent.1.fields_written c.args.out.now c.args.slots.now c.args.d c.requires.lent.1.drafted) in
    omega (arith, low)

pub returns : goal.returns
returns c fs D h =
    let absent : (fs : List Field) → let a = c.args in Drafted fs a.out.now a.slots.now a.d → T (member a.label.now (labels fs)) → ⊥ = λ fs D. let a = c.args in
    is_not_there fs a.out.now a.slots.now a.d D a.label.now c.is_new.result
    (c.is_new.ensures D.rows (slots_part D.rows _ a.d.count a.slots.now D.held)) c.if-not-is_new.false-raw in
    let a = c.args in
    line_added fs a.out.now a.slots.now a.d D a.label.now a.text.now _ _ _ _ c.requires.lent.1.name_holds c.requires.t.0 c.requires.t.1
    (absent fs D) refl h c.requires.lent.0.slots_size c.slot_of.ensures c.put_field-next.ensures c.if-weight-gt8192.false
