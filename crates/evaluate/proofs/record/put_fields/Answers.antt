use borrow.Author.Tests.{not-true, not-false}
use Rattle.std.proofs.Common.{◌∙◌, sym, ap, subst, arith, rules, []}
use Rattle.std.proofs.Math.Option.{Option}
use Rattle.language.specs.Syntax.{Binding}
use Rattle.language.specs.State.{Value}
use Rattle.text.specs.Meaning.{part}
use Rattle.syntax.specs.Values.{operand_meant}
use Rattle.evaluated.specs.Weighed.{by_weight}
use Rattle.evaluated.specs.Results.{Valued}
use Rattle.evaluate.proofs.Fieldwise.{finish, whole_record}
use Rattle.evaluate.proofs.Turning.{going_start, operand_valid, label_room, some_draft, ends, goes_on, is_whole}
use Rattle.evaluate.proofs.record.put_fields.Goals as goal

pub loop-field-init : goal.loop-field-init
loop-field-init c =
    let r = c.requires in record {
      text = search rules;
      lent = record { out_size = omega (arith, r.lent.out_size, c.start-d.auto.out); slots_size = r.lent.slots_size };
      going = λ s S. going_start s c.args.text.now c.args.at c.start-d.new.out c.args.labels.now c.start-d.result r.some_record.0 r.some_record.1 c.start-d.ensures;
    }

pub add_field-added-requires-clause-within : goal.add_field-added-requires-clause-within
add_field-added-requires-clause-within c =
    let t = c.args.text.now in
    let f = c.in-Some.field in
    let head : Binding = record { label = part t f.label; operand = operand_meant t f.value } in
    let l = c.loop-field in
    let here = rw l.invariant.text at c.in-Some.ensures.meant in
    let p = rw l.invariant.text at c.in-Some.ensures.placed in
    let scope = c.requires.some_scope in
    let G = l.invariant.going scope.session scope.scope in
    (p.0.0, p.0.1, operand_valid scope.session t c.args.at l.scanner.at l.out l.labels l.d G head f.more c.read_field.new.scanner.at here, c.requires.some_record.1)

pub add_field-added-requires-clause-lent : goal.add_field-added-requires-clause-lent
add_field-added-requires-clause-lent c =
    let t = c.args.text.now in
    let f = c.in-Some.field in
    let head : Binding = record { label = part t f.label; operand = operand_meant t f.value } in
    let l = c.loop-field in
    let here = rw l.invariant.text at c.in-Some.ensures.meant in
    let scope = c.requires.some_scope in
    let G = l.invariant.going scope.session scope.scope in
    (l.invariant.lent, some_draft scope.session t c.args.at l.scanner.at l.out l.labels l.d G head f.more c.read_field.new.scanner.at here)

pub returns-in_default-added : goal.returns-in_default-added
returns-in_default-added c s bs us S e =
    let t = c.args.text.now in
    let f = c.in-Some.field in
    let head : Binding = record { label = part t f.label; operand = operand_meant t f.value } in
    let l = c.loop-field in
    let here = rw l.invariant.text at c.in-Some.ensures.meant in
    let G = l.invariant.going s S in
    let room = label_room s t c.args.at l.scanner.at l.out l.labels l.d G head f.more c.read_field.new.scanner.at here in
    let x = c.in_default-added.ensures s G.written S G.drafted room in
    ap by_weight (whole_record s bs us ∙ ap (finish s []) (sym e)
    ∙ ends s t c.args.at l.scanner.at l.out l.labels l.d G head f.more c.read_field.new.scanner.at here c.add_field-added.new.out c.add_field-added.new.labels x)

pub returns-then-not-field : goal.returns-then-not-field
returns-then-not-field c s bs us S e =
    let t = c.args.text.now in
    let f = c.in-Some.field in
    let head : Binding = record { label = part t f.label; operand = operand_meant t f.value } in
    let l = c.loop-field in
    let here = rw l.invariant.text at c.in-Some.ensures.meant in
    let G = l.invariant.going s S in
    let room = label_room s t c.args.at l.scanner.at l.out l.labels l.d G head f.more c.read_field.new.scanner.at here in
    let out = c.add_field-added.new.out in
    let labels = c.add_field-added.new.labels in
    let x = c.in-Some-added.ensures s G.written S G.drafted room in
    let W = is_whole s t c.args.at l.scanner.at l.out l.labels l.d G head f.more c.read_field.new.scanner.at here out labels c.in-Some-added.next x (not-true f.more c.if-not-field.true) in
    subst (λ (o : Option Value). Valued c.finished.result (by_weight o) out) (sym (whole_record s bs us ∙ ap (finish s []) (sym e) ∙ W.is_value))
    (c.finished.ensures W.written out labels W.drafted W.some_field)

pub loop-field-preserved : goal.loop-field-preserved
loop-field-preserved c =
    let t = c.args.text.now in
    let f = c.in-Some.field in
    let head : Binding = record { label = part t f.label; operand = operand_meant t f.value } in
    let l = c.loop-field in
    let here = rw l.invariant.text at c.in-Some.ensures.meant in
    let added = c.add_field-added in
    record {
      text = search rules;
      lent = record { out_size = omega (arith, l.invariant.lent.out_size, added.auto.out); slots_size = omega (arith, l.invariant.lent.slots_size, added.auto.labels) };
      going = λ s S.
          let G = l.invariant.going s S in
          let room = label_room s t c.args.at l.scanner.at l.out l.labels l.d G head f.more c.read_field.new.scanner.at here in
          let x = c.in-Some-added.ensures s G.written S G.drafted room in
          goes_on s t c.args.at l.scanner.at l.out l.labels l.d G head f.more c.read_field.new.scanner.at here added.new.out added.new.labels c.in-Some-added.next x (not-false f.more c.if-not-field.false);
    }
