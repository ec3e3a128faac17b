use borrow.Author.Tests.{not-true, not-false}
use Rattle.std.proofs.Common.{sym, ap, not, ◌∙◌, rules}
use Rattle.language.specs.Syntax.{Binding}
use Rattle.text.specs.Meaning.{part}
use Rattle.syntax.specs.Values.{operand_meant}
use Rattle.permits.proofs.Readers.{unread_in, not_readable, all_readable, reached_on}
use Rattle.permits.proofs.fields_readable.Goals as goal

pub returns-then-not-operand_readable : goal.returns-then-not-operand_readable
returns-then-not-operand_readable c s bs us W e =
    let t = c.args.text.now in
    let f = c.in-Some.field in
    let head : Binding = record { label = part t f.label; operand = operand_meant t f.value } in
    let i = c.loop-field.invariant in
    let here = rw i.text at c.in-Some.ensures.meant in
    let no = c.operand_readable.ensures s W ∙ ap not c.if-not-operand_readable.true in
    sym (ap (unread_in s) e) ∙ not_readable s t c.args.at c.loop-field.scanner.at (i.reached s W) head f.more c.read_field.new.scanner.at here no

pub returns-then-not-field : goal.returns-then-not-field
returns-then-not-field c s bs us W e =
    let t = c.args.text.now in
    let f = c.in-Some.field in
    let head : Binding = record { label = part t f.label; operand = operand_meant t f.value } in
    let i = c.loop-field.invariant in
    let here = rw i.text at c.in-Some.ensures.meant in
    let yes = c.operand_readable.ensures s W ∙ ap not c.if-not-operand_readable.false in
    sym (ap (unread_in s) e) ∙ all_readable s t c.args.at c.loop-field.scanner.at (i.reached s W) head f.more c.read_field.new.scanner.at here yes (not-true f.more c.if-not-field.true)

pub loop-field-preserved : goal.loop-field-preserved
loop-field-preserved c =
    let t = c.args.text.now in
    let f = c.in-Some.field in
    let head : Binding = record { label = part t f.label; operand = operand_meant t f.value } in
    let i = c.loop-field.invariant in
    let here = rw i.text at c.in-Some.ensures.meant in record {
      text = search rules;
      reached = λ s W.
          let yes = c.operand_readable.ensures s W ∙ ap not c.if-not-operand_readable.false in
          reached_on s t c.args.at c.loop-field.scanner.at (i.reached s W) head f.more c.read_field.new.scanner.at here yes (not-false f.more c.if-not-field.false);
    }
