use Rattle.std.proofs.Common.{◌∙◌, ap, not, sym}
use Rattle.language.specs.Expressions.{operand_names}
use Rattle.syntax.specs.Values.{operand_meant}
use Rattle.permits.proofs.Readers.{first_unread, second_decides}
use Rattle.permits.proofs.both_readable.Goals as goal

pub returns-then-operand_readable : goal.returns-then-operand_readable
returns-then-operand_readable c s W =
    let a = c.args in
    let xs = operand_names (operand_meant a.text.now a.first) in
    let ys = operand_names (operand_meant a.text.now a.second) in
    second_decides s xs ys (c.operand_readable.ensures s W ∙ ap not c.if-operand_readable.true) ∙ c.operand_readable-then-operand_readable.ensures s W

pub returns-else-operand_readable : goal.returns-else-operand_readable
returns-else-operand_readable c s W =
    let a = c.args in
    let xs = operand_names (operand_meant a.text.now a.first) in
    let ys = operand_names (operand_meant a.text.now a.second) in
    let e = ap not c.if-operand_readable.false in
    first_unread s xs ys (c.operand_readable.ensures s W ∙ e) ∙ sym e
