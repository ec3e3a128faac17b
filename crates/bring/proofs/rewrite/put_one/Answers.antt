use Rattle.value_text.proofs.Pieces.{rewritten}
use Rattle.bring.proofs.Copying.{line_end, inner_byte}
use Rattle.bring.proofs.rewrite.put_one.Goals as goal

pub returns-then-b-eq10 : goal.returns-then-b-eq10
returns-then-b-eq10 c = rewritten (line_end c.args.b c.if-b-eq10.true) c.copy_in.ensures

pub returns : goal.returns
returns c = rewritten (inner_byte c.args.b c.if-b-eq10.false) c.put_byte.ensures
