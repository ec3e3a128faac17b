-- `sheet_lines::put_right` meets its contract. By the test.
-- Assumes nothing.
use borrow.Author.Rules.{rules}
use Rattle.value_text.proofs.Pieces.{rewritten}
use Rattle.sheet_lines.proofs.Columns.{with_letter, with_point}
use Rattle.sheet_lines.proofs.put_right.Goals as goal

pub returns-then-had : goal.returns-then-had
returns-then-had c = rewritten (with_letter c.if-had.true) c.put_byte.ensures

pub returns : goal.returns
returns c = rewritten (with_point c.args.letter c.if-had.false) c.put_byte-2.ensures
