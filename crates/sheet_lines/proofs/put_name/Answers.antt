-- `sheet_lines::put_name` meets its contract. Two pieces in a row: the name and spaces, or its front and `~`.
-- Assumes nothing.
use native.Mathlib.Omega.{arith}
use mathlib.Core.Path.{sym}
use lib.ListN.{length-take}
use lib.Seq.{length-take-le}
use borrow.Author.Rules.{rules}
use Rattle.value_text.proofs.Pieces.{◌▸◌, rewritten, written_length}
use Rattle.sheet_lines.proofs.Columns.{short_name, cut_name}
use Rattle.sheet_lines.proofs.put_name.Goals as goal

pub returns-then-name-le34 : goal.returns-then-name-le34
returns-then-name-le34 c = rewritten (short_name c.args.name.now (omega (arith, c.if-name-le34.true))) (c.copy_in-a.ensures ▸ c.put_spaces.ensures)

pub slice_bounds-copy_in-end : goal.slice_bounds-copy_in-end
slice_bounds-copy_in-end c = sym (length-take-le _ c.args.name.now (omega (arith, c.if-name-le34.false)))

pub copy_in-b-requires : goal.copy_in-b-requires
copy_in-b-requires c = simp length-take (omega (arith, c.requires))

pub put_byte-requires : goal.put_byte-requires
put_byte-requires c = omega (arith, simp length-take at c.copy_in-b.ensures.ends, written_length c.copy_in-b.ensures, c.requires)

pub returns : goal.returns
returns c = rewritten (cut_name c.args.name.now (omega (arith, c.if-name-le34.false))) (c.copy_in-b.ensures ▸ c.put_byte.ensures)
