-- `sheet_lines::put_line` meets its contract. Seven pieces in a row: the name in 34 columns, and six bytes.
-- Assumes nothing.
use native.Mathlib.Omega.{arith}
use borrow.Author.Rules.{rules}
use Rattle.language.proofs.Histories.Sheets.{shown_name_lem}
use Rattle.value_text.proofs.Pieces.{◌▸◌, rewritten, written_length}
use Rattle.sheet_lines.proofs.Columns.{line_pieces}
use Rattle.sheet_lines.proofs.put_line.Goals as goal

pub put_byte-b-requires : goal.put_byte-b-requires
put_byte-b-requires c = omega (arith, c.put_name-a.ensures.ends, written_length c.put_name-a.ensures, shown_name_lem c.args.name.now, c.requires)

pub put_right-c-requires : goal.put_right-c-requires
put_right-c-requires c = omega (arith, c.put_name-a.ensures.ends, written_length c.put_name-a.ensures, c.put_byte-b.ensures.ends, written_length c.put_byte-b.ensures, shown_name_lem c.args.name.now, c.requires)

pub put_right-d-requires : goal.put_right-d-requires
put_right-d-requires c = omega (arith, c.put_name-a.ensures.ends, written_length c.put_name-a.ensures, c.put_byte-b.ensures.ends, written_length c.put_byte-b.ensures, c.put_right-c.ensures.ends, written_length c.put_right-c.ensures, shown_name_lem c.args.name.now, c.requires)

pub put_right-e-requires : goal.put_right-e-requires
put_right-e-requires c = omega (arith, c.put_name-a.ensures.ends, written_length c.put_name-a.ensures, c.put_byte-b.ensures.ends, written_length c.put_byte-b.ensures, c.put_right-c.ensures.ends, written_length c.put_right-c.ensures, c.put_right-d.ensures.ends, written_length c.put_right-d.ensures, shown_name_lem c.args.name.now, c.requires)

pub put_right-f-requires : goal.put_right-f-requires
put_right-f-requires c = omega (arith, c.put_name-a.ensures.ends, written_length c.put_name-a.ensures, c.put_byte-b.ensures.ends, written_length c.put_byte-b.ensures, c.put_right-c.ensures.ends, written_length c.put_right-c.ensures, c.put_right-d.ensures.ends, written_length c.put_right-d.ensures, c.put_right-e.ensures.ends, written_length c.put_right-e.ensures, shown_name_lem c.args.name.now, c.requires)

pub put_byte-requires : goal.put_byte-requires
put_byte-requires c = omega (arith, c.put_name-a.ensures.ends, written_length c.put_name-a.ensures, c.put_byte-b.ensures.ends, written_length c.put_byte-b.ensures, c.put_right-c.ensures.ends, written_length c.put_right-c.ensures, c.put_right-d.ensures.ends, written_length c.put_right-d.ensures, c.put_right-e.ensures.ends, written_length c.put_right-e.ensures, c.put_right-f.ensures.ends, written_length c.put_right-f.ensures, shown_name_lem c.args.name.now, c.requires)

pub returns : goal.returns
returns c =
    rewritten (line_pieces c.args.name.now c.args.had)
    (c.put_name-a.ensures ▸ c.put_byte-b.ensures ▸ c.put_right-c.ensures ▸ c.put_right-d.ensures ▸ c.put_right-e.ensures ▸ c.put_right-f.ensures ▸ c.put_byte.ensures)
