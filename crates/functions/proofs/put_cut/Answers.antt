-- `functions::put_cut` meets its contract. A record's first line, and the lines of its two fields.
-- Assumes nothing.
use Rattle.functions.proofs.Bytewise.{cut_lines}
use Rattle.value_text.proofs.Pieces.{◌▸◌, rewritten}
use Rattle.functions.proofs.put_cut.Goals as goal

pub returns : goal.returns
returns c =
    rewritten (cut_lines c.args.text.now c.args.n c.min.result c.split_at.result.0.now c.split_at.result.1.now c.min.ensures c.split_at.ensures.front c.split_at.ensures.back)
    (c.put_record-a.ensures ▸ c.put_field-b.ensures ▸ c.put_field.ensures)
