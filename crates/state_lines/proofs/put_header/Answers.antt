-- `state_lines::put_header` meets its contract. A letter and the line's end.
-- Assumes nothing.
use Rattle.value_text.proofs.Pieces.{◌▸◌, rewritten}
use Rattle.state_lines.proofs.put_header.Goals as goal

pub returns : goal.returns
returns c = rewritten c.open_letter.ensures c.put_byte-a.ensures ▸ c.put_byte.ensures
