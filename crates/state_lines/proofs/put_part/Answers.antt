-- `state_lines::put_part` meets its contract. Two pieces in a row.
-- Assumes nothing.
use Rattle.value_text.proofs.Pieces.{◌▸◌}
use Rattle.state_lines.proofs.put_part.Goals as goal

pub returns : goal.returns
returns c = c.copy_in-a.ensures ▸ c.put_byte.ensures
