-- `value_text::put_string` meets its contract. Three pieces in a row.
-- Assumes nothing.
use Rattle.value_text.proofs.Pieces.{◌▸◌}
use Rattle.value_text.proofs.put_string.Goals as goal

pub returns : goal.returns
returns c = c.copy_in-a.ensures ▸ c.copy_in-b.ensures ▸ c.put_byte.ensures
