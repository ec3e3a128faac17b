-- `functions::put_lower` meets its contract. Three pieces in a row.
-- Assumes nothing.
use Rattle.value_text.proofs.Pieces.{◌▸◌}
use Rattle.functions.proofs.put_lower.Goals as goal

pub returns : goal.returns
returns c = c.copy_in-a.ensures ▸ c.copy_lower-b.ensures ▸ c.put_byte.ensures
