-- `value_text::put_field` meets its contract. Five pieces in a row.
-- Assumes nothing.
use Rattle.value_text.proofs.Pieces.{◌▸◌}
use Rattle.value_text.proofs.put_field.Goals as goal

pub returns : goal.returns
returns c =
    c.copy_in-a.ensures
    ▸ c.copy_in-b.ensures
    ▸ c.put_byte-c.ensures
    ▸ c.copy_in-d.ensures
    ▸ c.put_byte.ensures
