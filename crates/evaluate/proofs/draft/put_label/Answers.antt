-- `evaluate::draft::put_label` meets its contract. Three pieces in a row.
-- Assumes nothing.
use Rattle.value_text.proofs.Pieces.{◌▸◌}
use Rattle.evaluate.proofs.draft.put_label.Goals as goal

pub returns : goal.returns
returns c = c.copy_in-a.ensures ▸ c.copy_in-b.ensures ▸ c.put_byte.ensures
