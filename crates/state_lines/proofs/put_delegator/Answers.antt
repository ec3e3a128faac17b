-- `state_lines::put_delegator` meets its contract. Two pieces in a row.
-- Assumes nothing.
use Rattle.value_text.proofs.Pieces.{◌▸◌}
use Rattle.state_lines.proofs.put_delegator.Goals as goal

pub returns : goal.returns
returns c = c.copy_in-a.ensures ▸ c.put_part.ensures
