-- `render::output::status` meets its contract. Three pieces in a row.
-- Assumes nothing.
use Rattle.value_text.proofs.Pieces.{◌▸◌}
use Rattle.render.proofs.output.status.Goals as goal

pub returns : goal.returns
returns c = c.copy_in-a.ensures ▸ c.copy_in-b.ensures ▸ c.copy_in.ensures
