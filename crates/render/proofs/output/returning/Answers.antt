-- `render::output::returning` meets its contract. Three pieces in a row.
-- Assumes nothing.
use Rattle.value_text.proofs.Pieces.{◌▸◌}
use Rattle.render.proofs.output.returning.Goals as goal

pub returns : goal.returns
returns c v h = c.copy_in-a.ensures ▸ c.json-b.ensures v h ▸ c.copy_in.ensures
