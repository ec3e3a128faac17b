-- `render::output::put_quoted` meets its contract. Three pieces in a row.
-- Assumes nothing.
use Rattle.value_text.proofs.Pieces.{◌▸◌}
use Rattle.render.proofs.output.put_quoted.Goals as goal

pub returns : goal.returns
returns c = c.put_byte-a.ensures ▸ c.copy_in-b.ensures ▸ c.put_byte.ensures
