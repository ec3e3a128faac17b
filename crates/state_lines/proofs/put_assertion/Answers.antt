-- `state_lines::put_assertion` meets its contract. Six pieces in a row.
-- Assumes nothing.
use Rattle.value_text.proofs.Pieces.{◌▸◌, rewritten}
use Rattle.state_lines.proofs.Lines.{assertion_parts}
use Rattle.state_lines.proofs.put_assertion.Goals as goal

pub returns : goal.returns
returns c =
    let a = c.args in
    rewritten (assertion_parts a.variable.now a.from.now a.right a.to.now)
    (c.copy_in-a.ensures
    ▸ c.put_part-b.ensures
    ▸ c.put_part-c.ensures
    ▸ c.put_byte-d.ensures
    ▸ c.put_byte-e.ensures
    ▸ c.put_part.ensures)
