-- `evaluate::draft::start` meets its contract. The record's first line, and no rows.
-- Assumes nothing.
use Rattle.evaluate.proofs.Drafting.{first_line}
use Rattle.evaluate.proofs.draft.start.Goals as goal

pub returns : goal.returns
returns c = first_line _ _ c.args.slots.now _ c.put_record-end.ensures
