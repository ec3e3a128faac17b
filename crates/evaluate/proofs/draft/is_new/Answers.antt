-- `evaluate::draft::is_new` meets its contract. A name that was found is one of the rows' names, and one that was not is none.
-- Assumes nothing.
use Rattle.evaluate.proofs.Labels.{row_new}
use Rattle.evaluate.proofs.draft.is_new.Goals as goal

pub returns : goal.returns
returns c l H = row_new l c.args.label.now _ c.is_none.result c.is_none.ensures (c.find.ensures l H)
