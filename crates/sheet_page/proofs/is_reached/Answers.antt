-- `sheet_page::is_reached` meets its contract. By what a mark says.
-- Assumes nothing.
use Rattle.sheet_page.proofs.Lines.{reached_is}
use Rattle.sheet_page.proofs.is_reached.Goals as goal

pub returns : goal.returns
returns c = reached_is c.args.mark
