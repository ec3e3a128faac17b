-- `foreach_list::start` meets its contract. A list's first line.
-- Assumes nothing.
use mathlib.Core.Path.{refl}
use Rattle.foreach_list.proofs.Growing.{empty_drafted}
use borrow.Author.Rules.{rules}
use Rattle.foreach_list.proofs.start.Goals as goal

pub returns : goal.returns
returns c = empty_drafted _ _ _ _ (record { is_valid = tt; is_text_lem = refl }) c.put_list-len.ensures
