-- `lookup::is_list` meets its contract. What was read says it.
-- Assumes nothing.
use Rattle.language.specs.Values.{lookup}
use borrow.Author.Rules.{rules}
use Rattle.lookup.proofs.is_list.Goals as goal

pub list_read-requires : goal.list_read-requires
list_read-requires c = let P = c.requires in record { value = lookup P.session c.args.name.now; held = c.text_of.ensures P.session P.scoped }

pub returns : goal.returns
returns c s S = c.list_read.ensures (lookup s c.args.name.now) (c.text_of.ensures s S)
