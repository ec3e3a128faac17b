-- `foreach_list::put` meets its contract. What is too heavy stays so; a light list has room for more text.
-- Assumes nothing.
use mathlib.Core.Path.{sym}
use native.Mathlib.Omega.{arith}
use lib.Seq.{length-take-le}
use Rattle.foreach_list.proofs.Growing.{fits, grown_heavy, grown}
use borrow.Author.Rules.{rules}
use Rattle.foreach_list.proofs.put.Goals as goal

pub overflow_add-weight : goal.overflow_add-weight
overflow_add-weight c = let P = c.requires in omega (arith, P.0.drafted.small, P.1.drafted.small)

pub returns-then-weight-gt8192 : goal.returns-then-weight-gt8192
returns-then-weight-gt8192 c o p D E = grown_heavy D E _ c.if-weight-gt8192.true

pub slice_bounds-copy_in-end : goal.slice_bounds-copy_in-end
slice_bounds-copy_in-end c = sym (length-take-le _ _ c.requires.1.drafted.within)

pub copy_in-len-requires : goal.copy_in-len-requires
copy_in-len-requires c = let P = c.requires in fits P.0.drafted P.1.drafted c.if-weight-gt8192.false P.2

pub returns : goal.returns
returns c o p D E = grown D E c.if-weight-gt8192.false _ _ c.copy_in-len.ensures
