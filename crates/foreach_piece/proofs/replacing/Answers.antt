-- `foreach_piece::replacing` meets its contract. A list is no element.
-- Assumes nothing.
use mathlib.Core.Path.{sym, ◌∙◌}
use mathlib.Core.Option.{some}
use native.Mathlib.Omega.{arith}
use lib.Seq.{length-take-le}
use Rattle.foreach_piece.proofs.Settling.{list_none, single_given}
use Rattle.foreach_piece.proofs.replacing.Goals as goal

pub slice_bounds-list_read-end : goal.slice_bounds-list_read-end
slice_bounds-list_read-end c = sym (length-take-le _ _ c.requires.written.within)

pub list_read-requires : goal.list_read-requires
list_read-requires c = let W = c.requires.written in record { value = some W.value; held = W.held }

pub returns-then-list_read : goal.returns-then-list_read
returns-then-list_read c s xs o a t = (t.0, list_none o c.args.out.now a _ _ t.1 (sym c.if-list_read.true ∙ c.list_read.ensures (some t.1.value) t.1.held))

pub overflow_add-result : goal.overflow_add-result
overflow_add-result c = omega (arith, c.requires.written.light)

pub returns : goal.returns
returns c s xs o a t = (t.0, single_given o c.args.out.now a _ _ t.1 (sym c.if-list_read.false ∙ c.list_read.ensures (some t.1.value) t.1.held))
