-- `lookup::is_defined` meets its contract. The parts of the buffers are the scope that is asked.
-- Assumes nothing.
use mathlib.Core.Path.{sym}
use lib.Seq.{length-take-le}
use Rattle.lookup.proofs.is_defined.Goals as goal

pub slice_bounds-is_defined-end : goal.slice_bounds-is_defined-end
slice_bounds-is_defined-end c = sym (length-take-le _ _ c.requires.scoped.vars_within)

pub slice_bounds-is_defined-end-2 : goal.slice_bounds-is_defined-end-2
slice_bounds-is_defined-end-2 c = sym (length-take-le _ _ c.requires.scoped.locals_within)

pub is_defined-requires : goal.is_defined-requires
is_defined-requires c = record { session = c.requires.session; scope = c.requires.scoped.scope }

pub returns : goal.returns
returns c s S = c.is_defined.ensures s S.scope
