-- `lookup::may_do` meets its contract. The parts of the buffers are what the test of rights takes.
-- Assumes nothing.
use mathlib.Core.Path.{sym}
use lib.Seq.{length-take-le}
use Rattle.lookup.proofs.may_do.Goals as goal

pub slice_bounds-allowed-end : goal.slice_bounds-allowed-end
slice_bounds-allowed-end c = sym (length-take-le _ _ c.requires.sending.vars_within)

pub allowed-requires : goal.allowed-requires
allowed-requires c = let P = c.requires in record { session = P.session; sends = P.sending.sends }

pub returns : goal.returns
returns c s r S k = c.allowed.ensures s r S.sends k
