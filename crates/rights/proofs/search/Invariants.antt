use lib.ListN.{length, take}
use Rattle.board.specs.Board.{following}
use Rattle.search_steps.specs.Steps.{left}
use Rattle.rights.proofs.Beginning.{Going}
use Rattle.rights.proofs.Turns.{links, Turning}
use Rattle.rights.proofs.search.Given as goal

abbrev pub invariant-loop-i : goal.invariant-loop-i
invariant-loop-i l = Turning l.list l.count l.principal l.d l.initial.board l.i l.n l.board

abbrev pub decreases-loop-i : goal.decreases-loop-i
decreases-loop-i l = links (length l.list) (following l.count l.board) l.i

abbrev pub invariant-search : goal.invariant-search
invariant-search l = Going l.list l.count l.principal l.d l.board

abbrev pub decreases-search : goal.decreases-search
decreases-search l = left (take l.count l.board)
