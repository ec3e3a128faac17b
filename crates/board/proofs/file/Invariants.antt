use Rattle.board.specs.Board.{Filed}
use Rattle.board.proofs.file.Given as goal

-- the first k assertions are entered, and nobody is reached
abbrev pub invariant-loop-k : goal.invariant-loop-k
invariant-loop-k l = Filed l.count l.list l.k l.board
