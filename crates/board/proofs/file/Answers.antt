use mathlib.Core.Path.{refl}
use Rattle.board.proofs.Filing.{filed_next}
use Rattle.board.proofs.file.Goals as goal

pub loop-k-preserved : goal.loop-k-preserved
loop-k-preserved c =
    let a = c.args in
    let l = c.loop-k in
    filed_next a.count a.list.now l.k _ l.board c.enter.new.board c.requires.0 c.loop-k-test.true refl c.enter.ensures l.invariant
