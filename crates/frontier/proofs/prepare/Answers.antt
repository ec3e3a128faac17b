use mathlib.Core.Path.{sym, subst}
use mathlib.Core.List.{List}
use Prim.Native.Nat.{ℕ}
use Rattle.board.specs.Board.{Ready}
use Rattle.board.proofs.Filing.{filed_pushes}
use Rattle.frontier.proofs.Pushing.{ready}
use Rattle.frontier.proofs.prepare.Goals as goal

pub push-requires : goal.push-requires
push-requires c =
    let a = c.args in
    filed_pushes a.count a.list.now c.file.new.board c.requires.1 c.requires.2 c.file.ensures

pub returns : goal.returns
returns c =
    let a = c.args in
    subst (λ (x : List ℕ). Ready a.count a.list.now x) (sym c.push.ensures) (ready a.count a.list.now c.file.new.board c.requires.1 c.requires.0 c.file.ensures)
