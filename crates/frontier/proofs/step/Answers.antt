use native.Mathlib.Omega.{arith}
use Rattle.frontier.proofs.Boards.{step_none, step_hits, step_other, step_pushes}
use Rattle.frontier.proofs.step.Goals as goal

pub returns-then-not-reached : goal.returns-then-not-reached
returns-then-not-reached c =
    let a = c.args in
    step_none a.count a.d a.a.from a.a.to a.principal c.mark-reached.result a.board.now c.mark-reached.new.dist (omega (arith, c.requires)) c.requires.0 c.mark-reached.ensures
    c.if-not-reached.true

pub returns-then-t-principal : goal.returns-then-t-principal
returns-then-t-principal c =
    let a = c.args in
    step_hits a.count a.d a.a.from a.a.to a.principal c.mark-reached.result a.board.now c.mark-reached.new.dist (omega (arith, c.requires)) c.requires.0 c.mark-reached.ensures
    c.if-not-reached.false c.if-t-principal.true

pub push-requires : goal.push-requires
push-requires c =
    let a = c.args in
    step_pushes a.count a.d a.a.from a.a.to a.principal c.mark-reached.result a.board.now c.mark-reached.new.dist (omega (arith, c.requires)) c.requires.0 c.mark-reached.ensures
    c.if-not-reached.false c.requires.1 c.requires.2 c.requires.3

pub returns : goal.returns
returns c =
    let a = c.args in
    step_other a.count a.d a.a.from a.a.to a.principal c.mark-reached.result a.board.now c.mark-reached.new.dist (omega (arith, c.requires)) c.requires.0 c.mark-reached.ensures
    c.push.new.board c.if-not-reached.false c.if-t-principal.false c.push.ensures
