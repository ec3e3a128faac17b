use Rattle.search_steps.proofs.Marking.{no_q, no_p, not_d, reached, reaches}
use Rattle.search_steps.proofs.mark.Goals as goal
use Rattle.search_steps.proofs.mark.Goals.{then-dist-q-via-then-dist-q, then-dist-q-via-else-dist-q+then-dist-q-2, then-dist-p-via-then-dist-p, then-dist-p-via-else-dist-p+then-dist-p-2}

pub returns-then-dist-q : goal.returns-then-dist-q
returns-then-dist-q c =
    let a = c.args in
    elim c.then-dist-q.branch [
      | then-dist-q-via-then-dist-q w ↦ no_q a.d a.a.from a.a.to a.dist.now w.if-dist-q.true
      | then-dist-q-via-else-dist-q+then-dist-q-2 w ↦ not_d a.d a.a.from a.a.to a.dist.now w.if-dist-q.false w.if-dist-q-2.true
    ]

pub returns-then-dist-p : goal.returns-then-dist-p
returns-then-dist-p c =
    let a = c.args in
    elim c.then-dist-p.branch [
      | then-dist-p-via-then-dist-p w ↦ no_p a.d a.a.from a.a.to a.dist.now c.if-dist-q.false c.if-dist-q-2.false w.if-dist-p.true
      | then-dist-p-via-else-dist-p+then-dist-p-2 w ↦ reached a.d a.a.from a.a.to a.dist.now c.if-dist-q.false c.if-dist-q-2.false w.if-dist-p.false w.if-dist-p-2.true
    ]

pub returns : goal.returns
returns c =
    let a = c.args in
    reaches a.d a.a.from a.a.to a.dist.now c.requires c.if-dist-q.false c.if-dist-q-2.false c.if-dist-p.false c.if-dist-p-2.false
