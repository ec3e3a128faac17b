use mathlib.Core.Path.{sym, ◌∙◌}
use native.Mathlib.Omega.{arith}
use Rattle.assertion.specs.Packed.{Assertion}
use Rattle.search_steps.specs.Steps.{handed}
use Rattle.search_steps.proofs.Marking.{left_le}
use Rattle.chains.proofs.Passing.{pass_on, pass_over}
use Rattle.marking.proofs.round.Goals as goal

abbrev none : Assertion
none = record { variable = 0; from = 0; right = 0; to = 0 }

pub overflow_add-n : goal.overflow_add-n
overflow_add-n c = omega (arith, left_le c.args.dist.now, c.from-n.ensures, c.mark.ensures.counts)

pub loop-a-preserved : goal.loop-a-preserved
loop-a-preserved c =
    let l = c.loop-a in
    let s = c.args in
    record {
      counts = omega (arith, c.from-n.ensures, c.mark.ensures.counts);
      marks = pass_on handed s.d l.a-index s.list.now none l.dist _ _ (omega arith) l.invariant.marks c.mark.ensures.marks;
    }

pub returns : goal.returns
returns c =
    let l = c.loop-a in
    let s = c.args in
    record { marks = sym (pass_over handed s.d l.a-index s.list.now l.dist (omega arith)) ∙ l.invariant.marks; counts = l.invariant.counts }
