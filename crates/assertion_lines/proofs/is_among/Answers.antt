use Rattle.std.proofs.Common.{eqb, take, get_or, ap, sym, ◌∙◌, arith, take_all}
use borrow.Author.Tests.{eq-eqb, ne_eqb}
use Rattle.language.specs.Text.{any}
use Rattle.assertion_lines.proofs.Grants.{among_step, or_yes, or_no}
use Rattle.assertion_lines.proofs.is_among.Goals as goal
use Rattle.assertion_lines.proofs.is_among.Goals.{then-assertion-number, else-assertion-number}

pub loop-assertion-preserved : goal.loop-assertion-preserved
loop-assertion-preserved c =
    let n = c.args.number in
    let l = c.loop-assertion in
    let t = c.args.assertions.now in
    let s = among_step (eqb n) t l.assertion-index (omega arith) in
    elim c.if-assertion-number.branch [
      | then-assertion-number w ↦ w.hit-is ∙ or_yes (any (eqb n) (take l.assertion-index t)) (eqb n (get_or t l.assertion-index 0)) (eq-eqb n (get_or t l.assertion-index 0) (sym w.if-assertion-number.true)) ∙ sym s
      | else-assertion-number w ↦ w.hit-is ∙ l.invariant ∙ or_no (any (eqb n) (take l.assertion-index t)) (eqb n (get_or t l.assertion-index 0)) (ne_eqb n (get_or t l.assertion-index 0) (λ z. w.if-assertion-number.false (sym z))) ∙ sym s
    ]

pub returns : goal.returns
returns c = c.loop-assertion.invariant ∙ ap (any (eqb c.args.number)) (take_all c.loop-assertion.assertion-index c.args.assertions.now (omega arith))
