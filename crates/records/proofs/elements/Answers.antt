use Rattle.std.proofs.Common.{Bool, T, drop, sym, subst, ◌∙◌}
use borrow.Author.Tests.{not-true, not-false}
use Rattle.records.specs.Values.{off_element}
use Rattle.records.proofs.Values.{elements_good, elements_stuck, elements_next, element_light}
use Rattle.records.proofs.elements.Goals as goal

pub returns-in_err-i : goal.returns-in_err-i
returns-in_err-i c =
    let l = c.loop-slots in
    let on : T (off_element (drop l.i c.args.text.now)) → ⊥ = λ h. subst (λ (b : Bool). T b) (not-true (off_element (drop l.i c.args.text.now)) (sym c.goes_on.ensures ∙ c.loop-slots-test.true)) h in
    rw c.from_residual.ensures (elements_stuck c.args.text.now c.args.at c.args.w l.i l.now l.invariant.1 on c.in_err-i.ensures)

pub loop-slots-preserved : goal.loop-slots-preserved
loop-slots-preserved c =
    let l = c.loop-slots in
    let on : T (off_element (drop l.i c.args.text.now)) → ⊥ = λ h. subst (λ (b : Bool). T b) (not-true (off_element (drop l.i c.args.text.now)) (sym c.goes_on.ensures ∙ c.loop-slots-test.true)) h in (
      element_light c.args.text.now c.args.at c.args.w l.i l.now l.invariant.1 on _ _ c.in_ok-i.ensures,
      elements_next c.args.text.now c.args.at c.args.w l.i l.now l.invariant.1 on _ _ c.in_ok-i.ensures,
    )

pub returns : goal.returns
returns c =
    let l = c.loop-slots in
    elements_good c.args.text.now c.args.at c.args.w l.i l.now l.invariant.1
    (subst (λ (b : Bool). T b) (sym (not-false (off_element (drop l.i c.args.text.now)) (sym c.goes_on.ensures ∙ c.loop-slots-test.false))) tt) l.invariant.0
