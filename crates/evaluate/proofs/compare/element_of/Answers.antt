-- `evaluate::compare::element_of` meets its contract. Nothing read is no element; else it is as the value says.
-- Assumes nothing.
use mathlib.Core.Path.{sym, ap, subst}
use mathlib.Core.Option.{Option}
use Rattle.language.specs.State.{Element}
use Rattle.equality.specs.Elements.{ElementIn, element_of}
use Rattle.evaluate.proofs.Found.{nothing_read, something_read, value_text_lem}
use Rattle.evaluate.proofs.compare.element_of.Goals as goal

pub returns-then-value-eq0 : goal.returns-then-value-eq0
returns-then-value-eq0 c o r = ap element_of (nothing_read o c.args.value.now r c.if-value-eq0.true)

pub element_in-requires : goal.element_in-requires
element_in-requires c = value_text_lem c.requires.value c.args.value.now c.requires.held c.if-value-eq0.false

pub returns : goal.returns
returns c o r =
    let a = c.args in
    let S = something_read o a.value.now r c.if-value-eq0.false in
    subst (λ (e : Option Element). ElementIn e a.value.now c.element_in.result) (ap element_of (sym S.is_value)) (c.element_in.ensures S.value S.held)
