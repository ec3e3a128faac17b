-- `evaluate::compare::element_at` meets its contract. One arm for each operand.
-- Assumes nothing.
use mathlib.Core.Path.{◌≡◌, sym, ap, subst}
use native.Mathlib.Omega.{arith}
use mathlib.Core.Option.{some}
use Rattle.language.specs.Text.{Text}
use Rattle.language.specs.State.{string}
use Rattle.language.specs.Values.{Session, lookup, operand_value}
use Rattle.text.specs.Meaning.{Within, part}
use Rattle.syntax.specs.declared.Operand.{Operand}
use Rattle.syntax.specs.declared.Operand.TheVariants as Of
use Rattle.syntax.specs.Values.{operand_meant, OperandWithin}
use Rattle.equality.specs.declared.Compared.{Compared}
use Rattle.equality.specs.declared.Compared.TheVariants as Is
use Rattle.equality.specs.Elements.{ElementIn, element_of}
use Rattle.scopes.specs.Scopes.{SourceOf}
use Rattle.evaluate.proofs.Comparing.{dot_element}
use Rattle.evaluate.proofs.compare.element_at.Goals as goal

pub element_of-requires : goal.element_of-requires
element_of-requires c =
    let source-as : (s : Session) (v : Operand) → c.args.v ≡ v → SourceOf s c.args.text.now c.args.v c.args.source.now → SourceOf s c.args.text.now v c.args.source.now = λ s v e h. subst (λ (v : Operand). SourceOf s c.args.text.now v c.args.source.now) e h in
    let P = c.requires.0 in
    record { value = lookup P.session (part c.args.text.now c.in-Name.field-0); held = source-as P.session _ c.in-Name.is P.held }

pub slice_bounds-field_of-count : goal.slice_bounds-field_of-count
slice_bounds-field_of-count c =
    let within-dot : Within c.args.text.now c.in-Field.y = (subst (OperandWithin c.args.text.now) c.in-Field.is c.requires.1).1 in
    let w = within-dot in omega (arith, w.0, w.1)

pub slice_bounds-field_of-start : goal.slice_bounds-field_of-start
slice_bounds-field_of-start c =
    let within-dot : Within c.args.text.now c.in-Field.y = (subst (OperandWithin c.args.text.now) c.in-Field.is c.requires.1).1 in
    let w = within-dot in omega (arith, w.0, w.1)

pub slice_bounds-field_of-end : goal.slice_bounds-field_of-end
slice_bounds-field_of-end c =
    let within-dot : Within c.args.text.now c.in-Field.y = (subst (OperandWithin c.args.text.now) c.in-Field.is c.requires.1).1 in
    let w = within-dot in omega (arith, w.0, w.1)

pub field_of-found-requires : goal.field_of-found-requires
field_of-found-requires c =
    let source-as : (s : Session) (v : Operand) → c.args.v ≡ v → SourceOf s c.args.text.now c.args.v c.args.source.now → SourceOf s c.args.text.now v c.args.source.now = λ s v e h. subst (λ (v : Operand). SourceOf s c.args.text.now v c.args.source.now) e h in
    let P = c.requires.0 in
    record { value = lookup P.session (part c.args.text.now c.in-Field.field-0); held = source-as P.session _ c.in-Field.is P.held }

pub returns-in-Name : goal.returns-in-Name
returns-in-Name c s h =
    let source-as : (s : Session) (v : Operand) → c.args.v ≡ v → SourceOf s c.args.text.now c.args.v c.args.source.now → SourceOf s c.args.text.now v c.args.source.now = λ s v e h. subst (λ (v : Operand). SourceOf s c.args.text.now v c.args.source.now) e h in
    let element-as : (s : Session) (r : Compared) (v : Operand) → c.args.v ≡ v → ElementIn (element_of (operand_value s (operand_meant c.args.text.now v))) c.args.source.now r → ElementIn (element_of (operand_value s (operand_meant c.args.text.now c.args.v))) c.args.source.now r = λ s r v e h. subst (λ (v : Operand). ElementIn (element_of (operand_value s (operand_meant c.args.text.now v))) c.args.source.now r) (sym e) h in
    element-as s c.element_of.result _ c.in-Name.is (c.element_of.ensures (lookup s (part c.args.text.now c.in-Name.field-0)) (source-as s _ c.in-Name.is h))

pub returns-in-Field : goal.returns-in-Field
returns-in-Field c s h =
    let source-as : (s : Session) (v : Operand) → c.args.v ≡ v → SourceOf s c.args.text.now c.args.v c.args.source.now → SourceOf s c.args.text.now v c.args.source.now = λ s v e h. subst (λ (v : Operand). SourceOf s c.args.text.now v c.args.source.now) e h in
    let element-as : (s : Session) (r : Compared) (v : Operand) → c.args.v ≡ v → ElementIn (element_of (operand_value s (operand_meant c.args.text.now v))) c.args.source.now r → ElementIn (element_of (operand_value s (operand_meant c.args.text.now c.args.v))) c.args.source.now r = λ s r v e h. subst (λ (v : Operand). ElementIn (element_of (operand_value s (operand_meant c.args.text.now v))) c.args.source.now r) (sym e) h in
    let a = c.args in
    let x = part a.text.now c.in-Field.field-0 in
    let y = part a.text.now c.in-Field.y in
    element-as s c.text_found.result _ c.in-Field.is
    (subst (ElementIn (element_of (operand_value s (operand_meant a.text.now (Of.Field c.in-Field.field-0 c.in-Field.y)))) a.source.now) (sym c.text_found.ensures)
    (dot_element s x y a.source.now c.field_of-found.result (c.field_of-found.ensures.meant (lookup s x) (source-as s _ c.in-Field.is h)) c.field_of-found.ensures.placed))

pub returns-in-Quoted : goal.returns-in-Quoted
returns-in-Quoted c s h =
    let source-as : (s : Session) (v : Operand) → c.args.v ≡ v → SourceOf s c.args.text.now c.args.v c.args.source.now → SourceOf s c.args.text.now v c.args.source.now = λ s v e h. subst (λ (v : Operand). SourceOf s c.args.text.now v c.args.source.now) e h in
    let element-as : (s : Session) (r : Compared) (v : Operand) → c.args.v ≡ v → ElementIn (element_of (operand_value s (operand_meant c.args.text.now v))) c.args.source.now r → ElementIn (element_of (operand_value s (operand_meant c.args.text.now c.args.v))) c.args.source.now r = λ s r v e h. subst (λ (v : Operand). ElementIn (element_of (operand_value s (operand_meant c.args.text.now v))) c.args.source.now r) (sym e) h in
    let a = c.args in
    let e = source-as s _ c.in-Quoted.is h in
    element-as s (Is.Text c.in-Quoted.q) _ c.in-Quoted.is
    (ap (λ (u : Text). some (string (part u c.in-Quoted.q))) (sym e), subst (λ (u : Text). Within u c.in-Quoted.q) (sym e) (subst (OperandWithin a.text.now) c.in-Quoted.is c.requires.1))
