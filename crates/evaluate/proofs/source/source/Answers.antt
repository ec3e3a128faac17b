-- `evaluate::source::source` meets its contract. What reading the name gives, or the program's text.
-- Assumes nothing.
use mathlib.Core.Path.{◌≡◌, refl, sym, subst}
use native.Mathlib.Omega.{arith}
use Rattle.language.specs.Text.{Text}
use Rattle.language.specs.Values.{Session}
use Rattle.text.specs.Meaning.{Within, part}
use Rattle.syntax.specs.declared.Operand.{Operand}
use Rattle.syntax.specs.Values.{OperandWithin}
use Rattle.store.proofs.Holders.{some_variables}
use Rattle.scopes.specs.Scopes.{SourceOf}
use Rattle.evaluate.proofs.Found.{read_name}
use Rattle.evaluate.proofs.source.source.Goals as goal

pub slice_bounds-read-count : goal.slice_bounds-read-count
slice_bounds-read-count c =
    let within-name : Within c.args.text.now c.in-Name.x = subst (OperandWithin c.args.text.now) c.in-Name.is c.requires.1 in
    let w = within-name in omega (arith, w.0, w.1)

pub slice_bounds-read-start : goal.slice_bounds-read-start
slice_bounds-read-start c =
    let within-name : Within c.args.text.now c.in-Name.x = subst (OperandWithin c.args.text.now) c.in-Name.is c.requires.1 in
    let w = within-name in omega (arith, w.0, w.1)

pub slice_bounds-read-end : goal.slice_bounds-read-end
slice_bounds-read-end c =
    let within-name : Within c.args.text.now c.in-Name.x = subst (OperandWithin c.args.text.now) c.in-Name.is c.requires.1 in
    let w = within-name in omega (arith, w.0, w.1)

pub read-requires : goal.read-requires
read-requires c = let P = c.requires.0 in (some_variables _ _ _ _ P.scope.shared_held, some_variables _ _ _ _ P.scope.locals_held)

pub slice_bounds-read-count-in-Field : goal.slice_bounds-read-count-in-Field
slice_bounds-read-count-in-Field c =
    let within-dot : Within c.args.text.now c.in-Field.x × Within c.args.text.now c.in-Field.field-1 = subst (OperandWithin c.args.text.now) c.in-Field.is c.requires.1 in
    let w = within-dot.0 in omega (arith, w.0, w.1)

pub slice_bounds-read-start-in-Field : goal.slice_bounds-read-start-in-Field
slice_bounds-read-start-in-Field c =
    let within-dot : Within c.args.text.now c.in-Field.x × Within c.args.text.now c.in-Field.field-1 = subst (OperandWithin c.args.text.now) c.in-Field.is c.requires.1 in
    let w = within-dot.0 in omega (arith, w.0, w.1)

pub slice_bounds-read-end-in-Field : goal.slice_bounds-read-end-in-Field
slice_bounds-read-end-in-Field c =
    let within-dot : Within c.args.text.now c.in-Field.x × Within c.args.text.now c.in-Field.field-1 = subst (OperandWithin c.args.text.now) c.in-Field.is c.requires.1 in
    let w = within-dot.0 in omega (arith, w.0, w.1)

pub read-requires-in-Field : goal.read-requires-in-Field
read-requires-in-Field c = let P = c.requires.0 in (some_variables _ _ _ _ P.scope.shared_held, some_variables _ _ _ _ P.scope.locals_held)

pub returns-in-Name : goal.returns-in-Name
returns-in-Name c s S =
    let source-as : (s : Session) (u : Text) (v : Operand) → c.args.v ≡ v → SourceOf s c.args.text.now v u → SourceOf s c.args.text.now c.args.v u = λ s u v e h. subst (λ (v : Operand). SourceOf s c.args.text.now v u) (sym e) h in
    source-as s c.read.result.now _ c.in-Name.is
    (read_name S (part c.args.text.now c.in-Name.x) c.read.result.now (c.read.ensures s.store.variables s.locals S.shared_held S.locals_held))

pub returns-in-Field : goal.returns-in-Field
returns-in-Field c s S =
    let source-as : (s : Session) (u : Text) (v : Operand) → c.args.v ≡ v → SourceOf s c.args.text.now v u → SourceOf s c.args.text.now c.args.v u = λ s u v e h. subst (λ (v : Operand). SourceOf s c.args.text.now v u) (sym e) h in
    source-as s c.read-in-Field.result.now _ c.in-Field.is
    (read_name S (part c.args.text.now c.in-Field.x) c.read-in-Field.result.now (c.read-in-Field.ensures s.store.variables s.locals S.shared_held S.locals_held))

pub returns-in-Quoted : goal.returns-in-Quoted
returns-in-Quoted c s S =
    let source-as : (s : Session) (u : Text) (v : Operand) → c.args.v ≡ v → SourceOf s c.args.text.now v u → SourceOf s c.args.text.now c.args.v u = λ s u v e h. subst (λ (v : Operand). SourceOf s c.args.text.now v u) (sym e) h in
    source-as s c.args.text.now _ c.in-Quoted.is refl
