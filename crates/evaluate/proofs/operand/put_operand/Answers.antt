-- `evaluate::operand::put_operand` meets its contract. One arm for each operand. A name is read, and its value is written; a field of it is looked for; a string stands in the program.
-- Assumes nothing.
use mathlib.Core.Path.{sym, ap, subst, ◌∙◌}
use native.Mathlib.Omega.{arith}
use lib.Dec.{T}
use mathlib.Core.Option.{Option}
use Rattle.language.specs.State.{Value}
use Rattle.language.specs.Values.{Session, lookup}
use Rattle.language.proofs.Parsing.ValidPrograms.{valid_operand}
use Rattle.text.specs.Meaning.{Within, part}
use Rattle.syntax.specs.declared.Operand.{Operand}
use Rattle.syntax.specs.Values.{operand_meant, OperandWithin}
use Rattle.store.proofs.Holders.{some_variables}
use Rattle.scopes.specs.Scopes.{Scope, ReadAs}
use Rattle.evaluated.specs.Weighed.{by_weight}
use Rattle.evaluated.specs.Results.{MaybeString, Valued, string_value}
use Rattle.evaluate.proofs.Found.{read_name, field_read, dot_value, valued_as}
use Rattle.evaluate.proofs.operand.put_operand.Goals as goal

pub slice_bounds-read-count : goal.slice_bounds-read-count
slice_bounds-read-count c =
    let within-name : Within c.args.text.now c.in-Name.x = subst (OperandWithin c.args.text.now) c.in-Name.is c.requires.operand_within.0 in
    let w = within-name in omega (arith, w.0, w.1)

pub slice_bounds-read-start : goal.slice_bounds-read-start
slice_bounds-read-start c =
    let within-name : Within c.args.text.now c.in-Name.x = subst (OperandWithin c.args.text.now) c.in-Name.is c.requires.operand_within.0 in
    let w = within-name in omega (arith, w.0, w.1)

pub slice_bounds-read-end : goal.slice_bounds-read-end
slice_bounds-read-end c =
    let within-name : Within c.args.text.now c.in-Name.x = subst (OperandWithin c.args.text.now) c.in-Name.is c.requires.operand_within.0 in
    let w = within-name in omega (arith, w.0, w.1)

pub read-value-requires : goal.read-value-requires
read-value-requires c = (some_variables _ _ _ _ c.requires.some_scope.scope.shared_held, some_variables _ _ _ _ c.requires.some_scope.scope.locals_held)

pub put_value-requires : goal.put_value-requires
put_value-requires c =
    let name-read : (s : Session) → let a = c.args in Scope s a.shared.now a.slots.now a.count a.locals.now a.lslots.now a.lcount → ReadAs (lookup s (part a.text.now c.in-Name.x)) c.read-value.result.now = λ s S. read_name S (part c.args.text.now c.in-Name.x) c.read-value.result.now (c.read-value.ensures s.store.variables s.locals S.shared_held S.locals_held) in
    (record { value = lookup c.requires.some_scope.session (part c.args.text.now c.in-Name.x); held = name-read c.requires.some_scope.session c.requires.some_scope.scope }, c.requires.in_bounds)

pub slice_bounds-read-count-in-Field : goal.slice_bounds-read-count-in-Field
slice_bounds-read-count-in-Field c =
    let within-dot : Within c.args.text.now c.in-Field.x × Within c.args.text.now c.in-Field.y = subst (OperandWithin c.args.text.now) c.in-Field.is c.requires.operand_within.0 in
    let w = within-dot.0 in omega (arith, w.0, w.1)

pub slice_bounds-read-start-in-Field : goal.slice_bounds-read-start-in-Field
slice_bounds-read-start-in-Field c =
    let within-dot : Within c.args.text.now c.in-Field.x × Within c.args.text.now c.in-Field.y = subst (OperandWithin c.args.text.now) c.in-Field.is c.requires.operand_within.0 in
    let w = within-dot.0 in omega (arith, w.0, w.1)

pub slice_bounds-read-end-in-Field : goal.slice_bounds-read-end-in-Field
slice_bounds-read-end-in-Field c =
    let within-dot : Within c.args.text.now c.in-Field.x × Within c.args.text.now c.in-Field.y = subst (OperandWithin c.args.text.now) c.in-Field.is c.requires.operand_within.0 in
    let w = within-dot.0 in omega (arith, w.0, w.1)

pub read-value-requires-in-Field : goal.read-value-requires-in-Field
read-value-requires-in-Field c = (some_variables _ _ _ _ c.requires.some_scope.scope.shared_held, some_variables _ _ _ _ c.requires.some_scope.scope.locals_held)

pub slice_bounds-field_of-count : goal.slice_bounds-field_of-count
slice_bounds-field_of-count c =
    let within-dot : Within c.args.text.now c.in-Field.x × Within c.args.text.now c.in-Field.y = subst (OperandWithin c.args.text.now) c.in-Field.is c.requires.operand_within.0 in
    let w = within-dot.1 in omega (arith, w.0, w.1)

pub slice_bounds-field_of-start : goal.slice_bounds-field_of-start
slice_bounds-field_of-start c =
    let within-dot : Within c.args.text.now c.in-Field.x × Within c.args.text.now c.in-Field.y = subst (OperandWithin c.args.text.now) c.in-Field.is c.requires.operand_within.0 in
    let w = within-dot.1 in omega (arith, w.0, w.1)

pub slice_bounds-field_of-end : goal.slice_bounds-field_of-end
slice_bounds-field_of-end c =
    let within-dot : Within c.args.text.now c.in-Field.x × Within c.args.text.now c.in-Field.y = subst (OperandWithin c.args.text.now) c.in-Field.is c.requires.operand_within.0 in
    let w = within-dot.1 in omega (arith, w.0, w.1)

pub field_of-found-requires : goal.field_of-found-requires
field_of-found-requires c =
    let dot-read : (s : Session) → let a = c.args in Scope s a.shared.now a.slots.now a.count a.locals.now a.lslots.now a.lcount → ReadAs (lookup s (part a.text.now c.in-Field.x)) c.read-value-in-Field.result.now = λ s S. read_name S (part c.args.text.now c.in-Field.x) c.read-value-in-Field.result.now (c.read-value-in-Field.ensures s.store.variables s.locals S.shared_held S.locals_held) in
    record { value = lookup c.requires.some_scope.session (part c.args.text.now c.in-Field.x); held = dot-read c.requires.some_scope.session c.requires.some_scope.scope }

pub put_found-requires : goal.put_found-requires
put_found-requires c =
    let dot-read : (s : Session) → let a = c.args in Scope s a.shared.now a.slots.now a.count a.locals.now a.lslots.now a.lcount → ReadAs (lookup s (part a.text.now c.in-Field.x)) c.read-value-in-Field.result.now = λ s S. read_name S (part c.args.text.now c.in-Field.x) c.read-value-in-Field.result.now (c.read-value-in-Field.ensures s.store.variables s.locals S.shared_held S.locals_held) in
    let o = lookup c.requires.some_scope.session (part c.args.text.now c.in-Field.x) in
    let R = dot-read c.requires.some_scope.session c.requires.some_scope.scope in
    let y = part c.args.text.now c.in-Field.y in
    (c.field_of-found.ensures.placed, subst MaybeString (sym (c.field_of-found.ensures.meant o R)) (field_read o y c.read-value-in-Field.result.now R), c.requires.in_bounds)

pub slice_bounds-put_text-count : goal.slice_bounds-put_text-count
slice_bounds-put_text-count c =
    let within-quoted : Within c.args.text.now c.in-Quoted.q = subst (OperandWithin c.args.text.now) c.in-Quoted.is c.requires.operand_within.0 in
    let w = within-quoted in omega (arith, w.0, w.1)

pub slice_bounds-put_text-start : goal.slice_bounds-put_text-start
slice_bounds-put_text-start c =
    let within-quoted : Within c.args.text.now c.in-Quoted.q = subst (OperandWithin c.args.text.now) c.in-Quoted.is c.requires.operand_within.0 in
    let w = within-quoted in omega (arith, w.0, w.1)

pub slice_bounds-put_text-end : goal.slice_bounds-put_text-end
slice_bounds-put_text-end c =
    let within-quoted : Within c.args.text.now c.in-Quoted.q = subst (OperandWithin c.args.text.now) c.in-Quoted.is c.requires.operand_within.0 in
    let w = within-quoted in omega (arith, w.0, w.1)

pub put_text-requires : goal.put_text-requires
put_text-requires c = (subst (λ (o : Operand). T (valid_operand (operand_meant c.args.text.now o))) c.in-Quoted.is c.requires.operand_within.1, c.requires.in_bounds)

pub returns-in-Name : goal.returns-in-Name
returns-in-Name c s S =
    let name-read : (s : Session) → let a = c.args in Scope s a.shared.now a.slots.now a.count a.locals.now a.lslots.now a.lcount → ReadAs (lookup s (part a.text.now c.in-Name.x)) c.read-value.result.now = λ s S. read_name S (part c.args.text.now c.in-Name.x) c.read-value.result.now (c.read-value.ensures s.store.variables s.locals S.shared_held S.locals_held) in
    valued_as c.put_value.result s c.args.text.now c.put_value.new.out c.in-Name.is
    (c.put_value.ensures (lookup s (part c.args.text.now c.in-Name.x)) (name-read s S))

pub returns-in-Field : goal.returns-in-Field
returns-in-Field c s S =
    let dot-read : (s : Session) → let a = c.args in Scope s a.shared.now a.slots.now a.count a.locals.now a.lslots.now a.lcount → ReadAs (lookup s (part a.text.now c.in-Field.x)) c.read-value-in-Field.result.now = λ s S. read_name S (part c.args.text.now c.in-Field.x) c.read-value-in-Field.result.now (c.read-value-in-Field.ensures s.store.variables s.locals S.shared_held S.locals_held) in
    let x = part c.args.text.now c.in-Field.x in
    let y = part c.args.text.now c.in-Field.y in
    let e = ap string_value (c.field_of-found.ensures.meant (lookup s x) (dot-read s S)) ∙ dot_value s x y in
    valued_as c.put_found.result s c.args.text.now c.put_found.new.out c.in-Field.is
    (subst (λ (o : Option Value). Valued c.put_found.result (by_weight o) c.put_found.new.out) e c.put_found.ensures)

pub returns-in-Quoted : goal.returns-in-Quoted
returns-in-Quoted c s S = valued_as c.put_text.result s c.args.text.now c.put_text.new.out c.in-Quoted.is c.put_text.ensures
