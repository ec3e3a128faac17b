-- `set_command::set` meets its contract. Refused for want of a right, or by the answer for its expression; else the value is assigned.
-- Assumes nothing.
use mathlib.Core.Path.{◌≡◌, refl, sym}
use mathlib.Core.Bool.{true}
use mathlib.Core.Option.{some}
use lib.Seq.{length-take-le}
use Rattle.language.specs.Text.{Text}
use Rattle.language.specs.Syntax as Syntax
use Rattle.language.specs.Syntax.{write}
use Rattle.language.specs.Values.{Session}
use Rattle.language.proofs.StateText.Clean.{identifier_name}
use Rattle.text.specs.Meaning.{part}
use Rattle.syntax.specs.Values.{expr_meant}
use Rattle.session.specs.Sessions.{Slices, slices, Running}
use Rattle.session.proofs.Steps.{is_denied}
use Rattle.lookup.specs.Looks.{Scoped, Sending}
use Rattle.lookup.specs.Told.{Answers}
use Rattle.lookup.proofs.Looking.{scoped, sending, copyable}
use Rattle.settlement.proofs.Ending.{lent, weighed, set_effect, set_denied, set_does, Does, Stores, over, stores, ends}
use borrow.Author.Rules.{rules}
use Rattle.set_command.proofs.set.Reads as reads
use Rattle.set_command.proofs.set.Lts as lts
use Rattle.assignment.proofs.assign.Reads as assign_reads
use Rattle.lookup.proofs.answer.Reads as answer-reads
use Rattle.lookup.proofs.may_do.Reads as may-do-reads
use Rattle.settlement.proofs.settle.Reads as settle-reads
use Rattle.settlement.proofs.verdict.Reads as verdict-reads
use Rattle.set_command.proofs.set.Goals as goal

pub may_do-requires : goal.may_do-requires
may_do-requires c =
    let buffers : Slices = let a = c.args in slices a.principals.now a.principal_slots.now a.vars.now a.variable_slots.now a.locals.now a.local_slots.now a.assertions.now in
    let Runs : Session → Type 0 = λ s. Running s c.args.l buffers in
    let session-sends : (s : Session) → Runs s → let a = c.args in Sending s a.l a.vars.now a.variable_slots.now a.assertions.now = λ s R. sending s c.args.l buffers R in
    record { session = c.requires.some_running.session; sending = session-sends c.requires.some_running.session c.requires.some_running.running }

pub returns-then-not-may_do : goal.returns-then-not-may_do
returns-then-not-may_do c s y R m =
    let name_of : Text = part c.args.text.now c.args.x in
    let buffers : Slices = let a = c.args in slices a.principals.now a.principal_slots.now a.vars.now a.variable_slots.now a.locals.now a.local_slots.now a.assertions.now in
    let Runs : Session → Type 0 = λ s. Running s c.args.l buffers in
    let session-sends : (s : Session) → Runs s → let a = c.args in Sending s a.l a.vars.now a.variable_slots.now a.assertions.now = λ s R. sending s c.args.l buffers R in
    let x = name_of in
    is_denied s (Syntax.set x y)
    (set_denied s x y c.may_do.result (c.may_do.ensures s write (session-sends s R) refl) c.if-not-may_do.true-raw)

pub answer-v-requires : goal.answer-v-requires
answer-v-requires c =
    let buffers : Slices = let a = c.args in slices a.principals.now a.principal_slots.now a.vars.now a.variable_slots.now a.locals.now a.local_slots.now a.assertions.now in
    let Runs : Session → Type 0 = λ s. Running s c.args.l buffers in
    let session-scoped : (s : Session) → Runs s → let a = c.args in Scoped s a.l a.vars.now a.variable_slots.now a.locals.now a.local_slots.now = λ s R. scoped s c.args.l buffers R in
    let session-sends : (s : Session) → Runs s → let a = c.args in Sending s a.l a.vars.now a.variable_slots.now a.assertions.now = λ s R. sending s c.args.l buffers R in
    let a = c.args in record {
      some_scoped = (
        record { session = c.requires.some_running.session; scoped = session-scoped c.requires.some_running.session c.requires.some_running.running },
        record { session = c.requires.some_running.session; sending = session-sends c.requires.some_running.session c.requires.some_running.running },
      );
      said = (c.requires.names.0.said, lent a.value.now a.labels.now c.requires.names.1.value_size c.requires.names.1.labels_size);
      copyable = copyable c.requires.some_running.session a.l buffers c.requires.some_running.running;
    }

pub slice_bounds-assign-end : goal.slice_bounds-assign-end
slice_bounds-assign-end c =
    let name_of : Text = part c.args.text.now c.args.x in
    let buffers : Slices = let a = c.args in slices a.principals.now a.principal_slots.now a.vars.now a.variable_slots.now a.locals.now a.local_slots.now a.assertions.now in
    let Runs : Session → Type 0 = λ s. Running s c.args.l buffers in
    let Says : Syntax.Expr → Type 0 = λ y. expr_meant c.args.text.now c.args.e ≡ some y in
    let session-sends : (s : Session) → Runs s → let a = c.args in Sending s a.l a.vars.now a.variable_slots.now a.assertions.now = λ s R. sending s c.args.l buffers R in
    let does : (s : Session) (y : Syntax.Expr) → Runs s → let x = name_of in Does s (Syntax.set x y) y true (set_effect s x) = λ s y R. set_does s name_of y c.may_do.result (c.may_do.ensures s write (session-sends s R) refl) c.if-not-may_do.false-raw in
    let session-scoped : (s : Session) → Runs s → let a = c.args in Scoped s a.l a.vars.now a.variable_slots.now a.locals.now a.local_slots.now = λ s R. scoped s c.args.l buffers R in
    let answers : (s : Session) (y : Syntax.Expr) → Runs s → Says y → Answers c.answer-v.result s y c.answer-v.new.value = λ s y R m. c.answer-v.ensures s y (session-scoped s R) (session-sends s R) m in
    let stored : (s : Session) (y : Syntax.Expr) → Runs s → Says y → Stores s y true c.answer-v.new.value c.in-Value.len c.in-Value.weight = λ s y R m. let x = name_of in
    stores s (Syntax.set x y) y true (set_effect s x) (does s y R) c.answer-v.new.value c.answer-v.result
    (answers s y R m) c.settle.result c.settle.ensures c.in-Value.len c.in-Value.weight c.in-Value.is in
    let some_stored : Stores c.requires.some_running.session c.requires.names.0.said.expression.expression true c.answer-v.new.value c.in-Value.len c.in-Value.weight = stored c.requires.some_running.session c.requires.names.0.said.expression.expression c.requires.some_running.running c.requires.names.0.said.expression.meant in
    some_stored.written.within

pub slice_bounds-assign-end-in-Value : goal.slice_bounds-assign-end-in-Value
slice_bounds-assign-end-in-Value c =
    let name_of : Text = part c.args.text.now c.args.x in
    let buffers : Slices = let a = c.args in slices a.principals.now a.principal_slots.now a.vars.now a.variable_slots.now a.locals.now a.local_slots.now a.assertions.now in
    let Runs : Session → Type 0 = λ s. Running s c.args.l buffers in
    let Says : Syntax.Expr → Type 0 = λ y. expr_meant c.args.text.now c.args.e ≡ some y in
    let session-sends : (s : Session) → Runs s → let a = c.args in Sending s a.l a.vars.now a.variable_slots.now a.assertions.now = λ s R. sending s c.args.l buffers R in
    let does : (s : Session) (y : Syntax.Expr) → Runs s → let x = name_of in Does s (Syntax.set x y) y true (set_effect s x) = λ s y R. set_does s name_of y c.may_do.result (c.may_do.ensures s write (session-sends s R) refl) c.if-not-may_do.false-raw in
    let session-scoped : (s : Session) → Runs s → let a = c.args in Scoped s a.l a.vars.now a.variable_slots.now a.locals.now a.local_slots.now = λ s R. scoped s c.args.l buffers R in
    let answers : (s : Session) (y : Syntax.Expr) → Runs s → Says y → Answers c.answer-v.result s y c.answer-v.new.value = λ s y R m. c.answer-v.ensures s y (session-scoped s R) (session-sends s R) m in
    let stored : (s : Session) (y : Syntax.Expr) → Runs s → Says y → Stores s y true c.answer-v.new.value c.in-Value.len c.in-Value.weight = λ s y R m. let x = name_of in
    stores s (Syntax.set x y) y true (set_effect s x) (does s y R) c.answer-v.new.value c.answer-v.result
    (answers s y R m) c.settle.result c.settle.ensures c.in-Value.len c.in-Value.weight c.in-Value.is in
    let some_stored : Stores c.requires.some_running.session c.requires.names.0.said.expression.expression true c.answer-v.new.value c.in-Value.len c.in-Value.weight = stored c.requires.some_running.session c.requires.names.0.said.expression.expression c.requires.some_running.running c.requires.names.0.said.expression.meant in
    sym (length-take-le _ _ some_stored.written.within)

pub assign-done-requires : goal.assign-done-requires
assign-done-requires c =
    let name_of : Text = part c.args.text.now c.args.x in
    let buffers : Slices = let a = c.args in slices a.principals.now a.principal_slots.now a.vars.now a.variable_slots.now a.locals.now a.local_slots.now a.assertions.now in
    let Runs : Session → Type 0 = λ s. Running s c.args.l buffers in
    let Says : Syntax.Expr → Type 0 = λ y. expr_meant c.args.text.now c.args.e ≡ some y in
    let session-sends : (s : Session) → Runs s → let a = c.args in Sending s a.l a.vars.now a.variable_slots.now a.assertions.now = λ s R. sending s c.args.l buffers R in
    let does : (s : Session) (y : Syntax.Expr) → Runs s → let x = name_of in Does s (Syntax.set x y) y true (set_effect s x) = λ s y R. set_does s name_of y c.may_do.result (c.may_do.ensures s write (session-sends s R) refl) c.if-not-may_do.false-raw in
    let session-scoped : (s : Session) → Runs s → let a = c.args in Scoped s a.l a.vars.now a.variable_slots.now a.locals.now a.local_slots.now = λ s R. scoped s c.args.l buffers R in
    let answers : (s : Session) (y : Syntax.Expr) → Runs s → Says y → Answers c.answer-v.result s y c.answer-v.new.value = λ s y R m. c.answer-v.ensures s y (session-scoped s R) (session-sends s R) m in
    let stored : (s : Session) (y : Syntax.Expr) → Runs s → Says y → Stores s y true c.answer-v.new.value c.in-Value.len c.in-Value.weight = λ s y R m. let x = name_of in
    stores s (Syntax.set x y) y true (set_effect s x) (does s y R) c.answer-v.new.value c.answer-v.result
    (answers s y R m) c.settle.result c.settle.ensures c.in-Value.len c.in-Value.weight c.in-Value.is in
    let some_stored : Stores c.requires.some_running.session c.requires.names.0.said.expression.expression true c.answer-v.new.value c.in-Value.len c.in-Value.weight = stored c.requires.some_running.session c.requires.names.0.said.expression.expression c.requires.some_running.running c.requires.names.0.said.expression.meant in
    let H = some_stored.written in record {
      some_running = c.requires.some_running;
      t = (identifier_name name_of c.requires.names.0.name_holds, record { value = H.value; is_value = weighed H });
    }

pub returns-in-Over : goal.returns-in-Over
returns-in-Over c s y R m =
    let buffers : Slices = let a = c.args in slices a.principals.now a.principal_slots.now a.vars.now a.variable_slots.now a.locals.now a.local_slots.now a.assertions.now in
    let name_of : Text = part c.args.text.now c.args.x in
    let Runs : Session → Type 0 = λ s. Running s c.args.l buffers in
    let session-sends : (s : Session) → Runs s → let a = c.args in Sending s a.l a.vars.now a.variable_slots.now a.assertions.now = λ s R. sending s c.args.l buffers R in
    let does : (s : Session) (y : Syntax.Expr) → Runs s → let x = name_of in Does s (Syntax.set x y) y true (set_effect s x) = λ s y R. set_does s name_of y c.may_do.result (c.may_do.ensures s write (session-sends s R) refl) c.if-not-may_do.false-raw in
    let Says : Syntax.Expr → Type 0 = λ y. expr_meant c.args.text.now c.args.e ≡ some y in
    let session-scoped : (s : Session) → Runs s → let a = c.args in Scoped s a.l a.vars.now a.variable_slots.now a.locals.now a.local_slots.now = λ s R. scoped s c.args.l buffers R in
    let answers : (s : Session) (y : Syntax.Expr) → Runs s → Says y → Answers c.answer-v.result s y c.answer-v.new.value = λ s y R m. c.answer-v.ensures s y (session-scoped s R) (session-sends s R) m in
    let x = name_of in
    over s (Syntax.set x y) y true (set_effect s x) (does s y R) c.answer-v.new.value c.answer-v.result
    (answers s y R m) c.settle.result c.settle.ensures _ buffers c.in-Over.is

pub returns-in-Value : goal.returns-in-Value
returns-in-Value c s y R m =
    let name_of : Text = part c.args.text.now c.args.x in
    let buffers : Slices = let a = c.args in slices a.principals.now a.principal_slots.now a.vars.now a.variable_slots.now a.locals.now a.local_slots.now a.assertions.now in
    let Runs : Session → Type 0 = λ s. Running s c.args.l buffers in
    let session-sends : (s : Session) → Runs s → let a = c.args in Sending s a.l a.vars.now a.variable_slots.now a.assertions.now = λ s R. sending s c.args.l buffers R in
    let does : (s : Session) (y : Syntax.Expr) → Runs s → let x = name_of in Does s (Syntax.set x y) y true (set_effect s x) = λ s y R. set_does s name_of y c.may_do.result (c.may_do.ensures s write (session-sends s R) refl) c.if-not-may_do.false-raw in
    let Says : Syntax.Expr → Type 0 = λ y. expr_meant c.args.text.now c.args.e ≡ some y in
    let session-scoped : (s : Session) → Runs s → let a = c.args in Scoped s a.l a.vars.now a.variable_slots.now a.locals.now a.local_slots.now = λ s R. scoped s c.args.l buffers R in
    let answers : (s : Session) (y : Syntax.Expr) → Runs s → Says y → Answers c.answer-v.result s y c.answer-v.new.value = λ s y R m. c.answer-v.ensures s y (session-scoped s R) (session-sends s R) m in
    let stored : (s : Session) (y : Syntax.Expr) → Runs s → Says y → Stores s y true c.answer-v.new.value c.in-Value.len c.in-Value.weight = λ s y R m. let x = name_of in
    stores s (Syntax.set x y) y true (set_effect s x) (does s y R) c.answer-v.new.value c.answer-v.result
    (answers s y R m) c.settle.result c.settle.ensures c.in-Value.len c.in-Value.weight c.in-Value.is in
    let x = name_of in
    let H = stored s y R m in
    ends s (Syntax.set x y) y true (set_effect s x) (does s y R) H c.assign-done.result c.verdict.result _ c.verdict.ensures
    (c.assign-done.ensures s H.written.value R (weighed H.written))
