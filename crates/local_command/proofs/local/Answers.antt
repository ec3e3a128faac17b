-- `local_command::local` meets its contract. Refused by the answer for its expression, or where the name is defined; else the local is made.
-- Assumes nothing.
use mathlib.Core.Path.{◌≡◌, sym}
use mathlib.Core.Bool.{true, false, not}
use mathlib.Core.Option.{some}
use lib.Seq.{length-take-le}
use Rattle.language.specs.Text.{Text}
use Rattle.language.specs.Syntax as Syntax
use Rattle.language.specs.Values.{Session, is_defined}
use Rattle.language.proofs.StateText.Clean.{identifier_name}
use Rattle.text.specs.Meaning.{part}
use Rattle.syntax.specs.Values.{expr_meant}
use Rattle.session.specs.Sessions.{Slices, slices, Running}
use Rattle.lookup.specs.Looks.{Scoped, Sending}
use Rattle.lookup.specs.Told.{Answers}
use Rattle.lookup.proofs.Looking.{scoped, sending, copyable}
use Rattle.assignment.proofs.Assigning.{locals_lie}
use Rattle.settlement.proofs.Ending.{lent, weighed, local_effect, local_does, not_there, Does, Stores, over, stores, ends}
use borrow.Author.Rules.{rules}
use Rattle.local_command.proofs.local.Reads as reads
use Rattle.local_command.proofs.local.Lts as lts
use Rattle.assignment.proofs.declare.Reads as declare-reads
use Rattle.lookup.proofs.answer.Reads as answer-reads
use Rattle.lookup.proofs.is_defined.Reads as is-defined-reads
use Rattle.settlement.proofs.settle.Reads as settle-reads
use Rattle.settlement.proofs.verdict.Reads as verdict-reads
use Rattle.local_command.proofs.local.Goals as goal

pub answer-v-requires : goal.answer-v-requires
answer-v-requires c =
    let buffers : Slices = let a = c.args in slices a.principals.now a.principal_slots.now a.vars.now a.variable_slots.now a.locals.now a.local_slots.now a.assertions.now in
    let Runs : Session → Type 0 = λ s. Running s c.args.l buffers in
    let session-scoped : (s : Session) → Runs s → let a = c.args in Scoped s a.l a.vars.now a.variable_slots.now a.locals.now a.local_slots.now = λ s R. scoped s c.args.l buffers R in
    let session-sends : (s : Session) → Runs s → let a = c.args in Sending s a.l a.vars.now a.variable_slots.now a.assertions.now = λ s R. sending s c.args.l buffers R in
    let a = c.args in record {
      some_scoped = (
        record { session = c.requires.some_running.session; scoped = session-scoped c.requires.some_running.session c.requires.some_running.running },
        record { session = c.requires.some_running.session; sending = session-sends c.requires.some_running.session c.requires.some_running.running },
      );
      said = (c.requires.names.0.said, lent a.value.now a.labels.now c.requires.names.1.value_size c.requires.names.1.labels_size);
      copyable = copyable c.requires.some_running.session a.l buffers c.requires.some_running.running;
    }

pub is_defined-defined-requires : goal.is_defined-defined-requires
is_defined-defined-requires c =
    let buffers : Slices = let a = c.args in slices a.principals.now a.principal_slots.now a.vars.now a.variable_slots.now a.locals.now a.local_slots.now a.assertions.now in
    let Runs : Session → Type 0 = λ s. Running s c.args.l buffers in
    let session-scoped : (s : Session) → Runs s → let a = c.args in Scoped s a.l a.vars.now a.variable_slots.now a.locals.now a.local_slots.now = λ s R. scoped s c.args.l buffers R in
    record { session = c.requires.some_running.session; scoped = session-scoped c.requires.some_running.session c.requires.some_running.running }

pub slice_bounds-declare-end : goal.slice_bounds-declare-end
slice_bounds-declare-end c =
    let name_of : Text = part c.args.text.now c.args.x in
    let buffers : Slices = let a = c.args in slices a.principals.now a.principal_slots.now a.vars.now a.variable_slots.now a.locals.now a.local_slots.now a.assertions.now in
    let Runs : Session → Type 0 = λ s. Running s c.args.l buffers in
    let Says : Syntax.Expr → Type 0 = λ y. expr_meant c.args.text.now c.args.e ≡ some y in
    let session-scoped : (s : Session) → Runs s → let a = c.args in Scoped s a.l a.vars.now a.variable_slots.now a.locals.now a.local_slots.now = λ s R. scoped s c.args.l buffers R in
    let does : (s : Session) (y : Syntax.Expr) → Runs s → let x = name_of in Does s (Syntax.local x y) y (not c.is_defined-defined.result) (local_effect s x) = λ s y R. local_does s name_of y c.is_defined-defined.result (c.is_defined-defined.ensures s (session-scoped s R)) in
    let session-sends : (s : Session) → Runs s → let a = c.args in Sending s a.l a.vars.now a.variable_slots.now a.assertions.now = λ s R. sending s c.args.l buffers R in
    let answers : (s : Session) (y : Syntax.Expr) → Runs s → Says y → Answers c.answer-v.result s y c.answer-v.new.value = λ s y R m. c.answer-v.ensures s y (session-scoped s R) (session-sends s R) m in
    let stored : (s : Session) (y : Syntax.Expr) → Runs s → Says y → Stores s y (not c.is_defined-defined.result) c.answer-v.new.value c.in-Value.len c.in-Value.weight = λ s y R m. let x = name_of in
    stores s (Syntax.local x y) y (not c.is_defined-defined.result) (local_effect s x) (does s y R) c.answer-v.new.value c.answer-v.result
    (answers s y R m) c.settle.result c.settle.ensures c.in-Value.len c.in-Value.weight c.in-Value.is in
    let some_stored : Stores c.requires.some_running.session c.requires.names.0.said.expression.expression (not c.is_defined-defined.result) c.answer-v.new.value c.in-Value.len c.in-Value.weight = stored c.requires.some_running.session c.requires.names.0.said.expression.expression c.requires.some_running.running c.requires.names.0.said.expression.meant in
    some_stored.written.within

pub slice_bounds-declare-end-in-Value : goal.slice_bounds-declare-end-in-Value
slice_bounds-declare-end-in-Value c =
    let name_of : Text = part c.args.text.now c.args.x in
    let buffers : Slices = let a = c.args in slices a.principals.now a.principal_slots.now a.vars.now a.variable_slots.now a.locals.now a.local_slots.now a.assertions.now in
    let Runs : Session → Type 0 = λ s. Running s c.args.l buffers in
    let Says : Syntax.Expr → Type 0 = λ y. expr_meant c.args.text.now c.args.e ≡ some y in
    let session-scoped : (s : Session) → Runs s → let a = c.args in Scoped s a.l a.vars.now a.variable_slots.now a.locals.now a.local_slots.now = λ s R. scoped s c.args.l buffers R in
    let does : (s : Session) (y : Syntax.Expr) → Runs s → let x = name_of in Does s (Syntax.local x y) y (not c.is_defined-defined.result) (local_effect s x) = λ s y R. local_does s name_of y c.is_defined-defined.result (c.is_defined-defined.ensures s (session-scoped s R)) in
    let session-sends : (s : Session) → Runs s → let a = c.args in Sending s a.l a.vars.now a.variable_slots.now a.assertions.now = λ s R. sending s c.args.l buffers R in
    let answers : (s : Session) (y : Syntax.Expr) → Runs s → Says y → Answers c.answer-v.result s y c.answer-v.new.value = λ s y R m. c.answer-v.ensures s y (session-scoped s R) (session-sends s R) m in
    let stored : (s : Session) (y : Syntax.Expr) → Runs s → Says y → Stores s y (not c.is_defined-defined.result) c.answer-v.new.value c.in-Value.len c.in-Value.weight = λ s y R m. let x = name_of in
    stores s (Syntax.local x y) y (not c.is_defined-defined.result) (local_effect s x) (does s y R) c.answer-v.new.value c.answer-v.result
    (answers s y R m) c.settle.result c.settle.ensures c.in-Value.len c.in-Value.weight c.in-Value.is in
    let some_stored : Stores c.requires.some_running.session c.requires.names.0.said.expression.expression (not c.is_defined-defined.result) c.answer-v.new.value c.in-Value.len c.in-Value.weight = stored c.requires.some_running.session c.requires.names.0.said.expression.expression c.requires.some_running.running c.requires.names.0.said.expression.meant in
    sym (length-take-le _ _ some_stored.written.within)

pub declare-done-requires : goal.declare-done-requires
declare-done-requires c =
    let buffers : Slices = let a = c.args in slices a.principals.now a.principal_slots.now a.vars.now a.variable_slots.now a.locals.now a.local_slots.now a.assertions.now in
    let name_of : Text = part c.args.text.now c.args.x in
    let Runs : Session → Type 0 = λ s. Running s c.args.l buffers in
    let Says : Syntax.Expr → Type 0 = λ y. expr_meant c.args.text.now c.args.e ≡ some y in
    let session-scoped : (s : Session) → Runs s → let a = c.args in Scoped s a.l a.vars.now a.variable_slots.now a.locals.now a.local_slots.now = λ s R. scoped s c.args.l buffers R in
    let does : (s : Session) (y : Syntax.Expr) → Runs s → let x = name_of in Does s (Syntax.local x y) y (not c.is_defined-defined.result) (local_effect s x) = λ s y R. local_does s name_of y c.is_defined-defined.result (c.is_defined-defined.ensures s (session-scoped s R)) in
    let session-sends : (s : Session) → Runs s → let a = c.args in Sending s a.l a.vars.now a.variable_slots.now a.assertions.now = λ s R. sending s c.args.l buffers R in
    let answers : (s : Session) (y : Syntax.Expr) → Runs s → Says y → Answers c.answer-v.result s y c.answer-v.new.value = λ s y R m. c.answer-v.ensures s y (session-scoped s R) (session-sends s R) m in
    let stored : (s : Session) (y : Syntax.Expr) → Runs s → Says y → Stores s y (not c.is_defined-defined.result) c.answer-v.new.value c.in-Value.len c.in-Value.weight = λ s y R m. let x = name_of in
    stores s (Syntax.local x y) y (not c.is_defined-defined.result) (local_effect s x) (does s y R) c.answer-v.new.value c.answer-v.result
    (answers s y R m) c.settle.result c.settle.ensures c.in-Value.len c.in-Value.weight c.in-Value.is in
    let some_stored : Stores c.requires.some_running.session c.requires.names.0.said.expression.expression (not c.is_defined-defined.result) c.answer-v.new.value c.in-Value.len c.in-Value.weight = stored c.requires.some_running.session c.requires.names.0.said.expression.expression c.requires.some_running.running c.requires.names.0.said.expression.meant in
    let x = name_of in
    let H = some_stored.written in (
      record { variables = c.requires.some_running.session.locals; lies = locals_lie c.requires.some_running.session c.args.l buffers c.requires.some_running.running },
      identifier_name x c.requires.names.0.name_holds,
      record { value = H.value; is_value = weighed H },
      c.requires.some_running.running.light,
    )

pub returns-in-Over : goal.returns-in-Over
returns-in-Over c s y R m =
    let buffers : Slices = let a = c.args in slices a.principals.now a.principal_slots.now a.vars.now a.variable_slots.now a.locals.now a.local_slots.now a.assertions.now in
    let name_of : Text = part c.args.text.now c.args.x in
    let Runs : Session → Type 0 = λ s. Running s c.args.l buffers in
    let session-scoped : (s : Session) → Runs s → let a = c.args in Scoped s a.l a.vars.now a.variable_slots.now a.locals.now a.local_slots.now = λ s R. scoped s c.args.l buffers R in
    let does : (s : Session) (y : Syntax.Expr) → Runs s → let x = name_of in Does s (Syntax.local x y) y (not c.is_defined-defined.result) (local_effect s x) = λ s y R. local_does s name_of y c.is_defined-defined.result (c.is_defined-defined.ensures s (session-scoped s R)) in
    let Says : Syntax.Expr → Type 0 = λ y. expr_meant c.args.text.now c.args.e ≡ some y in
    let session-sends : (s : Session) → Runs s → let a = c.args in Sending s a.l a.vars.now a.variable_slots.now a.assertions.now = λ s R. sending s c.args.l buffers R in
    let answers : (s : Session) (y : Syntax.Expr) → Runs s → Says y → Answers c.answer-v.result s y c.answer-v.new.value = λ s y R m. c.answer-v.ensures s y (session-scoped s R) (session-sends s R) m in
    let x = name_of in
    over s (Syntax.local x y) y (not c.is_defined-defined.result) (local_effect s x) (does s y R) c.answer-v.new.value c.answer-v.result
    (answers s y R m) c.settle.result c.settle.ensures _ buffers c.in-Over.is

pub returns-in-Value : goal.returns-in-Value
returns-in-Value c s y R m =
    let name_of : Text = part c.args.text.now c.args.x in
    let buffers : Slices = let a = c.args in slices a.principals.now a.principal_slots.now a.vars.now a.variable_slots.now a.locals.now a.local_slots.now a.assertions.now in
    let Runs : Session → Type 0 = λ s. Running s c.args.l buffers in
    let session-scoped : (s : Session) → Runs s → let a = c.args in Scoped s a.l a.vars.now a.variable_slots.now a.locals.now a.local_slots.now = λ s R. scoped s c.args.l buffers R in
    let does : (s : Session) (y : Syntax.Expr) → Runs s → let x = name_of in Does s (Syntax.local x y) y (not c.is_defined-defined.result) (local_effect s x) = λ s y R. local_does s name_of y c.is_defined-defined.result (c.is_defined-defined.ensures s (session-scoped s R)) in
    let undefined : (s : Session) → Runs s → not c.is_defined-defined.result ≡ true → is_defined s name_of ≡ false = λ s R f. not_there (is_defined s name_of) c.is_defined-defined.result (c.is_defined-defined.ensures s (session-scoped s R)) f in
    let Says : Syntax.Expr → Type 0 = λ y. expr_meant c.args.text.now c.args.e ≡ some y in
    let session-sends : (s : Session) → Runs s → let a = c.args in Sending s a.l a.vars.now a.variable_slots.now a.assertions.now = λ s R. sending s c.args.l buffers R in
    let answers : (s : Session) (y : Syntax.Expr) → Runs s → Says y → Answers c.answer-v.result s y c.answer-v.new.value = λ s y R m. c.answer-v.ensures s y (session-scoped s R) (session-sends s R) m in
    let stored : (s : Session) (y : Syntax.Expr) → Runs s → Says y → Stores s y (not c.is_defined-defined.result) c.answer-v.new.value c.in-Value.len c.in-Value.weight = λ s y R m. let x = name_of in
    stores s (Syntax.local x y) y (not c.is_defined-defined.result) (local_effect s x) (does s y R) c.answer-v.new.value c.answer-v.result
    (answers s y R m) c.settle.result c.settle.ensures c.in-Value.len c.in-Value.weight c.in-Value.is in
    let a = c.args in
    let x = name_of in
    let H = stored s y R m in
    ends s (Syntax.local x y) y (not c.is_defined-defined.result) (local_effect s x) (does s y R) H c.declare-done.result c.verdict.result _ c.verdict.ensures
    (c.declare-done.ensures s a.principals.now a.principal_slots.now a.vars.now a.variable_slots.now a.assertions.now H.written.value R
    (undefined s R H.fitting) (weighed H.written))
