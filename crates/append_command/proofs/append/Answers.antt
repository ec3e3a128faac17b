-- `append_command::append` meets its contract. Refused for want of a right, or by the answer for its expression and for want of a list; else the list is extended.
-- Assumes nothing.
use mathlib.Core.Path.{◌≡◌, sym}
use mathlib.Core.Bool.{true}
use mathlib.Core.Option.{some}
use lib.Seq.{length-take-le}
use Rattle.language.specs.Text.{Text}
use Rattle.language.specs.State.{list}
use Rattle.language.specs.Syntax as Syntax
use Rattle.language.specs.Values.{Session, lookup}
use Rattle.language.proofs.StateText.Clean.{identifier_name}
use Rattle.text.specs.Meaning.{part}
use Rattle.syntax.specs.Values.{expr_meant}
use Rattle.session.specs.Sessions.{Slices, slices, Running}
use Rattle.session.proofs.Steps.{is_denied}
use Rattle.lookup.specs.Looks.{Scoped, Sending}
use Rattle.lookup.specs.Told.{Answers}
use Rattle.lookup.proofs.Looking.{scoped, sending, copyable}
use Rattle.settlement.proofs.Ending.{lent, weighed, append_effect, append_denied, append_does, elements_of, listed, Does, Stores, over, stores, ends}
use borrow.Author.Rules.{rules}
use Rattle.append_command.proofs.append.Reads as reads
use Rattle.append_command.proofs.append.Lts as lts
use Rattle.extension.proofs.join.Reads as join-reads
use Rattle.lookup.proofs.answer.Reads as answer-reads
use Rattle.lookup.proofs.is_list.Reads as is-list-reads
use Rattle.lookup.proofs.may_append.Reads as may-append-reads
use Rattle.settlement.proofs.settle.Reads as settle-reads
use Rattle.settlement.proofs.verdict.Reads as verdict-reads
use Rattle.append_command.proofs.append.Goals as goal

pub may_append-requires : goal.may_append-requires
may_append-requires c =
    let buffers : Slices = let a = c.args in slices a.principals.now a.principal_slots.now a.vars.now a.variable_slots.now a.locals.now a.local_slots.now a.assertions.now in
    let Runs : Session → Type 0 = λ s. Running s c.args.l buffers in
    let session-sends : (s : Session) → Runs s → let a = c.args in Sending s a.l a.vars.now a.variable_slots.now a.assertions.now = λ s R. sending s c.args.l buffers R in
    record { session = c.requires.some_running.session; sending = session-sends c.requires.some_running.session c.requires.some_running.running }

pub returns-then-not-may_append : goal.returns-then-not-may_append
returns-then-not-may_append c s y R m =
    let name_of : Text = part c.args.text.now c.args.x in
    let buffers : Slices = let a = c.args in slices a.principals.now a.principal_slots.now a.vars.now a.variable_slots.now a.locals.now a.local_slots.now a.assertions.now in
    let Runs : Session → Type 0 = λ s. Running s c.args.l buffers in
    let session-sends : (s : Session) → Runs s → let a = c.args in Sending s a.l a.vars.now a.variable_slots.now a.assertions.now = λ s R. sending s c.args.l buffers R in
    let x = name_of in
    is_denied s (Syntax.append_to x y)
    (append_denied s x y c.may_append.result (c.may_append.ensures s (session-sends s R)) c.if-not-may_append.true-raw)

pub answer-v-requires : goal.answer-v-requires
answer-v-requires c =
    let buffers : Slices = let a = c.args in slices a.principals.now a.principal_slots.now a.vars.now a.variable_slots.now a.locals.now a.local_slots.now a.assertions.now in
    let Runs : Session → Type 0 = λ s. Running s c.args.l buffers in
    let session-scoped : (s : Session) → Runs s → let a = c.args in Scoped s a.l a.vars.now a.variable_slots.now a.locals.now a.local_slots.now = λ s R. scoped s c.args.l buffers R in
    let session-sends : (s : Session) → Runs s → let a = c.args in Sending s a.l a.vars.now a.variable_slots.now a.assertions.now = λ s R. sending s c.args.l buffers R in
    let a = c.args in record {
      some_scoped = (
        record { session = c.requires.some_running.session; scoped = session-scoped c.requires.some_running.session c.requires.some_running.running },
        record { session = c.requires.some_running.session; sending = session-sends c.requires.some_running.session c.requires.some_running.running },
      );
      said = (c.requires.names.0.said, lent a.value.now a.labels.now c.requires.names.1.value_size c.requires.names.1.labels_size);
      copyable = copyable c.requires.some_running.session a.l buffers c.requires.some_running.running;
    }

pub is_list-list-requires : goal.is_list-list-requires
is_list-list-requires c =
    let buffers : Slices = let a = c.args in slices a.principals.now a.principal_slots.now a.vars.now a.variable_slots.now a.locals.now a.local_slots.now a.assertions.now in
    let Runs : Session → Type 0 = λ s. Running s c.args.l buffers in
    let session-scoped : (s : Session) → Runs s → let a = c.args in Scoped s a.l a.vars.now a.variable_slots.now a.locals.now a.local_slots.now = λ s R. scoped s c.args.l buffers R in
    record { session = c.requires.some_running.session; scoped = session-scoped c.requires.some_running.session c.requires.some_running.running }

pub slice_bounds-join-end : goal.slice_bounds-join-end
slice_bounds-join-end c =
    let name_of : Text = part c.args.text.now c.args.x in
    let buffers : Slices = let a = c.args in slices a.principals.now a.principal_slots.now a.vars.now a.variable_slots.now a.locals.now a.local_slots.now a.assertions.now in
    let Runs : Session → Type 0 = λ s. Running s c.args.l buffers in
    let Says : Syntax.Expr → Type 0 = λ y. expr_meant c.args.text.now c.args.e ≡ some y in
    let session-scoped : (s : Session) → Runs s → let a = c.args in Scoped s a.l a.vars.now a.variable_slots.now a.locals.now a.local_slots.now = λ s R. scoped s c.args.l buffers R in
    let session-sends : (s : Session) → Runs s → let a = c.args in Sending s a.l a.vars.now a.variable_slots.now a.assertions.now = λ s R. sending s c.args.l buffers R in
    let does : (s : Session) (y : Syntax.Expr) → Runs s → let x = name_of in Does s (Syntax.append_to x y) y c.is_list-list.result (append_effect s x) = λ s y R. append_does s name_of y c.may_append.result c.is_list-list.result (c.is_list-list.ensures s (session-scoped s R))
    (c.may_append.ensures s (session-sends s R)) c.if-not-may_append.false-raw in
    let answers : (s : Session) (y : Syntax.Expr) → Runs s → Says y → Answers c.answer-v.result s y c.answer-v.new.value = λ s y R m. c.answer-v.ensures s y (session-scoped s R) (session-sends s R) m in
    let stored : (s : Session) (y : Syntax.Expr) → Runs s → Says y → Stores s y c.is_list-list.result c.answer-v.new.value c.in-Value.len c.in-Value.weight = λ s y R m. let x = name_of in
    stores s (Syntax.append_to x y) y c.is_list-list.result (append_effect s x) (does s y R) c.answer-v.new.value c.answer-v.result
    (answers s y R m) c.settle.result c.settle.ensures c.in-Value.len c.in-Value.weight c.in-Value.is in
    let some_stored : Stores c.requires.some_running.session c.requires.names.0.said.expression.expression c.is_list-list.result c.answer-v.new.value c.in-Value.len c.in-Value.weight = stored c.requires.some_running.session c.requires.names.0.said.expression.expression c.requires.some_running.running c.requires.names.0.said.expression.meant in
    some_stored.written.within

pub slice_bounds-join-end-in-Value : goal.slice_bounds-join-end-in-Value
slice_bounds-join-end-in-Value c =
    let name_of : Text = part c.args.text.now c.args.x in
    let buffers : Slices = let a = c.args in slices a.principals.now a.principal_slots.now a.vars.now a.variable_slots.now a.locals.now a.local_slots.now a.assertions.now in
    let Runs : Session → Type 0 = λ s. Running s c.args.l buffers in
    let Says : Syntax.Expr → Type 0 = λ y. expr_meant c.args.text.now c.args.e ≡ some y in
    let session-scoped : (s : Session) → Runs s → let a = c.args in Scoped s a.l a.vars.now a.variable_slots.now a.locals.now a.local_slots.now = λ s R. scoped s c.args.l buffers R in
    let session-sends : (s : Session) → Runs s → let a = c.args in Sending s a.l a.vars.now a.variable_slots.now a.assertions.now = λ s R. sending s c.args.l buffers R in
    let does : (s : Session) (y : Syntax.Expr) → Runs s → let x = name_of in Does s (Syntax.append_to x y) y c.is_list-list.result (append_effect s x) = λ s y R. append_does s name_of y c.may_append.result c.is_list-list.result (c.is_list-list.ensures s (session-scoped s R))
    (c.may_append.ensures s (session-sends s R)) c.if-not-may_append.false-raw in
    let answers : (s : Session) (y : Syntax.Expr) → Runs s → Says y → Answers c.answer-v.result s y c.answer-v.new.value = λ s y R m. c.answer-v.ensures s y (session-scoped s R) (session-sends s R) m in
    let stored : (s : Session) (y : Syntax.Expr) → Runs s → Says y → Stores s y c.is_list-list.result c.answer-v.new.value c.in-Value.len c.in-Value.weight = λ s y R m. let x = name_of in
    stores s (Syntax.append_to x y) y c.is_list-list.result (append_effect s x) (does s y R) c.answer-v.new.value c.answer-v.result
    (answers s y R m) c.settle.result c.settle.ensures c.in-Value.len c.in-Value.weight c.in-Value.is in
    let some_stored : Stores c.requires.some_running.session c.requires.names.0.said.expression.expression c.is_list-list.result c.answer-v.new.value c.in-Value.len c.in-Value.weight = stored c.requires.some_running.session c.requires.names.0.said.expression.expression c.requires.some_running.running c.requires.names.0.said.expression.meant in
    sym (length-take-le _ _ some_stored.written.within)

pub join-done-requires : goal.join-done-requires
join-done-requires c =
    let name_of : Text = part c.args.text.now c.args.x in
    let buffers : Slices = let a = c.args in slices a.principals.now a.principal_slots.now a.vars.now a.variable_slots.now a.locals.now a.local_slots.now a.assertions.now in
    let Runs : Session → Type 0 = λ s. Running s c.args.l buffers in
    let session-scoped : (s : Session) → Runs s → let a = c.args in Scoped s a.l a.vars.now a.variable_slots.now a.locals.now a.local_slots.now = λ s R. scoped s c.args.l buffers R in
    let its-list : (s : Session) → Runs s → c.is_list-list.result ≡ true → let o = lookup s name_of in o ≡ some (list (elements_of o)) = λ s R f. listed (lookup s name_of) c.is_list-list.result (c.is_list-list.ensures s (session-scoped s R)) f in
    let Says : Syntax.Expr → Type 0 = λ y. expr_meant c.args.text.now c.args.e ≡ some y in
    let session-sends : (s : Session) → Runs s → let a = c.args in Sending s a.l a.vars.now a.variable_slots.now a.assertions.now = λ s R. sending s c.args.l buffers R in
    let does : (s : Session) (y : Syntax.Expr) → Runs s → let x = name_of in Does s (Syntax.append_to x y) y c.is_list-list.result (append_effect s x) = λ s y R. append_does s name_of y c.may_append.result c.is_list-list.result (c.is_list-list.ensures s (session-scoped s R))
    (c.may_append.ensures s (session-sends s R)) c.if-not-may_append.false-raw in
    let answers : (s : Session) (y : Syntax.Expr) → Runs s → Says y → Answers c.answer-v.result s y c.answer-v.new.value = λ s y R m. c.answer-v.ensures s y (session-scoped s R) (session-sends s R) m in
    let stored : (s : Session) (y : Syntax.Expr) → Runs s → Says y → Stores s y c.is_list-list.result c.answer-v.new.value c.in-Value.len c.in-Value.weight = λ s y R m. let x = name_of in
    stores s (Syntax.append_to x y) y c.is_list-list.result (append_effect s x) (does s y R) c.answer-v.new.value c.answer-v.result
    (answers s y R m) c.settle.result c.settle.ensures c.in-Value.len c.in-Value.weight c.in-Value.is in
    let some_stored : Stores c.requires.some_running.session c.requires.names.0.said.expression.expression c.is_list-list.result c.answer-v.new.value c.in-Value.len c.in-Value.weight = stored c.requires.some_running.session c.requires.names.0.said.expression.expression c.requires.some_running.running c.requires.names.0.said.expression.meant in
    let x = name_of in
    let H = some_stored in record {
      some_list = record { session = c.requires.some_running.session; running = c.requires.some_running.running; elements = elements_of (lookup c.requires.some_running.session x); is_list = its-list c.requires.some_running.session c.requires.some_running.running H.fitting };
      t = (identifier_name x c.requires.names.0.name_holds, record { value = H.written.value; is_value = weighed H.written });
    }

pub returns-in-Over : goal.returns-in-Over
returns-in-Over c s y R m =
    let buffers : Slices = let a = c.args in slices a.principals.now a.principal_slots.now a.vars.now a.variable_slots.now a.locals.now a.local_slots.now a.assertions.now in
    let name_of : Text = part c.args.text.now c.args.x in
    let Runs : Session → Type 0 = λ s. Running s c.args.l buffers in
    let session-scoped : (s : Session) → Runs s → let a = c.args in Scoped s a.l a.vars.now a.variable_slots.now a.locals.now a.local_slots.now = λ s R. scoped s c.args.l buffers R in
    let session-sends : (s : Session) → Runs s → let a = c.args in Sending s a.l a.vars.now a.variable_slots.now a.assertions.now = λ s R. sending s c.args.l buffers R in
    let does : (s : Session) (y : Syntax.Expr) → Runs s → let x = name_of in Does s (Syntax.append_to x y) y c.is_list-list.result (append_effect s x) = λ s y R. append_does s name_of y c.may_append.result c.is_list-list.result (c.is_list-list.ensures s (session-scoped s R))
    (c.may_append.ensures s (session-sends s R)) c.if-not-may_append.false-raw in
    let Says : Syntax.Expr → Type 0 = λ y. expr_meant c.args.text.now c.args.e ≡ some y in
    let answers : (s : Session) (y : Syntax.Expr) → Runs s → Says y → Answers c.answer-v.result s y c.answer-v.new.value = λ s y R m. c.answer-v.ensures s y (session-scoped s R) (session-sends s R) m in
    let x = name_of in
    over s (Syntax.append_to x y) y c.is_list-list.result (append_effect s x) (does s y R) c.answer-v.new.value c.answer-v.result
    (answers s y R m) c.settle.result c.settle.ensures _ buffers c.in-Over.is

pub returns-in-Value : goal.returns-in-Value
returns-in-Value c s y R m =
    let name_of : Text = part c.args.text.now c.args.x in
    let buffers : Slices = let a = c.args in slices a.principals.now a.principal_slots.now a.vars.now a.variable_slots.now a.locals.now a.local_slots.now a.assertions.now in
    let Runs : Session → Type 0 = λ s. Running s c.args.l buffers in
    let session-scoped : (s : Session) → Runs s → let a = c.args in Scoped s a.l a.vars.now a.variable_slots.now a.locals.now a.local_slots.now = λ s R. scoped s c.args.l buffers R in
    let session-sends : (s : Session) → Runs s → let a = c.args in Sending s a.l a.vars.now a.variable_slots.now a.assertions.now = λ s R. sending s c.args.l buffers R in
    let does : (s : Session) (y : Syntax.Expr) → Runs s → let x = name_of in Does s (Syntax.append_to x y) y c.is_list-list.result (append_effect s x) = λ s y R. append_does s name_of y c.may_append.result c.is_list-list.result (c.is_list-list.ensures s (session-scoped s R))
    (c.may_append.ensures s (session-sends s R)) c.if-not-may_append.false-raw in
    let its-list : (s : Session) → Runs s → c.is_list-list.result ≡ true → let o = lookup s name_of in o ≡ some (list (elements_of o)) = λ s R f. listed (lookup s name_of) c.is_list-list.result (c.is_list-list.ensures s (session-scoped s R)) f in
    let Says : Syntax.Expr → Type 0 = λ y. expr_meant c.args.text.now c.args.e ≡ some y in
    let answers : (s : Session) (y : Syntax.Expr) → Runs s → Says y → Answers c.answer-v.result s y c.answer-v.new.value = λ s y R m. c.answer-v.ensures s y (session-scoped s R) (session-sends s R) m in
    let stored : (s : Session) (y : Syntax.Expr) → Runs s → Says y → Stores s y c.is_list-list.result c.answer-v.new.value c.in-Value.len c.in-Value.weight = λ s y R m. let x = name_of in
    stores s (Syntax.append_to x y) y c.is_list-list.result (append_effect s x) (does s y R) c.answer-v.new.value c.answer-v.result
    (answers s y R m) c.settle.result c.settle.ensures c.in-Value.len c.in-Value.weight c.in-Value.is in
    let x = name_of in
    let H = stored s y R m in
    ends s (Syntax.append_to x y) y c.is_list-list.result (append_effect s x) (does s y R) H c.join-done.result c.verdict.result _ c.verdict.ensures
    (c.join-done.ensures s H.written.value (elements_of (lookup s x)) R (its-list s R H.fitting) (weighed H.written))
