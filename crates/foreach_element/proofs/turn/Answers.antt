-- `foreach_element::turn` meets its contract. The session in which the expression is evaluated has y last among its locals, which go when their old length is taken.
-- Assumes nothing.
use mathlib.Core.Path.{◌∙◌}
use Prim.Native.Nat.{◌+◌, ◌≤◌}
use native.Mathlib.Omega.{arith}
use Rattle.language.specs.Text.{Text}
use Rattle.language.specs.State.{Element, single}
use Rattle.language.specs.Syntax.{Expr}
use Rattle.language.specs.Values.{Session}
use Rattle.language.specs.Expressions as Expressions
use Rattle.language.specs.Expressions.{names}
use Rattle.language.specs.Commands.{with_element}
use Rattle.language.proofs.StateText.Clean.{name_length}
use Rattle.text.specs.Meaning.{part}
use Rattle.values.specs.Encoding.{Holds}
use Rattle.scopes.proofs.Bounds.{text_bound}
use Rattle.term_answer.specs.Telling.{Tells}
use Rattle.lets.specs.Reaching.{texts, stack}
use Rattle.expression_answer.specs.Asking.{Asked}
use Rattle.foreach_element.specs.Turning.{Turning}
use Rattle.foreach_element.proofs.Lasting.{told_outside, sends_with, knows_with, with_last, without_last, fits}
use borrow.Author.Rules.{rules}
use Rattle.foreach_element.proofs.turn.Goals as goal

pub slice_bounds-add_variable-count : goal.slice_bounds-add_variable-count
slice_bounds-add_variable-count c = omega (arith, c.requires.some_turning.y_within.0, c.requires.some_turning.y_within.1)

pub slice_bounds-add_variable-start : goal.slice_bounds-add_variable-start
slice_bounds-add_variable-start c = omega (arith, c.requires.some_turning.y_within.0, c.requires.some_turning.y_within.1)

pub slice_bounds-add_variable-end : goal.slice_bounds-add_variable-end
slice_bounds-add_variable-end c = omega (arith, c.requires.some_turning.y_within.0, c.requires.some_turning.y_within.1)

pub add_variable-end-requires : goal.add_variable-end-requires
add_variable-end-requires c =
    let y_of : Text = part c.args.text.now c.args.y in (
      c.requires.room.scope_small,
      omega (arith, c.requires.room.scope_size_lem, c.requires.some_turning.locals_short, (name_length y_of c.requires.some_turning.y_named).1, text_bound (single c.requires.some_element.0.element) _ c.requires.some_element.0.held, c.requires.some_element.0.light),
      c.requires.some_turning.slots_room,
    )

pub overflow_add-number : goal.overflow_add-number
overflow_add-number c = omega (arith, c.requires.some_turning.few)

pub answer-r-requires : goal.answer-r-requires
answer-r-requires c =
    let y_of : Text = part c.args.text.now c.args.y in
    let Turns : Session → Expr → Type 0 = λ s x. let a = c.args in
    Turning s x a.text.now (texts a.shared.now a.slots.now a.count a.scope.now a.local_slots.now) a.len a.number a.y a.e a.assertions.now a.n a.principals a.sender a.known in
    let with-y : (s : Session) (x : Expr) (a : Element) → Turns s x → Holds (single a) c.args.element.now → let b = c.args in Asked (with_element s y_of a) x b.text.now (texts b.shared.now b.slots.now b.count c.add_variable-end.new.buf c.add_variable-end.new.slots) c.add_variable-end.result (b.number + 1) b.e = λ s x a I h. with_last I a c.add_variable-end.new.buf c.add_variable-end.result c.add_variable-end.new.slots
    (c.add_variable-end.ensures.held s.locals (single a) I.asked.held.locals_held c.requires.some_turning.y_named h.is_text_lem)
    (omega (arith, c.add_variable-end.ensures.outside.within, c.add_variable-end.auto.buf)) c.requires.some_turning.y_named h.is_valid in
    let ends : c.add_variable-end.result ≤ 57605 = omega (arith, c.add_variable-end.ensures.size, c.requires.some_turning.locals_short, (name_length y_of c.requires.some_turning.y_named).1, text_bound (single c.requires.some_element.0.element) _ c.requires.some_element.0.held, c.requires.some_element.0.light) in
    record {
      some_asked = record {
        session = with_element c.requires.some_turning.session y_of c.requires.some_element.0.element;
        expression = c.requires.some_turning.expression;
        asked = with-y c.requires.some_turning.session c.requires.some_turning.expression c.requires.some_element.0.element c.requires.some_turning.turning c.requires.some_element.0.held;
        sends = sends_with c.requires.some_turning.turning c.requires.some_element.0.element;
        knows = knows_with c.requires.some_turning.turning c.requires.some_element.0.element;
      };
      fitted = fits c.args.e c.args.shared.now c.args.slots.now c.args.count c.args.scope.now c.add_variable-end.new.buf c.args.local_slots.now c.add_variable-end.new.slots
          (stack c.args.heads.now c.args.lens.now c.args.counts.now c.args.bounds.now) c.args.number c.add_variable-end.result c.requires.room c.add_variable-end.auto.buf c.add_variable-end.auto.slots ends;
      text_len_bound = (c.requires.some_turning.text_short, c.requires.some_element.1);
    }

pub settled-requires : goal.settled-requires
settled-requires c =
    let y_of : Text = part c.args.text.now c.args.y in
    let Turns : Session → Expr → Type 0 = λ s x. let a = c.args in
    Turning s x a.text.now (texts a.shared.now a.slots.now a.count a.scope.now a.local_slots.now) a.len a.number a.y a.e a.assertions.now a.n a.principals a.sender a.known in
    let with-y : (s : Session) (x : Expr) (a : Element) → Turns s x → Holds (single a) c.args.element.now → let b = c.args in Asked (with_element s y_of a) x b.text.now (texts b.shared.now b.slots.now b.count c.add_variable-end.new.buf c.add_variable-end.new.slots) c.add_variable-end.result (b.number + 1) b.e = λ s x a I h. with_last I a c.add_variable-end.new.buf c.add_variable-end.result c.add_variable-end.new.slots
    (c.add_variable-end.ensures.held s.locals (single a) I.asked.held.locals_held c.requires.some_turning.y_named h.is_text_lem)
    (omega (arith, c.add_variable-end.ensures.outside.within, c.add_variable-end.auto.buf)) c.requires.some_turning.y_named h.is_valid in
    let answered : (s : Session) (x : Expr) (a : Element) → Turns s x → Holds (single a) c.args.element.now → let b = c.args in let t = with_element s y_of a in Tells c.answer-r.result t (names t x) (Expressions.value t x) c.answer-r.new.out × Asked t x b.text.now (texts b.shared.now b.slots.now b.count c.answer-r.new.scope c.answer-r.new.local_slots) c.add_variable-end.result (b.number + 1) b.e = λ s x a I h. c.answer-r.ensures (with_element s y_of a) x (with-y s x a I h) (sends_with I a) (knows_with I a) in
    let t = with_element c.requires.some_turning.session y_of c.requires.some_element.0.element in (
      record {
        session = t;
        names = names t c.requires.some_turning.expression;
        outcome = Expressions.value t c.requires.some_turning.expression;
        tells = (answered c.requires.some_turning.session c.requires.some_turning.expression c.requires.some_element.0.element c.requires.some_turning.turning c.requires.some_element.0.held).0;
      },
      c.requires.some_element.0,
      omega (arith, c.requires.some_element.1.out_size, c.answer-r.auto.out),
    )

pub returns : goal.returns
returns c s x a I h =
    let y_of : Text = part c.args.text.now c.args.y in
    let Turns : Session → Expr → Type 0 = λ s x. let a = c.args in
    Turning s x a.text.now (texts a.shared.now a.slots.now a.count a.scope.now a.local_slots.now) a.len a.number a.y a.e a.assertions.now a.n a.principals a.sender a.known in
    let with-y : (s : Session) (x : Expr) (a : Element) → Turns s x → Holds (single a) c.args.element.now → let b = c.args in Asked (with_element s y_of a) x b.text.now (texts b.shared.now b.slots.now b.count c.add_variable-end.new.buf c.add_variable-end.new.slots) c.add_variable-end.result (b.number + 1) b.e = λ s x a I h. with_last I a c.add_variable-end.new.buf c.add_variable-end.result c.add_variable-end.new.slots
    (c.add_variable-end.ensures.held s.locals (single a) I.asked.held.locals_held c.requires.some_turning.y_named h.is_text_lem)
    (omega (arith, c.add_variable-end.ensures.outside.within, c.add_variable-end.auto.buf)) c.requires.some_turning.y_named h.is_valid in
    let answered : (s : Session) (x : Expr) (a : Element) → Turns s x → Holds (single a) c.args.element.now → let b = c.args in let t = with_element s y_of a in Tells c.answer-r.result t (names t x) (Expressions.value t x) c.answer-r.new.out × Asked t x b.text.now (texts b.shared.now b.slots.now b.count c.answer-r.new.scope c.answer-r.new.local_slots) c.add_variable-end.result (b.number + 1) b.e = λ s x a I h. c.answer-r.ensures (with_element s y_of a) x (with-y s x a I h) (sends_with I a) (knows_with I a) in
    let t = with_element s y_of a in
    let A = answered s x a I h in (
      c.settled.ensures s (names t x) (Expressions.value t x) a (told_outside s t.locals (names t x) c.answer-r.result (Expressions.value t x) c.answer-r.new.out A.0) h,
      without_last I a c.answer-r.new.scope c.add_variable-end.result c.answer-r.new.local_slots A.1 (c.answer-r.auto.scope ∙ c.add_variable-end.auto.buf) (omega (arith, c.add_variable-end.ensures.size)),
    )
