use mathlib.Core.Path.{sym, subst}
use native.Mathlib.Omega.{arith}
use lib.Seq.{length-take-le}
use Rattle.language.specs.Syntax as Syntax
use Rattle.language.specs.Expressions.{value, names}
use Rattle.term_answer.specs.Telling.{Tells}
use Rattle.expression_answer.proofs.Meant.{as_term, some_term, as_let}
use Rattle.lets.specs.Frames.{environment}
use Rattle.lets.proofs.Passing.{sends_any}
use Rattle.lookup.proofs.Saying.{asked, other_store}
use borrow.Author.Rules.{rules}
use Rattle.lookup.proofs.any_answer.Reads as reads
use Rattle.lookup.proofs.any_answer.Lts as lts
use Rattle.let_aside.proofs.answer.Reads as answer-reads
use Rattle.term_answer.proofs.answer.Reads as answer-reads'
use Rattle.lookup.proofs.any_answer.Goals as goal

pub slice_bounds-answer-end : goal.slice_bounds-answer-end
slice_bounds-answer-end c = sym (length-take-le _ _ c.requires.some_scoped.0.scoped.vars_within)

pub slice_bounds-answer-end-in-Term : goal.slice_bounds-answer-end-in-Term
slice_bounds-answer-end-in-Term c = sym (length-take-le _ _ c.requires.some_scoped.0.scoped.locals_within)

pub answer-requires : goal.answer-requires
answer-requires c =
    let a = c.args in
    let A = asked c.requires.some_scoped.0.session a.l a.vars.now a.variable_slots.now a.locals.now a.local_slots.now a.text.now a.e c.requires.said.0.expression.expression c.requires.some_scoped.0.scoped c.requires.said.0.expression c.requires.said.0.expression.meant in record {
      some_scope = (record { session = c.requires.some_scoped.0.session; scope = c.requires.some_scoped.0.scoped.scope }, record { session = c.requires.some_scoped.1.session; sends = c.requires.some_scoped.1.sending.sends });
      some_term = (some_term A c.in-Term.t c.in-Term.is, c.requires.said.0.short);
      lent = c.requires.said.1;
    }

pub slice_bounds-answer-end-in-Let : goal.slice_bounds-answer-end-in-Let
slice_bounds-answer-end-in-Let c = sym (length-take-le _ _ c.requires.some_scoped.0.scoped.vars_within)

pub slice_bounds-answer-end-in-Let-2 : goal.slice_bounds-answer-end-in-Let-2
slice_bounds-answer-end-in-Let-2 c = sym (length-take-le _ _ c.requires.some_scoped.0.scoped.locals_within)

pub answer-requires-in-Let : goal.answer-requires-in-Let
answer-requires-in-Let c =
    let a = c.args in
    let A = asked c.requires.some_scoped.0.session a.l a.vars.now a.variable_slots.now a.locals.now a.local_slots.now a.text.now a.e c.requires.said.0.expression.expression c.requires.some_scoped.0.scoped c.requires.said.0.expression c.requires.said.0.expression.meant in
    record {
      some_aside = record {
        session = (environment c.requires.some_scoped.1.session c.requires.some_scoped.0.session.locals 0).session;
        expression = c.requires.said.0.expression.expression;
        starts = other_store c.requires.some_scoped.1.session (as_let A c.in-Let.p c.in-Let.is) c.requires.some_scoped.1.sending.sends;
        sends = sends_any c.requires.some_scoped.0.session.locals c.requires.some_scoped.1.sending.sends;
        short = omega (arith, c.requires.copyable.locals_short, length-take-le a.l.locals_len a.locals.now c.requires.some_scoped.0.scoped.locals_within, c.requires.some_scoped.0.scoped.locals_within);
        few = c.requires.copyable.slots_few;
      };
      text_len_bound = (c.requires.said.0.short, c.requires.said.1);
    }

pub returns-in-Term : goal.returns-in-Term
returns-in-Term c s y S W m =
    let a = c.args in
    let A = asked s a.l a.vars.now a.variable_slots.now a.locals.now a.local_slots.now a.text.now a.e y S c.requires.said.0.expression m in
    let T = as_term A c.in-Term.t c.in-Term.is in
    subst (λ (z : Syntax.Expr). Tells c.answer.result s (names s z) (value s z) c.answer.new.out) (sym T.is) (c.answer.ensures s T.the_term S.scope W.sends T.meant tt)

pub returns-in-Let : goal.returns-in-Let
returns-in-Let c s y S W m =
    let a = c.args in
    let A = asked s a.l a.vars.now a.variable_slots.now a.locals.now a.local_slots.now a.text.now a.e y S c.requires.said.0.expression m in
    c.answer-in-Let.ensures s y (as_let A c.in-Let.p c.in-Let.is) W.sends
