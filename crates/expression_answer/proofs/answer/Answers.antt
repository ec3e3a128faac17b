use mathlib.Core.Path.{sym, subst}
use lib.Seq.{length-take-le}
use Rattle.language.specs.Syntax as Syntax
use Rattle.language.specs.Expressions.{value, names}
use mathlib.Core.List.{[]}
use Rattle.permits.specs.Knowledge.{terms, Knows}
use Rattle.permits.proofs.Knowing.{knows_first}
use Rattle.term_answer.specs.Telling.{Tells}
use Rattle.syntax.specs.declared.Expr.{Expr}
use Rattle.lets.specs.Reaching.{texts, stack}
use Rattle.expression_answer.specs.Asking.{Fitted}
use Rattle.expression_answer.proofs.Meant.{as_term, some_term, as_let, let_kept}
use borrow.Author.Rules.{rules}
use Rattle.expression_answer.proofs.answer.Reads as reads
use Rattle.expression_answer.proofs.answer.Lts as lts
use Rattle.lets.proofs.answer.Reads as answer-reads
use Rattle.term_answer.proofs.answer.Reads as answer-reads'
use Rattle.expression_answer.proofs.answer.Goals as goal

pub slice_bounds-answer-end-in-Term : goal.slice_bounds-answer-end-in-Term
slice_bounds-answer-end-in-Term c = sym (length-take-le _ _ c.requires.some_asked.asked.in_scope)

pub answer-requires : goal.answer-requires
answer-requires c =
    record {
      some_scope = (record { session = c.requires.some_asked.session; scope = c.requires.some_asked.asked.held }, record { session = c.requires.some_asked.session; sends = c.requires.some_asked.sends });
      some_term = (some_term c.requires.some_asked.asked c.in-Term.t c.in-Term.is, c.requires.text_len_bound.0);
      lent = c.requires.text_len_bound.1;
    }

pub answer-requires-in-Let : goal.answer-requires-in-Let
answer-requires-in-Let c =
    let a = c.args in
    record {
      some_start = record { session = c.requires.some_asked.session; expression = c.requires.some_asked.expression; starts = as_let c.requires.some_asked.asked c.in-Let.p c.in-Let.is; sends = c.requires.some_asked.sends; knows = c.requires.some_asked.knows };
      sized = subst (λ (v : Expr). Fitted v (texts a.shared.now a.slots.now a.count a.scope.now a.local_slots.now) (stack a.heads.now a.lens.now a.counts.now a.bounds.now) a.len a.number) c.in-Let.is c.requires.fitted;
      text_len_bound = c.requires.text_len_bound;
    }

pub returns-in-Term : goal.returns-in-Term
returns-in-Term c s x A W q =
    let T = as_term A c.in-Term.t c.in-Term.is in (
      subst (λ (y : Syntax.Expr). Tells c.answer.result s (names s y) (value s y) c.answer.new.out) (sym T.is)
          (c.answer.ensures s T.the_term A.held W T.meant (knows_first s T.the_term [] c.args.known (subst (λ (y : Syntax.Expr). Knows c.args.known s (terms y)) T.is q))),
      A,
    )

pub returns-in-Let : goal.returns-in-Let
returns-in-Let c s x A W q =
    let T = c.answer-in-Let.ensures s x (as_let A c.in-Let.p c.in-Let.is) W q in
    (T.0, let_kept A c.in-Let.p c.in-Let.is _ T.1)
