use lib.Seq.{length-take-le}
use Rattle.std.proofs.Common.{sym, subst, take, arith}
use Rattle.permits.specs.declared.Known.{Known}
use Rattle.lets.specs.Reaching.{texts, stack}
use Rattle.lets.specs.Giving.{Given}
use Rattle.lets.proofs.Passing.{sends_any}
use Rattle.lets.proofs.Leaving.{term_at, step_later, reached_base, reached_standing, inner, some_term, first_known, leave_denied, leave_fails, leave_sinks, leave_value, leave_given}
use Rattle.lets.proofs.leave.Goals as goal

pub answer-r-requires-clause-some_term : goal.answer-r-requires-clause-some_term
answer-r-requires-clause-some_term c =
    let a = c.args in
    let here = term_at a.text.now a.at.p a.e a.end c.requires.at_term.0 in
    (some_term c.requires.some_left.reached a.e a.end here c.requires.at_term.0.placed.0, c.requires.at_term.1)

pub sink-requires : goal.sink-requires
sink-requires c =
    let P = c.requires.some_left in
    record { session = P.session; frames = P.reached.frames; standing = reached_standing P.reached P.sized }

pub returns-then-depth-eq0 : goal.returns-then-depth-eq0
returns-then-depth-eq0 c s x base number R Z W =
    let a = c.args in
    let here = term_at a.text.now a.at.p a.e a.end c.requires.at_term.0 in
    let T = c.in-Value.ensures (inner R a.e a.end here) here.term_read R.held (sends_any R.locals W) here.meant (first_known R a.e a.end here) in
    (leave_value R a.e a.end here T.0 _ c.in-Value.len c.in-Value.weight c.if-depth-eq0.true T.1, reached_base R)

pub slice_bounds-returned-end : goal.slice_bounds-returned-end
slice_bounds-returned-end c =
    let a = c.args in
    let P = c.requires.some_left in
    let here = term_at a.text.now a.at.p a.e a.end c.requires.at_term.0 in
    let T = c.in-Value.ensures (inner P.reached a.e a.end here) here.term_read P.reached.held (sends_any P.reached.locals P.sends) here.meant (first_known P.reached a.e a.end here) in
    T.1.within

pub slice_bounds-returned-end-in-Value : goal.slice_bounds-returned-end-in-Value
slice_bounds-returned-end-in-Value c =
    let a = c.args in
    let P = c.requires.some_left in
    let here = term_at a.text.now a.at.p a.e a.end c.requires.at_term.0 in
    let T = c.in-Value.ensures (inner P.reached a.e a.end here) here.term_read P.reached.held (sends_any P.reached.locals P.sends) here.meant (first_known P.reached a.e a.end here) in
    sym (length-take-le _ _ T.1.within)

pub returned-requires : goal.returned-requires
returned-requires c =
    let a = c.args in
    let P = c.requires.some_left in
    let lent = texts a.shared.now a.slots.now a.count a.scope.now a.local_slots.now in
    let pile = stack a.heads.now a.lens.now a.counts.now a.bounds.now in
    let here = term_at a.text.now a.at.p a.e a.end c.requires.at_term.0 in
    let T = c.in-Value.ensures (inner P.reached a.e a.end here) here.term_read P.reached.held (sends_any P.reached.locals P.sends) here.meant (first_known P.reached a.e a.end here) in
    let G = leave_given P.reached a.e a.end here T.0 _ c.in-Value.len c.in-Value.weight (omega (arith, c.if-depth-eq0.false)) c.requires.at_term.0.placed.2 P.sized T.1 in
    record {
      session = P.session;
      expression = P.expression;
      base = P.base;
      number = P.number;
      given = subst (λ (k : Known). Given P.session P.expression a.text.now lent pile P.base P.number a.at.depth a.end k (take c.in-Value.len c.answer-r.new.out) c.in-Value.weight) (sym c.behind.ensures) G;
    }

pub returns-in-Denied : goal.returns-in-Denied
returns-in-Denied c s x base number R Z W =
    let a = c.args in
    let here = term_at a.text.now a.at.p a.e a.end c.requires.at_term.0 in
    let T = c.in-Denied.ensures (inner R a.e a.end here) here.term_read R.held (sends_any R.locals W) here.meant (first_known R a.e a.end here) in
    (leave_denied R a.e a.end here T, reached_base R)

pub returns-in-Missing : goal.returns-in-Missing
returns-in-Missing c s x base number R Z W =
    let a = c.args in
    let here = term_at a.text.now a.at.p a.e a.end c.requires.at_term.0 in
    let T = c.in-Missing.ensures (inner R a.e a.end here) here.term_read R.held (sends_any R.locals W) here.meant (first_known R a.e a.end here) in
    (leave_fails R a.e a.end here T.0 a.text.now T.1, reached_base R)

pub returns-in-Heavy : goal.returns-in-Heavy
returns-in-Heavy c s x base number R Z W =
    let a = c.args in
    let here = term_at a.text.now a.at.p a.e a.end c.requires.at_term.0 in
    let T = c.in-Heavy.ensures (inner R a.e a.end here) here.term_read R.held (sends_any R.locals W) here.meant (first_known R a.e a.end here) in
    (leave_sinks R a.e a.end here T.0 c.sink.result _ T.1 (c.sink.ensures s R.frames (reached_standing R Z)), reached_base R)

pub returns-else-depth-eq0 : goal.returns-else-depth-eq0
returns-else-depth-eq0 c s x base number R Z W =
    let a = c.args in
    let lent = texts a.shared.now a.slots.now a.count a.scope.now a.local_slots.now in
    let pile = stack a.heads.now a.lens.now a.counts.now a.bounds.now in
    let here = term_at a.text.now a.at.p a.e a.end c.requires.at_term.0 in
    let T = c.in-Value.ensures (inner R a.e a.end here) here.term_read R.held (sends_any R.locals W) here.meant (first_known R a.e a.end here) in
    let G = leave_given R a.e a.end here T.0 _ c.in-Value.len c.in-Value.weight (omega (arith, c.if-depth-eq0.false)) c.requires.at_term.0.placed.2 Z T.1 in
    let given = subst (λ (k : Known). Given s x a.text.now lent pile base number a.at.depth a.end k (take c.in-Value.len c.answer-r.new.out) c.in-Value.weight) (sym c.behind.ensures) G in
    step_later c.returned.result s x a.text.now _ pile base number a.at.p a.end _ (omega (arith, c.requires.at_term.0.placed.1)) (c.returned.ensures s x base number given _)
