use mathlib.Core.Path.{sym, ◌∙◌}
use Prim.Native.Nat.{◌<◌}
use native.Mathlib.Omega.{arith}
use lib.ListN.{drop}
use Rattle.std.proofs.lemmas.Grind.{common_steps}
use Rattle.language.specs.Tokens.{lex}
use Rattle.expression_readers.proofs.Lets.{past_read, no_more, not_in, past_in, past_head}
use Rattle.expression_readers.proofs.skip_lets.Goals as goal

pub returns-then-pending-eq0-clause-meant : goal.returns-then-pending-eq0-clause-meant
returns-then-pending-eq0-clause-meant c =
    let t = c.args.scanner.now.text.now in
    let i = c.lets.invariant in
    let us = lex (drop c.read_term.new.scanner.at t) in
    let m = rw i.text at c.in-Some.ensures.meant in
    let p = rw i.text at c.in-Some.ensures.placed in
    sym (i.rest ∙ past_read t c.in-Some.field-0 c.lets.pending (lex (drop c.lets.scanner.at t)) us p.0 (sym m) ∙ no_more c.lets.pending us c.if-pending-eq0.true)

pub returns-in_default-clause-meant : goal.returns-in_default-clause-meant
returns-in_default-clause-meant c =
    let t = c.args.scanner.now.text.now in
    let i = c.lets.invariant in
    let k = c.lets.pending in
    let us = lex (drop c.read_term.new.scanner.at t) in
    let m = rw i.text at c.in-Some.ensures.meant in
    let p = rw i.text at c.in-Some.ensures.placed in
    let f = rw (c.in-Some.ensures.text, i.text) at c.in_default.ensures.meant in
    let h : 0 < k = omega (arith, c.if-pending-eq0.false) in
    let e = i.rest ∙ past_read t c.in-Some.field-0 k (lex (drop c.lets.scanner.at t)) us p.0 (sym m) ∙ not_in k us h (sym f) in
    grind (arith, common_steps, e)

pub lets-preserved-in-Some : goal.lets-preserved-in-Some
lets-preserved-in-Some c =
    let t = c.args.scanner.now.text.now in
    let i = c.lets.invariant in
    let k = c.lets.pending in
    let us = lex (drop c.read_term.new.scanner.at t) in
    let m = rw i.text at c.in-Some.ensures.meant in
    let p = rw i.text at c.in-Some.ensures.placed in
    let f = rw (c.in-Some.ensures.text, i.text) at c.in-Some-expect.ensures.meant in
    let h : 0 < k = omega (arith, c.if-pending-eq0.false) in record {
      text = c.in-Some-expect.ensures.text ∙ c.in-Some.ensures.text ∙ i.text;
      on = omega (arith, i, c.in-Some.ensures.placed, c.in-Some-expect.ensures.placed);
      few = omega (arith, i, c.in-Some.ensures.placed, c.in-Some-expect.ensures.placed);
      rest = i.rest ∙ past_read t c.in-Some.field-0 k (lex (drop c.lets.scanner.at t)) us p.0 (sym m) ∙ past_in k us h (sym f);
    }

pub lets-preserved : goal.lets-preserved
lets-preserved c =
    let t = c.args.scanner.now.text.now in
    let i = c.lets.invariant in
    let k = c.lets.pending in
    let m = rw i.text at c.in-None.ensures.meant in
    let f = rw i.text at c.in_ok-read_let-in-None.ensures.meant in record {
      text = c.in_ok-read_let-in-None.ensures.text ∙ i.text;
      on = omega (arith, i, c.in_ok-read_let-in-None.ensures.placed);
      few = omega (arith, i, c.in_ok-read_let-in-None.ensures.placed);
      rest = i.rest ∙ past_head k (lex (drop c.lets.scanner.at t)) (sym m) (sym f);
    }
