use native.Mathlib.Omega.{arith}
use Rattle.tokens.proofs.Lexing.{comment_last, comment_line, comment_bad}
use Rattle.tokens.proofs.token.comment_at.Goals as goal

pub returns-then-end-text-clause-meant : goal.returns-then-end-text-clause-meant
returns-then-end-text-clause-meant c =
    comment_last c.args.text.now c.args.at (omega (arith, c.requires)) c.requires.at_in_bounds c.run_end-end.result c.run_end-end.ensures.ends c.requires.at_value c.requires.at_value_2 (omega arith)

pub returns-then-text-end-eq10-clause-meant : goal.returns-then-text-end-eq10-clause-meant
returns-then-text-end-eq10-clause-meant c =
    comment_line c.args.text.now c.args.at (omega (arith, c.requires)) c.requires.at_in_bounds c.run_end-end.result c.run_end-end.ensures.ends c.requires.at_value c.requires.at_value_2 (omega (arith, c.run_end-end.ensures)) c.if-text-end-eq10.true

pub returns-else-text-end-eq10-clause-meant : goal.returns-else-text-end-eq10-clause-meant
returns-else-text-end-eq10-clause-meant c =
    comment_bad c.args.text.now c.args.at (omega (arith, c.requires)) c.requires.at_in_bounds c.run_end-end.result c.run_end-end.ensures.ends c.requires.at_value c.requires.at_value_2 (omega (arith, c.run_end-end.ensures)) c.if-text-end-eq10.false
