use native.Mathlib.Omega.{arith}
use Rattle.tokens.proofs.Lexing.{quoted_open, quoted_text, quoted_bad}
use Rattle.tokens.proofs.token.quoted_at.Goals as goal

pub returns-then-end-text-clause-meant : goal.returns-then-end-text-clause-meant
returns-then-end-text-clause-meant c =
    quoted_open c.args.text.now c.args.at (omega (arith, c.requires)) c.run_end-end.result c.run_end-end.ensures.ends c.requires.at_value (omega arith)

pub returns-then-text-end-ne34-clause-meant : goal.returns-then-text-end-ne34-clause-meant
returns-then-text-end-ne34-clause-meant c =
    quoted_bad c.args.text.now c.args.at (omega (arith, c.requires)) c.run_end-end.result c.run_end-end.ensures.ends c.requires.at_value (omega (arith, c.run_end-end.ensures)) c.if-text-end-ne34.true

pub returns-clause-meant : goal.returns-clause-meant
returns-clause-meant c =
    quoted_text c.args.text.now c.args.at (omega (arith, c.requires)) c.run_end-end.result c.run_end-end.ensures.ends c.requires.at_value (omega (arith, c.run_end-end.ensures)) c.if-text-end-ne34.false
