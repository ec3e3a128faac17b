use mathlib.Core.Path.{sym, ap, ◌∙◌}
use native.Mathlib.Omega.{arith}
use lib.ListN.{drop}
use Rattle.std.proofs.lemmas.Grind.{common_steps}
use Rattle.language.specs.Tokens.{lex}
use Rattle.language.specs.Grammar.{spent}
use Rattle.command_readers.specs.Commands.{command_meant}
use Rattle.line_readers.proofs.Wholes.{ending_tokens, not_spent, all_spent}
use Rattle.line_readers.proofs.ending_line.Goals as goal

pub returns-in_err-ending-clause-meant : goal.returns-in_err-ending-clause-meant
returns-in_err-ending-clause-meant c =
    let e = ending_tokens c.args.text.now c.args.at ∙ ap spent (sym c.in_err-ending.ensures.meant) in
    grind (arith, common_steps, e)

pub returns-then-ends-clause-meant : goal.returns-then-ends-clause-meant
returns-then-ends-clause-meant c =
    let t = c.args.text.now in
    let us = lex (drop c.read_ending.new.scanner.at t) in
    let end = sym (rw c.in_ok-ending.ensures.text at c.ends.ensures.ended) ∙ c.if-ends.true in
    sym (ending_tokens t c.args.at ∙ ap spent (sym c.in_ok-ending.ensures.meant) ∙ all_spent (command_meant t c.in_ok-ending.ending) us end)

pub returns-else-ends-clause-meant : goal.returns-else-ends-clause-meant
returns-else-ends-clause-meant c =
    let t = c.args.text.now in
    let us = lex (drop c.read_ending.new.scanner.at t) in
    let end = sym (rw c.in_ok-ending.ensures.text at c.ends.ensures.ended) ∙ c.if-ends.false in
    sym (ending_tokens t c.args.at ∙ ap spent (sym c.in_ok-ending.ensures.meant) ∙ not_spent (command_meant t c.in_ok-ending.ending) us end)
