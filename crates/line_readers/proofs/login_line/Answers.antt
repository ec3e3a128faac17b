use mathlib.Core.Path.{sym, ap, ◌∙◌}
use mathlib.Core.Option.{some}
use native.Mathlib.Omega.{arith}
use lib.ListN.{drop}
use Rattle.std.proofs.lemmas.Grind.{common_steps}
use Rattle.language.specs.Tokens.{lex}
use Rattle.language.specs.Grammar.{spent}
use Rattle.line_readers.specs.WholeLines.{opening_of}
use Rattle.line_readers.proofs.Wholes.{login_tokens, not_spent, all_spent}
use Rattle.line_readers.proofs.login_line.Goals as goal

pub returns-in_err-login-clause-meant : goal.returns-in_err-login-clause-meant
returns-in_err-login-clause-meant c =
    let e = login_tokens c.args.text.now c.args.at ∙ ap spent (sym c.in_err-login.ensures.meant) in
    grind (arith, common_steps, e)

pub returns-then-ends-clause-meant : goal.returns-then-ends-clause-meant
returns-then-ends-clause-meant c =
    let t = c.args.text.now in
    let us = lex (drop c.read_login.new.scanner.at t) in
    let end = sym (rw c.in_ok-login.ensures.text at c.ends.ensures.ended) ∙ c.if-ends.true in
    sym (login_tokens t c.args.at ∙ ap spent (sym c.in_ok-login.ensures.meant) ∙ all_spent (some (opening_of t c.in_ok-login.login)) us end)

pub returns-else-ends-clause-meant : goal.returns-else-ends-clause-meant
returns-else-ends-clause-meant c =
    let t = c.args.text.now in
    let us = lex (drop c.read_login.new.scanner.at t) in
    let end = sym (rw c.in_ok-login.ensures.text at c.ends.ensures.ended) ∙ c.if-ends.false in
    sym (login_tokens t c.args.at ∙ ap spent (sym c.in_ok-login.ensures.meant) ∙ not_spent (some (opening_of t c.in_ok-login.login)) us end)
