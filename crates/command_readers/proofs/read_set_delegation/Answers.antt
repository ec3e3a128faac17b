use native.Mathlib.Omega.{arith}
use Rattle.std.proofs.lemmas.Grind.{common_steps}
use Rattle.language.specs.Syntax as Syntax
use mathlib.Core.Path.{sym, ◌∙◌}
use lib.ListN.{drop}
use Rattle.language.specs.Tokens.{lex}
use Rattle.text.specs.Meaning.{part}
use Rattle.command_readers.proofs.Dispatch.{set_delegation_is}
use Rattle.command_readers.proofs.read_set_delegation.Goals as goal

pub returns-in_err-d-clause-meant : goal.returns-in_err-d-clause-meant
returns-in_err-d-clause-meant c =
    let s = c.args.scanner.now in
    let e = set_delegation_is (lex (drop s.at s.text.now)) (part s.text.now c.args.word) (sym c.is.ensures ∙ c.if-not-is.false) in
    let m = c.in_err-d.ensures.meant Syntax.set_delegation in
    grind (arith, common_steps, m, e)

pub returns-clause-meant : goal.returns-clause-meant
returns-clause-meant c =
    let s = c.args.scanner.now in
    let e = set_delegation_is (lex (drop s.at s.text.now)) (part s.text.now c.args.word) (sym c.is.ensures ∙ c.if-not-is.false) in
    c.in_ok-d.ensures.meant Syntax.set_delegation ∙ sym e
