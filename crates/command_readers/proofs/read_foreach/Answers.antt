use native.Mathlib.Omega.{arith}
use Rattle.std.proofs.lemmas.Grind.{common_steps}
use Rattle.language.specs.Syntax as Syntax
use lib.ListN.{drop}
use mathlib.Core.Path.{◌∙◌}
use Rattle.language.specs.Tokens.{lex}
use Rattle.text.specs.Meaning.{part}
use Rattle.syntax.specs.Values.{expr_meant}
use Rattle.command_readers.proofs.Dispatch.{of_command}
use Rattle.command_readers.proofs.read_foreach.Goals as goal

pub returns-in_err-each-clause-meant : goal.returns-in_err-each-clause-meant
returns-in_err-each-clause-meant c =
    let m = c.in_err-each.ensures.meant Syntax.foreach in
    grind (arith, common_steps, m)

pub returns-clause-meant : goal.returns-clause-meant
returns-clause-meant c =
    let t = c.args.scanner.now.text.now in
    let e = c.in_ok-each.each in
    of_command (expr_meant t e.value) (Syntax.foreach (part t e.element) (part t e.list)) (lex (drop c.read_each.new.scanner.at t)) ∙ c.in_ok-each.ensures.meant Syntax.foreach
