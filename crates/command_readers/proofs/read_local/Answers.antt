use native.Mathlib.Omega.{arith}
use Rattle.std.proofs.lemmas.Grind.{common_steps}
use Rattle.language.specs.Syntax as Syntax
use lib.ListN.{drop}
use mathlib.Core.Path.{◌∙◌}
use Rattle.language.specs.Tokens.{lex}
use Rattle.text.specs.Meaning.{part}
use Rattle.syntax.specs.Values.{expr_meant}
use Rattle.command_readers.proofs.Dispatch.{of_command}
use Rattle.command_readers.proofs.read_local.Goals as goal

pub returns-in_err-assign-clause-meant : goal.returns-in_err-assign-clause-meant
returns-in_err-assign-clause-meant c =
    let m = c.in_err-assign.ensures.meant Syntax.local in
    grind (arith, common_steps, m)

pub returns-clause-meant : goal.returns-clause-meant
returns-clause-meant c =
    let t = c.args.scanner.now.text.now in
    let a = c.in_ok-assign.assign in
    of_command (expr_meant t a.value) (Syntax.local (part t a.name)) (lex (drop c.read_assign.new.scanner.at t)) ∙ c.in_ok-assign.ensures.meant Syntax.local
