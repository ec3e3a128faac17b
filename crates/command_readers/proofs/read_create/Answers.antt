use native.Mathlib.Omega.{arith}
use Rattle.std.proofs.lemmas.Grind.{common_steps}
use Rattle.language.specs.Syntax as Syntax
use Rattle.command_readers.proofs.read_create.Goals as goal

pub returns-in_err-account-clause-meant : goal.returns-in_err-account-clause-meant
returns-in_err-account-clause-meant c =
    let m = c.in_err-account.ensures.meant Syntax.create_principal in
    grind (arith, common_steps, m)

pub returns-clause-meant : goal.returns-clause-meant
returns-clause-meant c =
    c.in_ok-account.ensures.meant Syntax.create_principal
