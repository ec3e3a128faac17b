use native.Mathlib.Omega.{arith}
use Rattle.std.proofs.lemmas.Grind.{common_steps}
use Rattle.language.specs.Syntax as Syntax
use Rattle.command_readers.proofs.read_delete.Goals as goal

pub returns-in_err-d-clause-meant : goal.returns-in_err-d-clause-meant
returns-in_err-d-clause-meant c =
    let m = c.in_err-d.ensures.meant Syntax.delete_delegation in
    grind (arith, common_steps, m)

pub returns-clause-meant : goal.returns-clause-meant
returns-clause-meant c =
    let m = c.in_ok-d.ensures.meant Syntax.delete_delegation in
    grind (arith, common_steps, m)
