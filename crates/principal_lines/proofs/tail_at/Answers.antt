use Rattle.std.proofs.Common.{◌+◌, Some, sym, subst}
use Rattle.principal_lines.specs.Principals.{form_meant, TailMeant}
use Rattle.principal_lines.proofs.OneLine.{tail_read}
use Rattle.principal_lines.proofs.tail_at.Goals as goal

pub returns-in_ok-e-in-Current : goal.returns-in_ok-e-in-Current
returns-in_ok-e-in-Current c =
    let a = c.args in
    let o = c.in_ok-e-in-Current in
    subst (λ f. TailMeant (form_meant f) a.text.now a.at (Some (o.e + 1))) (sym c.in-Current.is) (_, tail_read a.text.now a.at _ _ o.ensures)
