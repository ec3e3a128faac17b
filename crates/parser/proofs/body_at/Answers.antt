use mathlib.Core.Path.{◌≡◌, ap, ◌∙◌}
use mathlib.Core.List.{◌∷◌}
use Rattle.std.proofs.Common.{Some}
use native.Mathlib.Omega.{arith}
use Rattle.language.specs.Text.{present}
use Rattle.parser.specs.Bodies.{rest_from}
use Rattle.parser.proofs.Bodies.{bound}
use Rattle.parser.proofs.body_at.Goals as goal

pub loop-read-preserved : goal.loop-read-preserved
loop-read-preserved c =
    let t = c.args.text.now in
    let first = c.in-Some.ensures in
    let placed = rw c.in-Some-rest.is at first.placed in
    let all = rw c.in-Some-rest.is at first.all in record {
      within = placed.1;
      same = c.loop-read.invariant.same ∙ ap present all ∙ bound (rest_from t (Some c.in-Some-rest.next)) (λ cs. first.command ∷ cs);
    }
