use native.Mathlib.Omega.{arith}
use lib.ListN.{length-map}
use Rattle.store.specs.Rows.{Row, row_names}
use Rattle.store.proofs.Positions.{position_most}
use Rattle.store.proofs.Answers.{answered, unanswered}
use Rattle.contents.proofs.number_of.Goals as goal

pub returns-in-Some : goal.returns-in-Some
returns-in-Some c l H = (answered l c.args.name.now _ _ _ (c.in-Some.ensures l H)).number

pub returns-in-None : goal.returns-in-None
returns-in-None c l H =
    let x = c.args.name.now in
    omega (arith, unanswered l x (c.in-None.ensures l H), H.counted, position_most (row_names l) x, length-map l (λ (r : Row). r.name))
