use Rattle.validate.proofs.Heads.{bad_head, headed_body}
use Rattle.validate.proofs.check.Goals as goal

pub returns-in_err-open : goal.returns-in_err-open
returns-in_err-open c = rw c.from_residual.ensures (bad_head c.args.state.now c.in_err-open.ensures)

pub returns : goal.returns
returns c =
    headed_body c.args.state.now _ _ c.in_ok-open.ensures c.requires.0 c.body_at.new.principals c.body_at.new.vars c.body_at.new.assertions c.body_at.result c.body_at.ensures
