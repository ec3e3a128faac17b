use Rattle.validate_c.proofs.Reporting.{count_refused, count_bad, count_good, decoded_valid}
use Rattle.validate_c.proofs.state_principal_count.Goals as goal

pub returns-then-state-ne65536 : goal.returns-then-state-ne65536
returns-then-state-ne65536 c = count_refused c.args.state.now c.args.name.now c.if-state-ne65536.true

pub count-requires : goal.count-requires
count-requires c =
    let U = c.in-Some.ensures in
    record { principals = U.state.principals; held = U.represents.principals; valid = decoded_valid c.args.state.now U.state U.decoded }

pub returns-in-Some : goal.returns-in-Some
returns-in-Some c =
    let U = c.in-Some.ensures in
    count_good c.args.state.now c.args.name.now c.if-state-ne65536.false U.state _ U.decoded
    (c.count.ensures U.state.principals U.represents.principals (decoded_valid c.args.state.now U.state U.decoded))

pub returns-in-None : goal.returns-in-None
returns-in-None c =
    count_bad c.args.state.now c.args.name.now c.if-state-ne65536.false
    c.in-None.ensures
