use mathlib.Core.Path.{◌≡◌}
use lib.ListN.{length}
use Rattle.language.specs.State.{Store}
use Rattle.state_lookups.specs.Looks.{Look, variable_of}
use Rattle.validate_c.proofs.Reporting.{no_size, no_room, formed, not_formed, few_variables, short_variables}
use Rattle.validate_c.proofs.state_variable.Goals as goal

pub returns-then-state-ne65536 : goal.returns-then-state-ne65536
returns-then-state-ne65536 c =
    let look : Store → Look = λ s. variable_of s.variables c.args.name.now in
    no_size 65536 look c.args.state.now c.args.out.now c.if-state-ne65536.true

pub returns-then-out-lt65536 : goal.returns-then-out-lt65536
returns-then-out-lt65536 c =
    let look : Store → Look = λ s. variable_of s.variables c.args.name.now in
    no_room 65536 look c.args.state.now c.args.out.now c.if-out-lt65536.true

pub variable-requires : goal.variable-requires
variable-requires c =
    let U = c.in-Some.ensures in
    let k : length c.check-checked.new.vars ≡ 4096 = c.check-checked.auto.vars in
    (record { rows = U.state.variables; held = U.represents.variables }, few_variables _ _ _ _ _ _ U.represents k, short_variables _ _ _ _ _ _ U.represents c.if-state-ne65536.false, c.if-out-lt65536.false)

pub returns-in-Some : goal.returns-in-Some
returns-in-Some c =
    let look : Store → Look = λ s. variable_of s.variables c.args.name.now in
    let U = c.in-Some.ensures in
    formed 65536 look c.args.state.now c.args.out.now c.if-state-ne65536.false c.if-out-lt65536.false U.state U.decoded
    (c.variable.ensures U.state.variables U.represents.variables)

pub returns-in-None : goal.returns-in-None
returns-in-None c =
    let look : Store → Look = λ s. variable_of s.variables c.args.name.now in
    not_formed 65536 look c.args.state.now c.args.out.now c.if-state-ne65536.false c.if-out-lt65536.false
    c.in-None.ensures
