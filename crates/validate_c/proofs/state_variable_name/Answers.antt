use mathlib.Core.Path.{◌≡◌, subst}
use lib.ListN.{length}
use Rattle.language.specs.State.{Store}
use mathlib.Core.List.{List, map}
use Rattle.language.specs.Syntax.{Name}
use Rattle.store.specs.Rows.{variable_row}
use Rattle.store.proofs.Answers.{variable_names_lem}
use Rattle.named_rights.specs.Numbers.{variables}
use Rattle.state_lookups.specs.Looks.{Look, Says, name_of}
use Rattle.validate_c.proofs.Reporting.{no_size, no_room, formed, not_formed, few_variables, variable_rows, short_variables}
use Rattle.validate_c.proofs.state_variable_name.Goals as goal

pub returns-then-state-ne65536 : goal.returns-then-state-ne65536
returns-then-state-ne65536 c =
    let look : Store → Look = λ s. name_of (variables s) c.args.number in
    no_size 65536 look c.args.state.now c.args.out.now c.if-state-ne65536.true

pub returns-then-out-lt65536 : goal.returns-then-out-lt65536
returns-then-out-lt65536 c =
    let look : Store → Look = λ s. name_of (variables s) c.args.number in
    no_room 65536 look c.args.state.now c.args.out.now c.if-out-lt65536.true

pub nth_name-requires : goal.nth_name-requires
nth_name-requires c =
    let U = c.in-Some.ensures in
    let k : length c.check-checked.new.vars ≡ 4096 = c.check-checked.auto.vars in
    (record { rows = map variable_row U.state.variables; held = variable_rows _ _ _ _ _ _ U.represents }, few_variables _ _ _ _ _ _ U.represents k, short_variables _ _ _ _ _ _ U.represents c.if-state-ne65536.false, c.if-out-lt65536.false)

pub returns-in-Some : goal.returns-in-Some
returns-in-Some c =
    let look : Store → Look = λ s. name_of (variables s) c.args.number in
    let U = c.in-Some.ensures in
    formed 65536 look c.args.state.now c.args.out.now c.if-state-ne65536.false c.if-out-lt65536.false U.state U.decoded
    (subst (λ (l : List Name). Says (name_of l c.args.number) c.args.out.now c.nth_name.new.out c.nth_name.result) (variable_names_lem U.state.variables)
    (c.nth_name.ensures (map variable_row U.state.variables) (variable_rows _ _ _ _ _ _ U.represents)))

pub returns-in-None : goal.returns-in-None
returns-in-None c =
    let look : Store → Look = λ s. name_of (variables s) c.args.number in
    not_formed 65536 look c.args.state.now c.args.out.now c.if-state-ne65536.false c.if-out-lt65536.false
    c.in-None.ensures
