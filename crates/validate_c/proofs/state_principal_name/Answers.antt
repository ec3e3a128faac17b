use mathlib.Core.Path.{◌≡◌, subst}
use lib.ListN.{length}
use Rattle.language.specs.State.{Store}
use mathlib.Core.List.{List, map}
use Rattle.language.specs.Syntax.{Name}
use Rattle.store.specs.Rows.{principal_row}
use Rattle.store.proofs.Answers.{principal_names_lem}
use Rattle.named_rights.specs.Numbers.{principals_of}
use Rattle.state_lookups.specs.Looks.{Look, Says, name_of}
use Rattle.validate_c.proofs.Reporting.{no_size, no_room, formed, not_formed, few_principals, principal_rows, short_principals}
use Rattle.validate_c.proofs.state_principal_name.Goals as goal

pub returns-then-state-ne65536 : goal.returns-then-state-ne65536
returns-then-state-ne65536 c =
    let look : Store → Look = λ s. name_of (principals_of s) c.args.number in
    no_size 65536 look c.args.state.now c.args.out.now c.if-state-ne65536.true

pub returns-then-out-lt65536 : goal.returns-then-out-lt65536
returns-then-out-lt65536 c =
    let look : Store → Look = λ s. name_of (principals_of s) c.args.number in
    no_room 65536 look c.args.state.now c.args.out.now c.if-out-lt65536.true

pub nth_name-requires : goal.nth_name-requires
nth_name-requires c =
    let U = c.in-Some.ensures in
    let k : length c.check-checked.new.principals ≡ 1024 = c.check-checked.auto.principals in
    (record { rows = map principal_row U.state.principals; held = principal_rows _ _ _ _ _ _ U.represents }, few_principals _ _ _ _ _ _ U.represents k, short_principals _ _ _ _ _ _ U.represents c.if-state-ne65536.false, c.if-out-lt65536.false)

pub returns-in-Some : goal.returns-in-Some
returns-in-Some c =
    let look : Store → Look = λ s. name_of (principals_of s) c.args.number in
    let U = c.in-Some.ensures in
    formed 65536 look c.args.state.now c.args.out.now c.if-state-ne65536.false c.if-out-lt65536.false U.state U.decoded
    (subst (λ (l : List Name). Says (name_of l c.args.number) c.args.out.now c.nth_name.new.out c.nth_name.result) (principal_names_lem U.state.principals)
    (c.nth_name.ensures (map principal_row U.state.principals) (principal_rows _ _ _ _ _ _ U.represents)))

pub returns-in-None : goal.returns-in-None
returns-in-None c =
    let look : Store → Look = λ s. name_of (principals_of s) c.args.number in
    not_formed 65536 look c.args.state.now c.args.out.now c.if-state-ne65536.false c.if-out-lt65536.false
    c.in-None.ensures
