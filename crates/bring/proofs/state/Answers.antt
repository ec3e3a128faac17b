use mathlib.Core.Path.{ap, subst, ◌∙◌}
use Prim.Native.Nat.{◌≤◌}
use native.Mathlib.Omega.{arith}
use Rattle.language.specs.Text.{Text}
use Rattle.language.specs.Encode.{padded}
use Rattle.language.specs.Calls.{ready, BringBuffers}
use Rattle.validate.specs.Checked.{FormerUnderstood, FormerMeant}
use Rattle.bring.proofs.Brought.{weighs, few, light_before, brought, bringing}
use Rattle.bring.proofs.Refused.{former_size, state_size, not_formed, too_heavy, brought_over}
use Rattle.bring.proofs.state.Goals as goal

pub returns-then-former-ne65536 : goal.returns-then-former-ne65536
returns-then-former-ne65536 c =
    let lent : BringBuffers = record { former = c.args.former.now; state = c.args.state.now } in
    former_size lent c.if-former-ne65536.true

pub returns-then-state-ne65536 : goal.returns-then-state-ne65536
returns-then-state-ne65536 c =
    let lent : BringBuffers = record { former = c.args.former.now; state = c.args.state.now } in
    state_size lent c.if-former-ne65536.false c.if-state-ne65536.true

pub returns-in_default : goal.returns-in_default
returns-in_default c =
    let lent : BringBuffers = record { former = c.args.former.now; state = c.args.state.now } in
    not_formed lent c.if-former-ne65536.false c.if-state-ne65536.false
    (subst (λ r. FormerMeant c.args.former.now c.check_former-checked.new.principals c.check_former-checked.new.vars c.check_former-checked.new.assertions r) c.in_default.is c.check_former-checked.ensures)

pub overflow_mul-parts : goal.overflow_mul-parts
overflow_mul-parts c =
    let understood : FormerUnderstood c.args.former.now c.check_former-checked.new.principals c.check_former-checked.new.vars c.check_former-checked.new.assertions c.in-Some.parts = subst (λ r. FormerMeant c.args.former.now c.check_former-checked.new.principals c.check_former-checked.new.vars c.check_former-checked.new.assertions r) c.in-Some.is c.check_former-checked.ensures in
    let no_wrap : (c.in-Some.parts.principals ≤ 4096) × (c.in-Some.parts.weight ≤ 8192) = (few _ _ _ _ _ understood c.check_former-checked.auto.principals, light_before _ _ _ _ _ understood) in
    let n = no_wrap in omega (arith, n.0)

pub overflow_add-parts : goal.overflow_add-parts
overflow_add-parts c =
    let understood : FormerUnderstood c.args.former.now c.check_former-checked.new.principals c.check_former-checked.new.vars c.check_former-checked.new.assertions c.in-Some.parts = subst (λ r. FormerMeant c.args.former.now c.check_former-checked.new.principals c.check_former-checked.new.vars c.check_former-checked.new.assertions r) c.in-Some.is c.check_former-checked.ensures in
    let no_wrap : (c.in-Some.parts.principals ≤ 4096) × (c.in-Some.parts.weight ≤ 8192) = (few _ _ _ _ _ understood c.check_former-checked.auto.principals, light_before _ _ _ _ _ understood) in
    let n = no_wrap in omega (arith, n.0, n.1)

pub returns-then-parts-gt8192 : goal.returns-then-parts-gt8192
returns-then-parts-gt8192 c =
    let lent : BringBuffers = record { former = c.args.former.now; state = c.args.state.now } in
    let understood : FormerUnderstood c.args.former.now c.check_former-checked.new.principals c.check_former-checked.new.vars c.check_former-checked.new.assertions c.in-Some.parts = subst (λ r. FormerMeant c.args.former.now c.check_former-checked.new.principals c.check_former-checked.new.vars c.check_former-checked.new.assertions r) c.in-Some.is c.check_former-checked.ensures in
    let U = understood in
    too_heavy lent c.if-former-ne65536.false c.if-state-ne65536.false U.state U.decoded (omega (arith, weighs _ _ _ _ _ U, c.if-parts-gt8192.true))

pub put_state-requires : goal.put_state-requires
put_state-requires c =
    let understood : FormerUnderstood c.args.former.now c.check_former-checked.new.principals c.check_former-checked.new.vars c.check_former-checked.new.assertions c.in-Some.parts = subst (λ r. FormerMeant c.args.former.now c.check_former-checked.new.principals c.check_former-checked.new.vars c.check_former-checked.new.assertions r) c.in-Some.is c.check_former-checked.ensures in
    bringing _ _ _ _ _ understood c.if-parts-gt8192.false _ c.if-state-ne65536.false

pub returns : goal.returns
returns c =
    let lent : BringBuffers = record { former = c.args.former.now; state = c.args.state.now } in
    let understood : FormerUnderstood c.args.former.now c.check_former-checked.new.principals c.check_former-checked.new.vars c.check_former-checked.new.assertions c.in-Some.parts = subst (λ r. FormerMeant c.args.former.now c.check_former-checked.new.principals c.check_former-checked.new.vars c.check_former-checked.new.assertions r) c.in-Some.is c.check_former-checked.ensures in
    let U = understood in
    ap (λ (l : Text). record { answer = ready; lent = record { former = c.args.former.now; state = l } }) (c.put_state.ensures ∙ ap padded (brought _ _ _ _ _ U))
    ∙ brought_over lent c.if-former-ne65536.false c.if-state-ne65536.false U.state U.decoded (omega (arith, weighs _ _ _ _ _ U, c.if-parts-gt8192.false))
