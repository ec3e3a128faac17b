-- `ask::right` meets its contract. A buffer that the check takes is decoded, and the question is put to what it holds.
-- Assumes nothing.
use mathlib.Core.Path.{subst}
use Rattle.validate.specs.Checked.{Understood, CheckedMeant}
use Rattle.std.specs.Prelude.{Option}
use Rattle.validate.specs.declared.Parts.{Parts}
use Rattle.answers.specs.Answers.{answer_meant}
use Rattle.ask.proofs.Refusals.{ask_size, ask_form, ask_done}
use Rattle.ask.proofs.right.Goals as goal

pub returns-then-state-ne65536 : goal.returns-then-state-ne65536
returns-then-state-ne65536 c = ask_size c.args.state.now c.args.name.now c.args.variable.now c.args.right c.if-state-ne65536.true

pub returns-in_default : goal.returns-in_default
returns-in_default c =
    let meant : Option Parts → Type 0 = λ r. CheckedMeant c.args.state.now c.check-checked.new.principals c.check-checked.new.vars c.check-checked.new.assertions r in
    ask_form c.args.state.now c.args.name.now c.args.variable.now c.args.right c.if-state-ne65536.false
    (subst meant c.in_default.is c.check-checked.ensures)

pub decide-requires : goal.decide-requires
decide-requires c =
    let meant : Option Parts → Type 0 = λ r. CheckedMeant c.args.state.now c.check-checked.new.principals c.check-checked.new.vars c.check-checked.new.assertions r in
    let understood : Understood c.args.state.now c.check-checked.new.principals c.check-checked.new.vars c.check-checked.new.assertions c.in-Some.parts = subst meant c.in-Some.is c.check-checked.ensures in
    understood

pub returns : goal.returns
returns c =
    let meant : Option Parts → Type 0 = λ r. CheckedMeant c.args.state.now c.check-checked.new.principals c.check-checked.new.vars c.check-checked.new.assertions r in
    let understood : Understood c.args.state.now c.check-checked.new.principals c.check-checked.new.vars c.check-checked.new.assertions c.in-Some.parts = subst meant c.in-Some.is c.check-checked.ensures in
    let u = understood in
    ask_done c.args.state.now c.args.name.now c.args.variable.now c.args.right c.if-state-ne65536.false
    u.state u.decoded (answer_meant c.decide.result) (c.decide.ensures u)
