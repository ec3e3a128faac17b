-- `run::program` meets its contract. Each refusal stands at the first test that fails, before anything lent is written.
-- Assumes nothing.
use mathlib.Core.Path.{sym, subst, ◌∙◌}
use borrow.Author.Tests.{not-true, not-false}
use Rattle.language.specs.Calls.{Buffers}
use Rattle.validate.specs.Checked.{Understood, CheckedMeant}
use Rattle.std.specs.Prelude.{Option}
use Rattle.validate.specs.declared.Parts.{Parts}
use Rattle.run.proofs.Refusals.{run_output, run_state, run_work, run_form, run_closed, run_done}
use Rattle.run.proofs.program.Goals as goal

pub returns-then-output-ne65536 : goal.returns-then-output-ne65536
returns-then-output-ne65536 c =
    let lent : Buffers = let a = c.args in record { state = a.state.now; work = a.work.now; output = a.output.now } in
    run_output lent c.args.program.now c.if-output-ne65536.true

pub returns-then-state-ne65536 : goal.returns-then-state-ne65536
returns-then-state-ne65536 c =
    let lent : Buffers = let a = c.args in record { state = a.state.now; work = a.work.now; output = a.output.now } in
    run_state lent c.args.program.now c.if-output-ne65536.false c.if-state-ne65536.true

pub returns-then-work-ne65536 : goal.returns-then-work-ne65536
returns-then-work-ne65536 c =
    let lent : Buffers = let a = c.args in record { state = a.state.now; work = a.work.now; output = a.output.now } in
    run_work lent c.args.program.now c.if-output-ne65536.false c.if-state-ne65536.false c.if-work-ne65536.true

pub returns-then-not-parts : goal.returns-then-not-parts
returns-then-not-parts c =
    let lent : Buffers = let a = c.args in record { state = a.state.now; work = a.work.now; output = a.output.now } in
    let meant : Option Parts → Type 0 = λ r. CheckedMeant c.args.state.now c.check-checked.new.principals c.check-checked.new.vars c.check-checked.new.assertions r in
    let understood : Understood c.args.state.now c.check-checked.new.principals c.check-checked.new.vars c.check-checked.new.assertions c.in-Some.parts = subst meant c.in-Some.is c.check-checked.ensures in
    let u = understood in
    run_closed lent c.args.program.now c.if-output-ne65536.false c.if-state-ne65536.false c.if-work-ne65536.false u.state u.decoded
    (sym u.represents.is_open ∙ not-true c.in-Some.parts.«open» c.if-not-parts.true)

pub start-requires : goal.start-requires
start-requires c =
    let meant : Option Parts → Type 0 = λ r. CheckedMeant c.args.state.now c.check-checked.new.principals c.check-checked.new.vars c.check-checked.new.assertions r in
    let understood : Understood c.args.state.now c.check-checked.new.principals c.check-checked.new.vars c.check-checked.new.assertions c.in-Some.parts = subst meant c.in-Some.is c.check-checked.ensures in
    record {
      understood = understood;
      state_len = (c.if-state-ne65536.false, c.if-work-ne65536.false, c.if-output-ne65536.false);
      principal_slots_len = (c.check-checked.auto.principals, c.check-checked.auto.vars, c.check-checked.auto.assertions);
    }

pub returns-in-None : goal.returns-in-None
returns-in-None c =
    let lent : Buffers = let a = c.args in record { state = a.state.now; work = a.work.now; output = a.output.now } in
    let meant : Option Parts → Type 0 = λ r. CheckedMeant c.args.state.now c.check-checked.new.principals c.check-checked.new.vars c.check-checked.new.assertions r in
    run_form lent c.args.program.now c.if-output-ne65536.false c.if-state-ne65536.false c.if-work-ne65536.false
    (subst meant c.in-None.is c.check-checked.ensures)

pub returns-else-not-parts : goal.returns-else-not-parts
returns-else-not-parts c =
    let lent : Buffers = let a = c.args in record { state = a.state.now; work = a.work.now; output = a.output.now } in
    let meant : Option Parts → Type 0 = λ r. CheckedMeant c.args.state.now c.check-checked.new.principals c.check-checked.new.vars c.check-checked.new.assertions r in
    let understood : Understood c.args.state.now c.check-checked.new.principals c.check-checked.new.vars c.check-checked.new.assertions c.in-Some.parts = subst meant c.in-Some.is c.check-checked.ensures in
    let u = understood in
    c.start.ensures u
    ∙ run_done lent c.args.program.now c.if-output-ne65536.false c.if-state-ne65536.false c.if-work-ne65536.false u.state u.decoded
    (sym u.represents.is_open ∙ not-false c.in-Some.parts.«open» c.if-not-parts.false)
