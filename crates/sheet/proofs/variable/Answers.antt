-- `sheet::variable` meets its contract. A buffer that the check takes is decoded, and the sheet is that of the state that it holds.
-- Assumes nothing.
use mathlib.Core.Path.{subst}
use Rattle.language.specs.Calls.{SheetBuffers}
use Rattle.validate.specs.Checked.{Understood, CheckedMeant}
use Rattle.std.specs.Prelude.{Option}
use Rattle.validate.specs.declared.Parts.{Parts}
use Rattle.sheet.proofs.Refusals.{sheet_output, sheet_size, sheet_form, sheet_on_lem}
use Rattle.sheet.proofs.variable.Goals as goal

pub returns-then-output-ne65536 : goal.returns-then-output-ne65536
returns-then-output-ne65536 c =
    let lent : SheetBuffers = record { state = c.args.state.now; output = c.args.output.now } in
    sheet_output lent c.args.variable.now c.if-output-ne65536.true

pub returns-then-state-ne65536 : goal.returns-then-state-ne65536
returns-then-state-ne65536 c =
    let lent : SheetBuffers = record { state = c.args.state.now; output = c.args.output.now } in
    sheet_size lent c.args.variable.now c.if-output-ne65536.false c.if-state-ne65536.true

pub returns-in_default : goal.returns-in_default
returns-in_default c =
    let lent : SheetBuffers = record { state = c.args.state.now; output = c.args.output.now } in
    let meant : Option Parts → Type 0 = λ r. CheckedMeant c.args.state.now c.check-checked.new.principals c.check-checked.new.vars c.check-checked.new.assertions r in
    sheet_form lent c.args.variable.now c.if-output-ne65536.false c.if-state-ne65536.false
    (subst meant c.in_default.is c.check-checked.ensures)

pub list-requires : goal.list-requires
list-requires c =
    let meant : Option Parts → Type 0 = λ r. CheckedMeant c.args.state.now c.check-checked.new.principals c.check-checked.new.vars c.check-checked.new.assertions r in
    let understood : Understood c.args.state.now c.check-checked.new.principals c.check-checked.new.vars c.check-checked.new.assertions c.in-Some.parts = subst meant c.in-Some.is c.check-checked.ensures in
    (understood, c.if-output-ne65536.false)

pub returns : goal.returns
returns c =
    let lent : SheetBuffers = record { state = c.args.state.now; output = c.args.output.now } in
    let meant : Option Parts → Type 0 = λ r. CheckedMeant c.args.state.now c.check-checked.new.principals c.check-checked.new.vars c.check-checked.new.assertions r in
    let understood : Understood c.args.state.now c.check-checked.new.principals c.check-checked.new.vars c.check-checked.new.assertions c.in-Some.parts = subst meant c.in-Some.is c.check-checked.ensures in
    let u = understood in
    sheet_on_lem lent c.args.variable.now c.if-output-ne65536.false c.if-state-ne65536.false u.state u.decoded _ (c.list.ensures u)
