-- `server_c::kivzurg_sheet` meets its contract, by the contracts of `sheet::variable` and `wire::wire`.
-- Assumes nothing.
use mathlib.Core.Path.{◌≡◌, sym, ap, subst, ◌∙◌}
use Rattle.language.specs.Calls.{Reply, SheetBuffers, sheet_call}
use Rattle.answers.specs.Answers.{answer_meant}
use Rattle.wire.specs.Wire.{Fits}
use Rattle.wire.specs.Wire as Wire
use Rattle.server_c.proofs.Fitting.{sheet_fits_answer}
use borrow.Author.Rules.{rules}
use Rattle.server_c.proofs.kivzurg_sheet.Goals as goal

pub wire-requires : goal.wire-requires
wire-requires c =
    let lent : SheetBuffers = let a = c.args in record { state = a.state.now; output = a.output.now } in
    let answer-is : answer_meant c.variable-a.result ≡ (sheet_call lent c.args.variable.now).answer = ap (λ (k : Reply SheetBuffers). k.answer) c.variable-a.ensures in
    subst Fits (sym answer-is) (sheet_fits_answer lent _)

pub returns : goal.returns
returns c =
    let lent : SheetBuffers = let a = c.args in record { state = a.state.now; output = a.output.now } in
    let answer-is : answer_meant c.variable-a.result ≡ (sheet_call lent c.args.variable.now).answer = ap (λ (k : Reply SheetBuffers). k.answer) c.variable-a.ensures in
    (c.wire.ensures ∙ ap Wire.wire answer-is, ap (λ (k : Reply SheetBuffers). k.lent) c.variable-a.ensures)
