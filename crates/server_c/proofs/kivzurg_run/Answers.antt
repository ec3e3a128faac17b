-- `server_c::kivzurg_run` meets its contract, by the contracts of `run::program` and `wire::wire`.
-- Assumes nothing.
use mathlib.Core.Path.{◌≡◌, sym, ap, subst, ◌∙◌}
use Rattle.language.specs.Calls.{Reply, Buffers, run_call}
use Rattle.answers.specs.Answers.{answer_meant}
use Rattle.wire.specs.Wire.{Fits}
use Rattle.wire.specs.Wire as Wire
use Rattle.server_c.proofs.Fitting.{run_fits}
use borrow.Author.Rules.{rules}
use Rattle.server_c.proofs.kivzurg_run.Goals as goal

pub wire-requires : goal.wire-requires
wire-requires c =
    let lent : Buffers = let a = c.args in record { state = a.state.now; work = a.work.now; output = a.output.now } in
    let answer-is : answer_meant c.program-a.result ≡ (run_call lent c.args.program.now).answer = ap (λ (k : Reply Buffers). k.answer) c.program-a.ensures in
    subst Fits (sym answer-is) (run_fits lent c.args.program.now)

pub returns : goal.returns
returns c =
    let lent : Buffers = let a = c.args in record { state = a.state.now; work = a.work.now; output = a.output.now } in
    let answer-is : answer_meant c.program-a.result ≡ (run_call lent c.args.program.now).answer = ap (λ (k : Reply Buffers). k.answer) c.program-a.ensures in
    (c.wire.ensures ∙ ap Wire.wire answer-is, ap (λ (k : Reply Buffers). k.lent) c.program-a.ensures)
