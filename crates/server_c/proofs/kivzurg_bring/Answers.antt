-- `server_c::kivzurg_bring` meets its contract, by the contracts of `bring::state` and `wire::wire`.
-- Assumes nothing.
use mathlib.Core.Path.{◌≡◌, sym, ap, subst, ◌∙◌}
use Rattle.language.specs.Calls.{Reply, BringBuffers, bring_call}
use Rattle.answers.specs.Answers.{answer_meant}
use Rattle.wire.specs.Wire.{Fits}
use Rattle.wire.specs.Wire as Wire
use Rattle.server_c.proofs.Fitting.{bring_fits}
use borrow.Author.Rules.{rules}
use Rattle.server_c.proofs.kivzurg_bring.Goals as goal

pub wire-requires : goal.wire-requires
wire-requires c =
    let lent : BringBuffers = let a = c.args in record { former = a.former.now; state = a.state.now } in
    let answer-is : answer_meant c.state-a.result ≡ (bring_call lent).answer = ap (λ (k : Reply BringBuffers). k.answer) c.state-a.ensures in
    subst Fits (sym answer-is) (bring_fits lent)

pub returns : goal.returns
returns c =
    let lent : BringBuffers = let a = c.args in record { former = a.former.now; state = a.state.now } in
    let answer-is : answer_meant c.state-a.result ≡ (bring_call lent).answer = ap (λ (k : Reply BringBuffers). k.answer) c.state-a.ensures in
    (c.wire.ensures ∙ ap Wire.wire answer-is, ap (λ (k : Reply BringBuffers). k.lent) c.state-a.ensures)
