-- `server_c::kivzurg_ask` meets its contract, by the contracts of `ask::right` and `wire::wire`.
-- Assumes nothing.
use mathlib.Core.Path.{◌≡◌, sym, ap, subst, ◌∙◌}
use Rattle.language.specs.Text.{Text}
use Rattle.language.specs.Calls.{Reply, ask_call}
use Rattle.answers.specs.Answers.{answer_meant}
use Rattle.wire.specs.Wire.{Fits}
use Rattle.wire.specs.Wire as Wire
use Rattle.server_c.proofs.Fitting.{ask_fits}
use borrow.Author.Rules.{rules}
use Rattle.server_c.proofs.kivzurg_ask.Goals as goal

pub wire-requires : goal.wire-requires
wire-requires c =
    let answer-is : answer_meant c.right-a.result ≡ (ask_call c.args.state.now c.args.name.now c.args.variable.now c.args.right).answer = ap (λ (k : Reply Text). k.answer) c.right-a.ensures in
    subst Fits (sym answer-is)
    (ask_fits c.args.state.now c.args.name.now c.args.variable.now c.args.right)

pub returns : goal.returns
returns c =
    let answer-is : answer_meant c.right-a.result ≡ (ask_call c.args.state.now c.args.name.now c.args.variable.now c.args.right).answer = ap (λ (k : Reply Text). k.answer) c.right-a.ensures in
    (c.wire.ensures ∙ ap Wire.wire answer-is, ap (λ (k : Reply Text). k.lent) c.right-a.ensures)
