-- `server_c::kivzurg_make` meets its contract, by the contracts of `make::server` and `wire::wire`.
-- Assumes nothing.
use mathlib.Core.Path.{◌≡◌, sym, ap, subst, ◌∙◌}
use Rattle.language.specs.Text.{Text}
use Rattle.language.specs.Calls.{Reply, make_call}
use Rattle.answers.specs.Answers.{answer_meant}
use Rattle.wire.specs.Wire.{Fits}
use Rattle.wire.specs.Wire as Wire
use Rattle.server_c.proofs.Fitting.{make_fits}
use borrow.Author.Rules.{rules}
use Rattle.server_c.proofs.kivzurg_make.Goals as goal

pub wire-requires : goal.wire-requires
wire-requires c =
    let answer-is : answer_meant c.server-a.result ≡ (make_call c.args.state.now c.args.password.now).answer = ap (λ (k : Reply Text). k.answer) c.server-a.ensures in
    subst Fits (sym answer-is) (make_fits c.args.state.now c.args.password.now)

pub returns : goal.returns
returns c =
    let answer-is : answer_meant c.server-a.result ≡ (make_call c.args.state.now c.args.password.now).answer = ap (λ (k : Reply Text). k.answer) c.server-a.ensures in
    (c.wire.ensures ∙ ap Wire.wire answer-is, ap (λ (k : Reply Text). k.lent) c.server-a.ensures)
