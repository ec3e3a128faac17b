-- `make::server` meets its contract. Each refusal stands at the first test that fails.
-- Assumes nothing.
use mathlib.Core.Path.{◌≡◌, sym, ap, ◌∙◌}
use mathlib.Core.Bool.{true}
use borrow.Author.Tests.{not-true, not-false}
use Rattle.language.specs.Identifiers.{is_string}
use Rattle.language.specs.Text.{Text}
use Rattle.language.specs.Calls.{ready}
use Rattle.make.proofs.Refusals.{make_size, make_bytes, make_long, make_done}
use borrow.Author.Rules.{rules}
use Rattle.make.proofs.server.Goals as goal

pub returns-then-state-ne65536 : goal.returns-then-state-ne65536
returns-then-state-ne65536 c = make_size c.args.state.now c.args.password.now c.if-state-ne65536.true

pub returns-then-not-is_string : goal.returns-then-not-is_string
returns-then-not-is_string c =
    make_bytes c.args.state.now c.args.password.now c.if-state-ne65536.false
    (sym c.is_string.ensures ∙ not-true c.is_string.result c.if-not-is_string.true-raw)

pub returns-then-password-gt1024 : goal.returns-then-password-gt1024
returns-then-password-gt1024 c =
    let string-known : is_string c.args.password.now ≡ true = sym c.is_string.ensures ∙ not-false c.is_string.result c.if-not-is_string.false-raw in
    make_long c.args.state.now c.args.password.now c.if-state-ne65536.false string-known c.if-password-gt1024.true

pub returns : goal.returns
returns c =
    let string-known : is_string c.args.password.now ≡ true = sym c.is_string.ensures ∙ not-false c.is_string.result c.if-not-is_string.false-raw in
    ap (λ (l : Text). record { answer = ready; lent = l }) c.put_fresh.ensures
    ∙ make_done c.args.state.now c.args.password.now c.if-state-ne65536.false string-known c.if-password-gt1024.false
