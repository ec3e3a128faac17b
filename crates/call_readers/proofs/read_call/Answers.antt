use mathlib.Core.Path.{◌≡◌, sym, ◌∙◌}
use mathlib.Core.Option.{some}
use borrow.Author.Rules.{rules}
use native.Mathlib.Omega.{arith}
use lib.ListN.{drop}
use Rattle.std.proofs.lemmas.Grind.{common_steps}
use Rattle.language.specs.Tokens.{lex}
use Rattle.language.specs.Syntax.{call}
use Rattle.text.specs.Meaning.{part}
use Rattle.syntax.specs.Values.{function_meant}
use Rattle.call_readers.proofs.Calls.{lower_call, function_call}
use Rattle.call_readers.proofs.read_call.Goals as goal

pub returns-then-is-clause-meant : goal.returns-then-is-clause-meant
returns-then-is-clause-meant c =
    let s = c.args.scanner.now in
    c.read_lowered.ensures.meant ∙ lower_call (part s.text.now c.args.word) (lex (drop s.at s.text.now)) (sym c.is.ensures ∙ c.if-is.true)

pub returns-in_err-first-clause-meant : goal.returns-in_err-first-clause-meant
returns-in_err-first-clause-meant c =
    let s = c.args.scanner.now in
    let f = function_meant c.in-Some.function in
    let k = function_call (part s.text.now c.args.word) (lex (drop s.at s.text.now)) f (sym c.in-Some.ensures) in
    let m = c.in_err-first.ensures.meant (call f) in
    grind (arith, common_steps, k, m)

pub returns-clause-meant : goal.returns-clause-meant
returns-clause-meant c =
    let s = c.args.scanner.now in
    let f = function_meant c.in-Some.function in
    let k = function_call (part s.text.now c.args.word) (lex (drop s.at s.text.now)) f (sym c.in-Some.ensures) in
    c.in_ok-first.ensures.meant (call f) ∙ sym k
