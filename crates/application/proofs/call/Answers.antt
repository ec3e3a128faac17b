-- `application::call` meets its contract. One arm for each function on strings, and one for the operations on prices.
-- Assumes nothing.
use mathlib.Core.Path.{sym, subst}
use mathlib.Core.Option.{some}
use Rattle.syntax.specs.declared.Function.{Function}
use Rattle.syntax.specs.Values.{function_meant}
use Rattle.evaluated.specs.Results.{Valued}
use Rattle.application.specs.Applied.{applied_to}
use Rattle.application.proofs.call.Goals as goal

pub returns-in-Split : goal.returns-in-Split
returns-in-Split c =
    let a = c.args in
    subst (λ (g : Function). Valued c.split.result (applied_to (function_meant g) (some a.first.now) (some a.second.now)) c.split.new.out)
    (sym c.in-Split.is) c.split.ensures

pub returns-in-Concat : goal.returns-in-Concat
returns-in-Concat c =
    let a = c.args in
    subst (λ (g : Function). Valued c.concat.result (applied_to (function_meant g) (some a.first.now) (some a.second.now)) c.concat.new.out)
    (sym c.in-Concat.is) c.concat.ensures

pub returns-in-Arithmetic : goal.returns-in-Arithmetic
returns-in-Arithmetic c =
    let a = c.args in
    subst (λ (g : Function). Valued c.priced.result (applied_to (function_meant g) (some a.first.now) (some a.second.now)) c.priced.new.out)
    (sym c.in-Arithmetic.is) c.priced.ensures
