-- `application::reckon` meets its contract. One arm for each operation.
-- Assumes nothing.
use mathlib.Core.Path.{sym, ap, ◌∙◌}
use mir.Facts.{to_z-of_z}
use Rattle.language.specs.Syntax as Syntax
use Rattle.language.specs.Prices.{reckoned}
use Rattle.syntax.specs.declared.Operation.{Operation}
use Rattle.syntax.specs.Values.{operation_meant}
use Rattle.application.proofs.reckon.Goals as goal

pub returns-in-Add : goal.returns-in-Add
returns-in-Add c =
    let a = c.args in
    c.add.ensures ∙ (λ i. reckoned Syntax.add (to_z-of_z c.ranges.a i) (to_z-of_z c.ranges.b i))
    ∙ ap (λ (o : Operation). reckoned (operation_meant o) a.a a.b) (sym c.in-Add.is)

pub returns-in-Sub : goal.returns-in-Sub
returns-in-Sub c =
    let a = c.args in
    c.sub.ensures ∙ (λ i. reckoned Syntax.sub (to_z-of_z c.ranges.a i) (to_z-of_z c.ranges.b i))
    ∙ ap (λ (o : Operation). reckoned (operation_meant o) a.a a.b) (sym c.in-Sub.is)

pub returns-in-Times : goal.returns-in-Times
returns-in-Times c =
    let a = c.args in
    c.times.ensures ∙ (λ i. reckoned Syntax.times (to_z-of_z c.ranges.a i) (to_z-of_z c.ranges.b i))
    ∙ ap (λ (o : Operation). reckoned (operation_meant o) a.a a.b) (sym c.in-Times.is)

pub returns-in-Per : goal.returns-in-Per
returns-in-Per c =
    let a = c.args in
    c.per.ensures ∙ (λ i. reckoned Syntax.per (to_z-of_z c.ranges.a i) (to_z-of_z c.ranges.b i))
    ∙ ap (λ (o : Operation). reckoned (operation_meant o) a.a a.b) (sym c.in-Per.is)
