-- What a comparison comes to, by the weights of its arguments.
-- Assumes nothing.
use mathlib.Core.Path.{◌≡◌, refl, ◌∙◌}
use Prim.Native.Nat.{◌≤◌, ◌<◌}
use native.Mathlib.Omega.{arith}
use mathlib.Core.Bool.{Bool, true, false}
use mathlib.Core.Option.{Option, none, some}
use mathlib.Core.List.{[], ◌∷◌}
use Rattle.language.specs.Syntax.{Comparison}
use Rattle.language.specs.State.{Element, single}
use Rattle.language.specs.Weight.{limit, element_weight, value_weight}
use Rattle.language.specs.Outcomes.{gives, fails, fills}
use Rattle.language.specs.Functions.{holds, answer}
use Rattle.language.specs.Expressions.{weighed}
use Rattle.evaluated.proofs.Weighing as Weighing
use Rattle.evaluated.proofs.Weighing.{argument_heavy, all_light, both_light}
use Rattle.equality.specs.Elements.{compared_to}

pub no_second : (c : Comparison) (o : Option Element) → compared_to c o none ≡ fails
no_second c none = refl
no_second c (some e) = refl

answer_light : (b : Bool) → value_weight (answer b) ≤ limit
answer_light true = omega arith
answer_light false = omega arith

module _ (c : Comparison) (o p : Option Element) (e d : Element) (h : o ≡ some e) (k : p ≡ some d) where
  by_both : compared_to c o p ≡ weighed (single e ∷ single d ∷ []) (answer (holds c e d))
  by_both = λ i. compared_to c (h i) (k i)

  pub first_heavy : limit < element_weight e → compared_to c o p ≡ fills
  first_heavy l = by_both ∙ argument_heavy (single e ∷ single d ∷ []) (answer (holds c e d)) (Weighing.first_heavy (single e) (single d) l)

  pub second_heavy : limit < element_weight d → compared_to c o p ≡ fills
  second_heavy l = by_both ∙ argument_heavy (single e ∷ single d ∷ []) (answer (holds c e d)) (Weighing.second_heavy (single e) (single d) l)

  pub answered : element_weight e ≤ limit → element_weight d ≤ limit → compared_to c o p ≡ gives (answer (holds c e d))
  answered l m = by_both ∙ all_light (single e ∷ single d ∷ []) (answer (holds c e d)) (answer_light (holds c e d)) (both_light (single e) (single d) l m)
