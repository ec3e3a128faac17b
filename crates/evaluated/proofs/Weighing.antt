-- What a value comes to: itself, where it and the arguments that it was made of are light.
-- Assumes nothing.
use mathlib.Core.Path.{◌≡◌, refl, ap, ◌∙◌}
use Prim.Native.Nat.{◌≤◌, ◌<◌}
use mathlib.Core.Bool.{Bool, ◌||◌, true, false}
use mathlib.Core.Option.{Option, some}
use mathlib.Core.List.{List, [], ◌∷◌}
use borrow.Author.Tests.{lt-ltb, le-ltb}
use Rattle.language.specs.Text.{when◌then◌else◌, any}
use Rattle.language.specs.State.{Value}
use Rattle.language.specs.Weight.{limit, value_weight}
use Rattle.language.specs.Outcomes.{Outcome, gives, fills}
use Rattle.language.specs.Expressions.{is_heavy, weighed}
use Rattle.language.proofs.Logic.Tests.{or_true}
use Rattle.evaluated.specs.Weighed.{by_weight}

module _ (vs : List Value) (v : Value) where
  -- too heavy by the result, or by an argument
  pub result_heavy : limit < value_weight v → weighed vs v ≡ fills
  result_heavy h = ap (λ (b : Bool). when◌then◌else◌ {A = Outcome Value} (b || any is_heavy vs) fills (gives v)) (lt-ltb limit (value_weight v) h)

  pub argument_heavy : any is_heavy vs ≡ true → weighed vs v ≡ fills
  argument_heavy h = ap (λ (b : Bool). when◌then◌else◌ {A = Outcome Value} b fills (gives v)) (ap (λ (b : Bool). is_heavy v || b) h ∙ or_true (is_heavy v))

  pub all_light : value_weight v ≤ limit → any is_heavy vs ≡ false → weighed vs v ≡ gives v
  all_light h k = λ i. when◌then◌else◌ {A = Outcome Value} (le-ltb limit (value_weight v) h i || k i) fills (gives v)

-- two arguments
module _ (v w : Value) where
  pub first_heavy : limit < value_weight v → any is_heavy (v ∷ w ∷ []) ≡ true
  first_heavy h = ap (λ (b : Bool). b || (is_heavy w || false)) (lt-ltb limit (value_weight v) h)

  pub second_heavy : limit < value_weight w → any is_heavy (v ∷ w ∷ []) ≡ true
  second_heavy h = ap (λ (b : Bool). is_heavy v || (b || false)) (lt-ltb limit (value_weight w) h) ∙ or_true (is_heavy v)

  pub both_light : value_weight v ≤ limit → value_weight w ≤ limit → any is_heavy (v ∷ w ∷ []) ≡ false
  both_light h k = λ i. le-ltb limit (value_weight v) h i || (le-ltb limit (value_weight w) k i || false)

-- none
module _ (v : Value) where
  pub weighed_light : value_weight v ≤ limit → weighed [] v ≡ gives v
  weighed_light h = all_light [] v h refl

  pub weighed_heavy : limit < value_weight v → weighed [] v ≡ fills
  weighed_heavy h = result_heavy [] v h

module _ (o : Option Value) (v : Value) (e : o ≡ some v) where
  pub light_value : value_weight v ≤ limit → by_weight o ≡ gives v
  light_value h = ap by_weight e ∙ weighed_light v h

  pub heavy_value : limit < value_weight v → by_weight o ≡ fills
  heavy_value h = ap by_weight e ∙ weighed_heavy v h
