-- What a function comes to, by the lengths of its strings, or by the prices that they are.
-- Assumes nothing.
use mathlib.Core.Path.{◌≡◌, refl, ap, subst, ◌∙◌}
use Prim.Native.Nat.{◌+◌, ◌-◌, ◌≤◌, ◌<◌}
use native.Mathlib.Omega.{arith}
use mathlib.Core.Bool.{Bool, false, ◌||◌}
use mathlib.Core.Option.{Option, none, some}
use mathlib.Core.List.{[], ◌∷◌, ◌++◌, map}
use lib.IntN.{ℤ}
use lib.Dec.{T}
use lib.ListN.{length, length-append, length-map, take, drop, take-append-drop}
use borrow.Author.Tests.{le-ltb}
use Rattle.language.specs.Text.{Text, any}
use Rattle.language.specs.Syntax.{Operation, Function, split, concat, arithmetic}
use Rattle.language.specs.State.{Value, single, string}
use Rattle.language.specs.Weight.{limit, value_weight}
use Rattle.language.specs.Outcomes.{gives, fails, fills}
use Rattle.language.specs.Prices.{in_range, price_text, price, reckoned}
use Rattle.language.specs.Functions.{lower_byte, cut}
use Rattle.language.specs.Expressions.{is_heavy, weighed}
use Rattle.language.proofs.Logic.Outcomes.{Where}
use Rattle.language.proofs.Meaning.Prices.{price_length, price_in_range, price_is_text, reckoned_in_range}
use Rattle.evaluated.proofs.Weighing as Weighing
use Rattle.evaluated.proofs.Weighing.{result_heavy, argument_heavy, all_light, both_light}
use Rattle.application.specs.Applied.{lowered_to, applied_to}

-- ---- tolower

module _ (t : Text) where
  pub lower_heavy : limit < length t → lowered_to (some t) ≡ fills
  lower_heavy h = result_heavy (single (string t) ∷ []) (single (string (map lower_byte t))) (omega (arith, h, length-map t lower_byte))

  pub lower_light : length t ≤ limit → lowered_to (some t) ≡ gives (single (string (map lower_byte t)))
  lower_light h =
      all_light (single (string t) ∷ []) (single (string (map lower_byte t))) (omega (arith, h, length-map t lower_byte))
      (ap (λ (b : Bool). b || false) (le-ltb limit (length t) h))

-- ---- two arguments

pub no_second : (f : Function) (o : Option Text) → applied_to f o none ≡ fails
no_second f none = refl
no_second f (some t) = refl

module _ (t u : Text) where
  pub second_heavy : (v : Value) → limit < length u → weighed (single (string t) ∷ single (string u) ∷ []) v ≡ fills
  second_heavy v h = argument_heavy (single (string t) ∷ single (string u) ∷ []) v (Weighing.second_heavy (single (string t)) (single (string u)) h)

  light_arguments : length t ≤ limit → length u ≤ limit → any is_heavy (single (string t) ∷ single (string u) ∷ []) ≡ false
  light_arguments h k = both_light (single (string t)) (single (string u)) h k

  -- split: the parts are as long as the text
  pub cut_weighs : value_weight (cut t (length u)) ≡ length t + 8
  cut_weighs =
      let e : length (take (length u) t ++ drop (length u) t) ≡ length t = ap length (take-append-drop (length u) t) in
      omega (arith, e, length-append (take (length u) t) (drop (length u) t))

  pub split_heavy : limit - 8 < length t → applied_to split (some t) (some u) ≡ fills
  split_heavy h = result_heavy (single (string t) ∷ single (string u) ∷ []) (cut t (length u)) (omega (arith, h, cut_weighs))

  pub split_light : length t ≤ limit - 8 → length u ≤ limit → applied_to split (some t) (some u) ≡ gives (cut t (length u))
  split_light h k = all_light (single (string t) ∷ single (string u) ∷ []) (cut t (length u)) (omega (arith, h, cut_weighs)) (light_arguments (omega (arith, h)) k)

  -- concat
  pub concat_heavy : limit < length t + length u → applied_to concat (some t) (some u) ≡ fills
  concat_heavy h = result_heavy (single (string t) ∷ single (string u) ∷ []) (single (string (t ++ u))) (omega (arith, h, length-append t u))

  pub concat_light : length t + length u ≤ limit → applied_to concat (some t) (some u) ≡ gives (single (string (t ++ u)))
  concat_light h =
      all_light (single (string t) ∷ single (string u) ∷ []) (single (string (t ++ u))) (omega (arith, h, length-append t u)) (light_arguments (omega (arith, h)) (omega (arith, h)))

-- ---- prices: they are short, and so is what an operation gives

short_price : (t : Text) {a : ℤ} → price t ≡ some a → length t ≤ limit
short_price t {a} e =
    let l : length (price_text a) ≤ 11 = price_length a (price_in_range t a e) in
    omega (arith, l, ap length (price_is_text t a e))

module _ (o : Operation) (t u : Text) where
  pub no_first_price : price t ≡ none → applied_to (arithmetic o) (some t) (some u) ≡ fails
  no_first_price e = rw e

  module _ {a : ℤ} (e₁ : price t ≡ some a) where
    pub no_second_price : price u ≡ none → applied_to (arithmetic o) (some t) (some u) ≡ fails
    no_second_price e = rw (e₁, e)

    module _ {b : ℤ} (e₂ : price u ≡ some b) where
      pub no_result : reckoned o a b ≡ none → applied_to (arithmetic o) (some t) (some u) ≡ fails
      no_result e = rw (e₁, e₂, e)

      pub result_range : {c : ℤ} → reckoned o a b ≡ some c → T (in_range c)
      result_range e = subst (Where (λ c. T (in_range c))) e (reckoned_in_range o a b)

      pub price_light : {c : ℤ} → reckoned o a b ≡ some c → applied_to (arithmetic o) (some t) (some u) ≡ gives (single (string (price_text c)))
      price_light {c} e =
          let w : applied_to (arithmetic o) (some t) (some u) ≡ weighed (single (string t) ∷ single (string u) ∷ []) (single (string (price_text c))) = rw (e₁, e₂, e) in
          let l : length (price_text c) ≤ 11 = price_length c (result_range e) in
          w ∙ all_light (single (string t) ∷ single (string u) ∷ []) (single (string (price_text c))) (omega (arith, l)) (light_arguments t u (short_price t e₁) (short_price u e₂))
