-- Laws of calls: what the grammar makes of a keyword that names a function or a comparison, and of what stands in the parentheses after it.
-- Assumes nothing.
use mathlib.Core.Path.{◌≡◌, refl, sym, ap, ◌∙◌}
use mathlib.Core.Option.{none, some}
use mathlib.Core.List.{List, ◌∷◌}
use mathlib.Core.Bool.{Bool, true, false}
use Rattle.language.specs.Text.{Text, bytes, ◌≟◌}
use Rattle.language.specs.Tokens.{Token, sign}
use Rattle.language.specs.Syntax.{Operand, add, sub, times, per, Function, split, concat, Comparison, equal, notequal, tolower, call, compare}
use Rattle.language.specs.Grammar.{the, any_operand, operation_of, function_for, function_of, comparison_of, any_call, any_term}
use Rattle.call_readers.specs.Functions.{Made, two_values, comparing}
use Rattle.text.proofs.Words.{same_true}
use Rattle.tokens.proofs.Reading.{no_some, or_else_none}

-- ---- the keyword w
module _ (w : Text) where
  -- a function of two values is not `tolower`
  not_lower : (f : Function) → function_of w ≡ some f → (w ≟ bytes "tolower") ≡ false
  not_lower f e = go (w ≟ bytes "tolower") refl
    where
      go : (t : Bool) → (w ≟ bytes "tolower") ≡ t → t ≡ false
      go true q = no_some (sym (ap function_of (same_true w (bytes "tolower") q)) ∙ e)
      go false q = refl

  -- nor a comparison
  not_compared : (f : Function) → function_of w ≡ some f → comparison_of w ≡ none
  not_compared f e = go (w ≟ bytes "equal") (w ≟ bytes "notequal") refl refl
    where
      go : (s t : Bool) → (w ≟ bytes "equal") ≡ s → (w ≟ bytes "notequal") ≡ t → comparison_of w ≡ none
      go true t p q = no_some (sym (ap function_of (same_true w (bytes "equal") p)) ∙ e)
      go false true p q = no_some (sym (ap function_of (same_true w (bytes "notequal") q)) ∙ e)
      go false false p q = rw (p, q)

  module _ (us : List Token) where
    pub lower_call : (w ≟ bytes "tolower") ≡ true → any_call (sign (bytes "tolower") ∷ us) ≡ any_call (sign w ∷ us)
    lower_call q = sym (ap (λ (v : Text). any_call (sign v ∷ us)) (same_true w (bytes "tolower") q))

    pub function_call : (f : Function) → function_of w ≡ some f → any_call (sign w ∷ us) ≡ two_values (call f) us
    function_call f e = rw (not_lower f e, e, not_compared f e) (or_else_none (two_values (call f) us))

    -- what starts neither a record nor the empty list is a call
    pub call_only : (w ≟ bytes "{") ≡ false → (w ≟ bytes "[]") ≡ false → any_term (sign w ∷ us) ≡ any_call (sign w ∷ us)
    call_only p q = rw (p, q) (or_else_none (any_call (sign w ∷ us)))
