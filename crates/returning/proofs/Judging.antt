-- What the step of `return e` is, by the answer for its expression.
-- Assumes nothing.
use mathlib.Core.Path.{◌≡◌, refl, ap}
use Prim.Native.Nat.{◌≤◌}
use native.Mathlib.Omega.{arith}
use borrow.Author.Tests.{le-ltb}
use Rattle.language.specs.Text.{Text}
use Rattle.language.specs.Syntax.{Expr, return}
use Rattle.language.specs.State.{Value}
use Rattle.language.specs.Weight.{limit}
use Rattle.language.specs.Output.{returning}
use Rattle.language.specs.Outcomes.{Outcome, gives, ◌>>=◌}
use Rattle.language.specs.Values.{Session}
use Rattle.language.specs.Expressions.{value}
use Rattle.language.specs.Commands.{Effect, effect, session_weight, step}
use Rattle.session.proofs.Steps.{is_denied, is_failed, is_filled, is_done}
use Rattle.lookup.specs.Told.{Answers}
use Rattle.evaluated.specs.declared.Answered.{Answered}
use Rattle.evaluated.specs.declared.Answered.TheVariants as Told
use Rattle.returning.specs.Returns.{Given, answer_to}

abbrev effect_of : Session → Value → Effect
effect_of s v = record { after = s; line = returning v }

module _ (s : Session) (x : Expr) (l : session_weight s ≤ limit) where
  effect_is : (o : Outcome Value) → value s x ≡ o → effect s (return x) ≡ (o >>= λ v. gives (effect_of s v))
  effect_is o e = ap (λ (o : Outcome Value). o >>= λ v. gives (effect_of s v)) e

  pub given_by : (r : Answered) (out : Text) → Answers r s x out → Given (answer_to r) (step s (return x)) s out
  given_by Told.Denied out u = is_denied s (return x) u
  given_by Told.Missing out (u, e) = is_failed s (return x) u (effect_is _ e)
  given_by Told.Heavy out (u, e) = is_filled s (return x) u (effect_is _ e)
  given_by (Told.Value n w) out (u, W) = record {
    effect = effect_of s W.value;
    is_step = is_done s (return x) (effect_of s W.value) u (effect_is _ W.is_value) (le-ltb limit (session_weight s) l);
    unchanged = refl;
    value = W.value;
    printed = refl;
    held = W.held;
    within = W.within;
    light = omega (arith, W.weighs, W.light);
  }
