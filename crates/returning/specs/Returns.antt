-- Document 01, "Commands": what the ending `return e` says of the step that it is.
use Rattle.std.specs.Prelude.{◌≡◌, ℕ, ◌≤◌, length, take, Result, Ok, Err}
use Rattle.language.specs.Text.{Text}
use Rattle.language.specs.State.{Value}
use Rattle.language.specs.Weight.{limit, value_weight}
use Rattle.language.specs.Output.{returning}
use Rattle.language.specs.Values.{Session}
use Rattle.language.specs.Commands.{Effect, Step, refused, went}
use Rattle.values.specs.Encoding.{Holds}
use Rattle.evaluated.specs.declared.Answered.{Answered}
use Rattle.evaluated.specs.declared.Answered.TheVariants as Told
use Rattle.refusal.specs.declared.Refusal.{Refusal}
use Rattle.refusal.specs.declared.Refusal.TheVariants as Why
use Rattle.refusal.specs.Refusals.{refusal_meant}

-- the step was made, left the session as it was, and printed the value whose text is the first n bytes of out
pub record Returns (k : Step) (s : Session) (out : Text) (n : ℕ) : Type 0 where
  pub effect : Effect
  pub is_step : k ≡ went effect
  pub unchanged : effect.after ≡ s
  pub value : Value
  pub printed : effect.line ≡ returning value
  pub held : Holds value (take n out)
  pub within : n ≤ length out
  pub light : value_weight value ≤ limit

abbrev pub Given : Result ℕ Refusal → Step → Session → Text → Type 0
Given (Err f) k s out = k ≡ refused (refusal_meant f)
Given (Ok n) k s out = Returns k s out n

-- what the answer for the expression makes of the ending
abbrev pub answer_to : Answered → Result ℕ Refusal
answer_to Told.Denied = Err Why.Denied
answer_to Told.Missing = Err Why.Failed
answer_to Told.Heavy = Err Why.Full
answer_to (Told.Value n w) = Ok n
