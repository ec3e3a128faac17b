-- One command of a program, with the line that it prints.
use Rattle.std.specs.Prelude.{◌≡◌, ℕ, Result, Ok, Err}
use Rattle.language.specs.Text.{Text}
use Rattle.language.specs.Commands.{Effect, Step, refused, went}
use Rattle.value_text.specs.Writing.{Written}
use Rattle.session.specs.declared.Layout.{Layout}
use Rattle.session.specs.Sessions.{Slices, Running}
use Rattle.refusal.specs.Refusals.{refusal_meant}
use Rattle.refusal.specs.declared.Refusal.{Refusal}

-- the step was made, what it leaves is in the buffers, and its line stands in the output from `at` up to n
pub record Advances (k : Step) (l : Layout) (b : Slices) (before : Text) (at n : ℕ) (after : Text) : Type 0 where
  pub effect : Effect
  pub is_step : k ≡ went effect
  pub running : Running effect.after l b
  pub printed : Written before at effect.line n after

abbrev pub Carried : Result (Layout × ℕ) Refusal → Step → Slices → Text → ℕ → Text → Type 0
Carried (Err f) k b before at after = k ≡ refused (refusal_meant f)
Carried (Ok d) k b before at after = Advances k d.0 b before at d.1 after
