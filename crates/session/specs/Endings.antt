-- What a command's ending says of the step that document 01 defines.
use Rattle.std.specs.Prelude.{◌≡◌}
use Rattle.language.specs.Commands.{Effect, Step, refused, went, DENIED, FAILED, FULL}
use Rattle.session.specs.declared.Layout.{Layout}
use Rattle.session.specs.declared.Verdict.{Verdict}
use Rattle.session.specs.declared.Verdict.TheVariants.{Denied, Failed, Full, Done}
use Rattle.session.specs.Sessions.{Slices, Running}

-- the step was made, and what it leaves is in the buffers
pub record Succeeds (k : Step) (l : Layout) (b : Slices) : Type 0 where
  pub effect : Effect
  pub is_step : k ≡ went effect
  pub running : Running effect.after l b

abbrev pub Ended : Verdict → Step → Slices → Type 0
Ended Denied k b = k ≡ refused DENIED
Ended Failed k b = k ≡ refused FAILED
Ended Full k b = k ≡ refused FULL
Ended (Done l) k b = Succeeds k l b
