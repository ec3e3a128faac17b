-- A command is refused, or done, by what the three definitions that judge it say.
use mathlib.Core.Path.{◌≡◌, subst, ap, ◌∙◌}
use mathlib.Core.Bool.{Bool, true, false}
use lib.Dec.{T}
use Rattle.language.specs.Text.{when◌then◌else◌}
use Rattle.language.specs.Syntax.{Command}
use Rattle.language.specs.Outcomes.{Outcome, gives, fails, fills}
use Rattle.language.specs.Values.{Session}
use Rattle.language.specs.Commands.{Effect, effect, denied, heavy, Step, refused, went, DENIED, FAILED, FULL, verdict, step}
use Rattle.language.proofs.Parsing.ValidPrograms.{valid_command}
use Rattle.language.proofs.Meaning.ValidRuns.{Ready, Done, step_done}

module _ (s : Session) (c : Command) where
  pub is_denied : denied s c ≡ true → step s c ≡ refused DENIED
  is_denied h = ap (λ (b : Bool). verdict b (effect s c)) h

  pub is_failed : denied s c ≡ false → effect s c ≡ fails → step s c ≡ refused FAILED
  is_failed h e = ap (λ (b : Bool). verdict b (effect s c)) h ∙ ap (λ (o : Outcome Effect). verdict false o) e

  -- a value on the way is too heavy
  pub is_filled : denied s c ≡ false → effect s c ≡ fills → step s c ≡ refused FULL
  is_filled h e = ap (λ (b : Bool). verdict b (effect s c)) h ∙ ap (λ (o : Outcome Effect). verdict false o) e

  judged : (f : Effect) → denied s c ≡ false → effect s c ≡ gives f → step s c ≡ (when heavy f then refused FULL else went f)
  judged f h e = ap (λ (b : Bool). verdict b (effect s c)) h ∙ ap (λ (o : Outcome Effect). verdict false o) e

  pub is_full : (f : Effect) → denied s c ≡ false → effect s c ≡ gives f → heavy f ≡ true → step s c ≡ refused FULL
  is_full f h e k = judged f h e ∙ ap (λ (b : Bool). when◌then◌else◌ {A = Step} b (refused FULL) (went f)) k

  pub is_done : (f : Effect) → denied s c ≡ false → effect s c ≡ gives f → heavy f ≡ false → step s c ≡ went f
  is_done f h e k = judged f h e ∙ ap (λ (b : Bool). when◌then◌else◌ {A = Step} b (refused FULL) (went f)) k

  -- a command that is done leaves a session ready for the next
  pub after_ready : (f : Effect) → Ready s → T (valid_command c) → step s c ≡ went f → Ready f.after
  after_ready f r h e = subst Done e (step_done s c r h)
