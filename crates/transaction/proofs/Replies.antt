-- The reply to a run that was closed.
-- Assumes nothing.
use mathlib.Core.Path.{◌≡◌}
use Rattle.language.specs.Text.{Text}
use Rattle.language.specs.Run.{End}
use Rattle.language.specs.Calls.{Buffers, state_after, end_reply}
use Rattle.answers.specs.declared.Answer.{Answer}
use Rattle.answers.specs.Answers.{replied}
use Rattle.closing.specs.Closed.{Closed}

pub end_reply_lem : (b : Buffers) (e : End) (r : Answer) (state work out : Text) → Closed r e work out → state ≡ state_after b.state e
    → replied r (record { state = state; work = work; output = out }) ≡ end_reply b e
end_reply_lem b e r state work out C h = λ i. record { answer = C.answered i; lent = record { state = h i; work = C.work_is i; output = C.output_is i } }
