-- What the evaluation answers, told to a sender that may read all of it.
use mathlib.Core.Path.{◌≡◌, sym, subst}
use mathlib.Core.Bool.{false}
use mathlib.Core.List.{List}
use Rattle.language.specs.Text.{Text}
use Rattle.language.specs.Syntax.{Name}
use Rattle.language.specs.State.{Value}
use Rattle.language.specs.Outcomes.{Outcome}
use Rattle.language.specs.Values.{Session}
use Rattle.evaluated.specs.declared.Evaluated.{Evaluated}
use Rattle.evaluated.specs.declared.Evaluated.TheVariants as Worth
use Rattle.evaluated.specs.declared.Answered.{Answered}
use Rattle.evaluated.specs.Results.{Valued}
use Rattle.permits.specs.Permits.{unread}
use Rattle.term_answer.specs.Telling.{Tells, answer_of}

pub tells : (s : Session) (xs : List Name) (o : Outcome Value) (out : Text) (v : Evaluated) (r : Answered)
    → r ≡ answer_of v → unread s xs ≡ false → Valued v o out → Tells r s xs o out
tells s xs o out v r e h k = subst (λ (a : Answered). Tells a s xs o out) (sym e) (go v k)
  where
    go : (v : Evaluated) → Valued v o out → Tells (answer_of v) s xs o out
    go (Worth.Value n w) k = (h, k)
    go Worth.Missing k = (h, k)
    go Worth.Heavy k = (h, k)
