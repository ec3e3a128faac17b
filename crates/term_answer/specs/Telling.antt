-- What an answer says of the names that are evaluated, and of what comes of them.
use Rattle.std.specs.Prelude.{◌≡◌, true, false, List}
use Rattle.language.specs.Text.{Text}
use Rattle.language.specs.Syntax.{Name}
use Rattle.language.specs.State.{Value}
use Rattle.language.specs.Outcomes.{Outcome, fails, fills}
use Rattle.language.specs.Values.{Session}
use Rattle.evaluated.specs.declared.Evaluated.{Evaluated}
use Rattle.evaluated.specs.declared.Evaluated.TheVariants as Worth
use Rattle.evaluated.specs.declared.Answered.{Answered}
use Rattle.evaluated.specs.declared.Answered.TheVariants as Is
use Rattle.evaluated.specs.Results.{Written}
use Rattle.permits.specs.Permits.{unread}

-- the sender may not read one of the names xs; or may read them all, and the outcome is that nothing can be done, that it would weigh too much,
-- or the value that out holds
abbrev pub Tells : Answered → Session → List Name → Outcome Value → Text → Type 0
Tells Is.Denied s xs o out = unread s xs ≡ true
Tells Is.Missing s xs o out = (unread s xs ≡ false) × (o ≡ fails)
Tells Is.Heavy s xs o out = (unread s xs ≡ false) × (o ≡ fills)
Tells (Is.Value n w) s xs o out = (unread s xs ≡ false) × Written o out n w

-- what the evaluation answers, to a sender that may read all of it
abbrev pub answer_of : Evaluated → Answered
answer_of (Worth.Value n w) = Is.Value n w
answer_of Worth.Missing = Is.Missing
answer_of Worth.Heavy = Is.Heavy
