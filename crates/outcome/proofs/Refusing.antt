-- The end of a program one of whose commands is refused.
-- Assumes nothing.
use mathlib.Core.Path.{◌≡◌}
use mathlib.Core.Bool.{Bool, true, false}
use mathlib.Core.Option.{Option, none, some}
use Rattle.language.specs.Text.{Text, when◌then◌else◌}
use Rattle.language.specs.Syntax.{Name}
use Rattle.language.specs.Run.{End, refusal}
use Rattle.session.specs.Sessions.{Slices}
use Rattle.refusal.specs.declared.Refusal.{Refusal}
use Rattle.refusal.specs.Refusals.{refusal_meant}
use Rattle.outcome.specs.Ends.{unless_broken, Ends}

-- it is refused, where the rest of the text is that of a program
pub refuses : (how : Refusal) (c : Bool) (p : Name) (e : Option End) (b : Slices) (before after : Text)
    → e ≡ (when c then some (refusal (refusal_meant how)) else none) → Ends (unless_broken c how) p e b before after
refuses how true p e b before after q = q
refuses how false p e b before after q = q
