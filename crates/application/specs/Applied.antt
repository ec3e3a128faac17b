-- Requests M-100 and M-104: what a function comes to by the strings that its arguments are, where they are strings.
use Rattle.std.proofs.Math.Option.{Option, none, some}
use Rattle.std.specs.Prelude.{[], ◌∷◌, map}
use Rattle.language.specs.Text.{Text}
use Rattle.language.specs.Syntax.{Function}
use Rattle.language.specs.State.{Value, single, string}
use Rattle.language.specs.Outcomes.{Outcome, fails, ◌>>=◌, from}
use Rattle.language.specs.Functions.{lower_byte, on_strings}
use Rattle.language.specs.Expressions.{weighed}

abbrev pub lowered_to : Option Text → Outcome Value
lowered_to none = fails
lowered_to (some t) = weighed (single (string t) ∷ []) (single (string (map lower_byte t)))

abbrev pub applied_to : Function → Option Text → Option Text → Outcome Value
applied_to f none u = fails
applied_to f (some t) none = fails
applied_to f (some t) (some u) = from (on_strings f t u) >>= weighed (single (string t) ∷ single (string u) ∷ [])
