-- What an answer of the evaluation says of the value of an expression.
use Rattle.std.specs.Prelude.{◌≡◌, ℕ, ◌≤◌, T, length, take}
use Rattle.std.proofs.Math.Option.{Option, none, some}
use Rattle.language.specs.Text.{Text, ◌>>=◌}
use Rattle.language.specs.Syntax.{Name}
use Rattle.language.specs.Identifiers.{is_string}
use Rattle.language.specs.Values.{as_string}
use Rattle.language.specs.State.{Value, single, string}
use Rattle.language.specs.Weight.{limit, value_weight}
use Rattle.language.specs.Outcomes.{Outcome, gives, fails, fills}
use Rattle.language.proofs.Logic.Outcomes.{Where}
use Rattle.values.specs.Encoding.{Holds}
use Rattle.values.specs.Answers.{field_of}
use Rattle.evaluated.specs.declared.Evaluated.{Evaluated}
use Rattle.evaluated.specs.declared.Evaluated.TheVariants as Is

-- a value is given, its text is the first n bytes of out, and it weighs w
pub record Written (o : Outcome Value) (out : Text) (n w : ℕ) : Type 0 where
  pub value : Value
  pub is_value : o ≡ gives value
  pub held : Holds value (take n out)
  pub within : n ≤ length out
  pub weighs : w ≡ value_weight value
  pub light : w ≤ limit

abbrev pub Valued : Evaluated → Outcome Value → Text → Type 0
Valued (Is.Value n w) o out = Written o out n w
Valued Is.Missing o out = o ≡ fails
Valued Is.Heavy o out = o ≡ fills

-- the string that a value is, and the one that its field y is, where there is one
abbrev pub string_in : Option Value → Option Text
string_in o = o >>= as_string

abbrev pub field_in : Option Value → Name → Option Text
field_in o y = o >>= λ v. field_of v y

-- a text that was found is of the string alphabet
abbrev pub MaybeString : Option Text → Type 0
MaybeString o = Where (λ t. T (is_string t)) o

-- the value that a text is as a string
abbrev pub string_value : Option Text → Option Value
string_value none = none
string_value (some t) = some (single (string t))
