-- Requests M-100, M-104 and M-106: what the functions make of values, where these are strings, and of prices; and when two values are the same.
use Rattle.std.specs.Prelude.{ℕ, ◌+◌, Bool, true, false, ◌&&◌, not, List, [], ◌∷◌, ◌++◌, map, length, take, drop}
use Rattle.std.proofs.Math.Option.{Option, some}
use Rattle.language.specs.Text.{Text, bytes, when◌then◌else◌, ◌>>=◌, ◌≟◌, any, all}
use Rattle.language.specs.Bytes.{between}
use Rattle.language.specs.Syntax.{Operation, Function, split, concat, arithmetic, Comparison, equal, notequal}
use Rattle.language.specs.State.{Field, Element, string, fields, Value, single}
use Rattle.language.specs.Values.{as_string, as_element}
use Rattle.language.specs.Prices.{price, price_text, reckoned}

abbrev pub lower_byte : ℕ → ℕ
lower_byte b = when between "A" "Z" b then b + 32 else b

abbrev pub lowercase : Value → Option Value
lowercase v = do
  t ← as_string v
  some (single (string (map lower_byte t)))

-- the first n bytes of a text, or all of it, and the rest
abbrev pub cut : Text → ℕ → Value
cut t n = single (fields (record { label = bytes "fst"; text = take n t } ∷ record { label = bytes "snd"; text = drop n t } ∷ []))

abbrev pub on_prices : Operation → Text → Text → Option Value
on_prices o t u = do
  a ← price t
  b ← price u
  c ← reckoned o a b
  some (single (string (price_text c)))

abbrev pub on_strings : Function → Text → Text → Option Value
on_strings split t u = some (cut t (length u))
on_strings concat t u = some (single (string (t ++ u)))
on_strings (arithmetic o) t u = on_prices o t u

abbrev pub apply : Function → Value → Value → Option Value
apply f v w = do
  t ← as_string v
  u ← as_string w
  on_strings f t u

-- ---- request M-106

-- the labels of a record are distinct, so two records are the same where each holds the other's fields
abbrev pub same_field : Field → Field → Bool
same_field f g = (f.label ≟ g.label) && (f.text ≟ g.text)

abbrev pub holds_all : List Field → List Field → Bool
holds_all fs gs = all (λ g. any (same_field g) fs) gs

abbrev pub same_fields : List Field → List Field → Bool
same_fields fs gs = holds_all fs gs && holds_all gs fs

abbrev pub same_element : Element → Element → Bool
same_element (string t) (string u) = t ≟ u
same_element (string t) (fields gs) = false
same_element (fields fs) (string u) = false
same_element (fields fs) (fields gs) = same_fields fs gs

-- the empty string says that it is so, "0" that it is not
abbrev pub answer : Bool → Value
answer true = single (string [])
answer false = single (string (bytes "0"))

abbrev pub holds : Comparison → Element → Element → Bool
holds equal e d = same_element e d
holds notequal e d = not (same_element e d)

-- a list is not compared
abbrev pub compared : Comparison → Value → Value → Option Value
compared c v w = do
  e ← as_element v
  d ← as_element w
  some (answer (holds c e d))
