-- Request M-106: the strings and records that are compared, and what a comparison comes to by them.
use Rattle.std.specs.Prelude.{◌≡◌, Bool, true, false, Option as Answer, Some, None, List, [], ◌∷◌}
use Rattle.std.proofs.Math.Option.{Option, none, some}
use Rattle.language.specs.Text.{Text, ◌>>=◌}
use Rattle.language.specs.Syntax.{Comparison}
use Rattle.language.specs.State.{Field, Element, string, fields, Value, single}
use Rattle.language.specs.Outcomes.{Outcome, fails}
use Rattle.language.specs.Values.{as_element}
use Rattle.language.specs.Functions.{holds, answer}
use Rattle.language.specs.Expressions.{weighed}
use Rattle.text.specs.Meaning.{part, Within}
use Rattle.text.specs.declared.Span.{Span}
use Rattle.comparison.specs.Records.{HoldsRecord}
use Rattle.equality.specs.declared.Compared.{Compared}
use Rattle.equality.specs.declared.Compared.TheVariants as Is

-- o is a record, and u its text
pub record RecordIn (o : Option Element) (u : Text) : Type 0 where
  pub fields_in : List Field
  pub is_record : o ≡ some (fields fields_in)
  pub held : HoldsRecord fields_in u

-- o is what k says of the source u: an element, or none
abbrev pub ElementIn : Option Element → Text → Compared → Type 0
ElementIn o u (Is.Text s) = (o ≡ some (string (part u s))) × Within u s
ElementIn o u Is.Record = RecordIn o u
ElementIn o u Is.No = o ≡ none

pub record SomeElement (u : Text) (k : Compared) : Type 0 where
  pub element : Option Element
  pub stands : ElementIn element u k

abbrev pub is_element : Compared → Bool
is_element (Is.Text s) = true
is_element Is.Record = true
is_element Is.No = false

abbrev pub found_as : Answer Span → Compared
found_as (Some s) = Is.Text s
found_as None = Is.No

-- the element that a value is, where it is one
abbrev pub element_of : Option Value → Option Element
element_of o = o >>= as_element

-- the element that a text is as a string
abbrev pub string_element : Option Text → Option Element
string_element none = none
string_element (some t) = some (string t)

-- what a comparison comes to by the elements that its arguments are, where they are elements
abbrev pub compared_to : Comparison → Option Element → Option Element → Outcome Value
compared_to c none p = fails
compared_to c (some e) none = fails
compared_to c (some e) (some d) = weighed (single e ∷ single d ∷ []) (answer (holds c e d))
