-- What the answers about a value's text mean in the terms of document 01, "Values".
use Rattle.std.specs.Prelude.{◌≡◌, ℕ, ◌+◌, ◌-◌, ◌≤◌, ◌<◌, List, [], ◌∷◌, length, take, drop}
use Rattle.std.specs.Prelude.{Option as Answer, Some, None}
use Rattle.std.proofs.Math.Option.{Option, none, some}
use Rattle.language.specs.Text.{Text, ◌>>=◌}
use Rattle.language.specs.Syntax.{Name}
use Rattle.language.specs.State.{Field, Element, string, fields, Value, single, list}
use Rattle.language.specs.Values.{as_fields, text_of}
use Rattle.text.specs.declared.Span.{Span}
use Rattle.text.specs.Meaning.{part, Within}
use Rattle.values.specs.Encoding.{Holds}
use Rattle.values.specs.Places.{Elements}
use Rattle.values.specs.declared.Kind.{Kind}
use Rattle.values.specs.declared.Kind.TheVariants.{Text as IsText, Record as IsRecord, List as IsList}
use Rattle.values.specs.declared.Ends.{Ends}

abbrev pub kind_of : Value → Kind
kind_of (single (string t)) = IsText
kind_of (single (fields fs)) = IsRecord
kind_of (list es) = IsList

-- the text that was found
abbrev pub text_at : Text → Answer Span → Option Text
text_at t (Some s) = some (part t s)
text_at t None = none

abbrev pub Placed : Text → Answer Span → Type 0
Placed t (Some s) = Within t s
Placed t None = Unit

-- the text of the field of that label: none where v is no record or has no such field
abbrev pub field_of : Value → Name → Option Text
field_of v y = do
  fs ← as_fields v
  text_of fs y

-- the next of the elements es, which stand from place `at` of t on: its text is a value's, and the others follow
pub record Taken (t : Text) (at : ℕ) (e : Element) (es : List Element) (s : Span) : Type 0 where
  pub starts : s.start ≡ at
  pub ahead : at < s.end
  pub within : Within t s
  pub held : Holds (single e) (part t s)
  pub others : Elements t s.end es

abbrev pub Nexts : Text → ℕ → List Element → Answer Span → Type 0
Nexts t at [] None = Unit
Nexts t at [] (Some s) = ⊥
Nexts t at (e ∷ es) None = ⊥
Nexts t at (e ∷ es) (Some s) = Taken t at e es s

-- where the label and the text of the field end whose line starts at `at`
pub record EndsOf (t : Text) (at : ℕ) (f : Field) (rest : Text) (r : Ends) : Type 0 where
  pub label_end : r.label ≡ at + 2 + length f.label
  pub text_end : r.text ≡ r.label + 1 + length f.text
  pub within : r.text + 1 ≤ length t
  pub label_is : take (r.label - (at + 2)) (drop (at + 2) t) ≡ f.label
  pub text_is : take (r.text - (r.label + 1)) (drop (r.label + 1) t) ≡ f.text
  pub rest_is : drop (r.text + 1) t ≡ rest
