-- Elements that are written, as long as they are not too heavy.
use Rattle.std.specs.Prelude.{◌≡◌, ℕ, ◌≤◌, ◌<◌, true, false, List, T, length, take}
use Rattle.language.specs.Text.{Text, all, joined}
use Rattle.language.specs.Syntax.{Name}
use Rattle.language.specs.State.{Element, Value, single, list}
use Rattle.language.specs.Weight.{limit, element_weight, value_weight}
use Rattle.language.specs.Encode.{element_text}
use Rattle.language.specs.Valid.{valid_element}
use Rattle.language.specs.Outcomes.{Outcome, gives, fails, fills}
use Rattle.language.specs.Values.{Session}
use Rattle.permits.specs.Permits.{unread}
use Rattle.values.specs.Encoding.{Holds}
use Rattle.evaluated.specs.declared.Answered.{Answered}
use Rattle.evaluated.specs.Results.{Written}
use Rattle.term_answer.specs.Telling.{Tells}
use Rattle.foreach_piece.specs.declared.Draft.{Draft}
use Rattle.foreach_piece.specs.declared.Made.{Made}
use Rattle.foreach_piece.specs.declared.Made.TheVariants as Is

-- t is the texts of valid elements, one after the other; and the text of the list of them
pub record Pieces (es : List Element) (t : Text) : Type 0 where
  pub are_valid : T (all valid_element es)
  pub is_text_lem : t ≡ joined element_text es

abbrev pub AsList : List Element → Text → Type 0
AsList es t = Holds (list es) t

-- elements are given, H says of them what is written in the first bytes of out, and d has their weight
pub record Light (H : List Element → Text → Type 0) (o : Outcome (List Element)) (out : Text) (d : Draft) : Type 0 where
  pub result : List Element
  pub is_result : o ≡ gives result
  pub held : H result (take d.len out)
  pub weighs : d.weight ≡ value_weight (list result)

-- a value on the way is too heavy; or the elements are, as light ones may be together
abbrev pub Heavy : Outcome (List Element) → Type 0
Heavy (gives es) = limit < value_weight (list es)
Heavy fails = ⊥
Heavy fills = Unit {0}

-- what d says of the outcome o, which does not fail
pub record Drafted (H : List Element → Text → Type 0) (o : Outcome (List Element)) (out : Text) (d : Draft) : Type 0 where
  pub small : d.weight ≤ 8193
  pub within : d.len ≤ length out
  pub light : d.weight ≤ limit → Light H o out d
  pub heavy : limit < d.weight → Heavy o

-- of some outcome
pub record SomeDraft (H : List Element → Text → Type 0) (out : Text) (d : Draft) : Type 0 where
  pub outcome : Outcome (List Element)
  pub drafted : Drafted H outcome out d

-- the sender may not read one of the names xs; or may read them all, and the outcome is that nothing can be done, or what d says
abbrev pub MadeOf : (List Element → Text → Type 0) → Made → Session → List Name → Outcome (List Element) → Text → Type 0
MadeOf H Is.Denied s xs o out = unread s xs ≡ true
MadeOf H Is.No s xs o out = (unread s xs ≡ false) × (o ≡ fails)
MadeOf H (Is.Done d) s xs o out = (unread s xs ≡ false) × Drafted H o out d

-- t is the text of some element, which is not too heavy
pub record SomeElement (t : Text) : Type 0 where
  pub element : Element
  pub held : Holds (single element) t
  pub light : element_weight element ≤ limit

-- an answer for some expression, and one that is a value
pub record SomeAnswer (r : Answered) (out : Text) : Type 0 where
  pub session : Session
  pub names : List Name
  pub outcome : Outcome Value
  pub tells : Tells r session names outcome out

pub record SomeValue (out : Text) (len weight : ℕ) : Type 0 where
  pub outcome : Outcome Value
  pub written : Written outcome out len weight
