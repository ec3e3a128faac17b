-- Laws of a value's text: in a variable's line, its first byte, and how it grows.
-- Assumes nothing.
use mathlib.Core.Path.{◌≡◌, refl, sym, ap, ◌∙◌}
use Prim.Native.Nat.{ℕ, ◌<◌}
use native.Mathlib.Omega.{arith}
use mathlib.Core.List.{List, [], ◌∷◌, ◌++◌, append_assoc, append-nil}
use lib.ListN.{length, get_or}
use Rattle.language.specs.Text.{Text, joined}
use Rattle.language.specs.Syntax.{Name}
use Rattle.language.specs.State.{Field, Element, string, fields, Value, single, list}
use Rattle.language.specs.Encode.{field_text, element_text, variable_text, value_text}
use Rattle.values.specs.Encoding.{Holds}

-- a variable's text is its name's, then its value's
pub variable_text_lem : (x : Name) (v : Value) → variable_text x v ≡ 86 ∷ 9 ∷ (x ++ 9 ∷ value_text v)
variable_text_lem x (single (string t)) = refl
variable_text_lem x (single (fields fs)) = ap (λ l. 86 ∷ 9 ∷ l) (append_assoc x (9 ∷ 82 ∷ 10 ∷ []) (joined field_text fs))
variable_text_lem x (list es) = ap (λ l. 86 ∷ 9 ∷ l) (append_assoc x (9 ∷ 76 ∷ 10 ∷ []) (joined element_text es))

-- ---- the first byte tells the kind

abbrev pub first_byte : Value → ℕ
first_byte (single (string t)) = 83
first_byte (single (fields fs)) = 82
first_byte (list es) = 76

pub first_is : (v : Value) (t : Text) → Holds v t → get_or t 0 0 ≡ first_byte v
first_is v t h = ap (λ l. get_or l 0 0) h.is_text_lem ∙ go v
  where
    go : (v : Value) → get_or (value_text v) 0 0 ≡ first_byte v
    go (single (string t)) = refl
    go (single (fields fs)) = refl
    go (list es) = refl

-- every value's text has a line
pub some_bytes : (v : Value) (t : Text) → Holds v t → 1 < length t
some_bytes v t h = go v (ap length h.is_text_lem)
  where
    go : (v : Value) → length t ≡ length (value_text v) → 1 < length t
    go (single (string u)) e = omega arith
    go (single (fields fs)) e = omega arith
    go (list es) e = omega arith

-- ---- growing

pub joined_append : {A : Type 0} (f : A → Text) (l m : List A) → joined f (l ++ m) ≡ joined f l ++ joined f m
joined_append f [] m = refl
joined_append f (a ∷ l) m = ap (λ r. f a ++ r) (joined_append f l m) ∙ sym (append_assoc (f a) (joined f l) (joined f m))

-- an element added to a list
pub list_element : (es : List Element) (e : Element) → value_text (list (es ++ (e ∷ []))) ≡ value_text (list es) ++ value_text (single e)
list_element es e = ap (λ r. 76 ∷ 10 ∷ r) (joined_append element_text es (e ∷ []) ∙ ap (λ r. joined element_text es ++ r) (append-nil (element_text e)))

-- a field added to a record
pub record_field : (fs : List Field) (f : Field) → value_text (single (fields (fs ++ (f ∷ [])))) ≡ value_text (single (fields fs)) ++ field_text f
record_field fs f = ap (λ r. 82 ∷ 10 ∷ r) (joined_append field_text fs (f ∷ []) ∙ ap (λ r. joined field_text fs ++ r) (append-nil (field_text f)))
