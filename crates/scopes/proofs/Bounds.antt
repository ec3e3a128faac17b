-- How long a value's text is: at most three bytes for each of its weight, and three more.
-- Assumes nothing.
use mathlib.Core.Path.{ap}
use Prim.Native.Nat.{◌+◌, ◌*◌, ◌≤◌}
use native.Mathlib.Omega.{arith}
use mathlib.Core.List.{[], ◌∷◌}
use lib.Dec.{T}
use lib.ListN.{length, length-append}
use Rattle.language.specs.Text.{Text, sum, joined}
use Rattle.language.specs.Identifiers.{is_name, is_string}
use Rattle.language.specs.State.{Field, Element, string, fields, Value, single, list}
use Rattle.language.specs.Weight.{element_weight, value_weight}
use Rattle.language.specs.Encode.{field_text, element_text, value_text}
use Rattle.language.specs.Valid.{valid_field, valid_element, valid_value}
use Rattle.language.proofs.Logic.Tests.{both}
use Rattle.language.proofs.StateText.Bound.{joined_bound}
use Rattle.language.proofs.StateText.Clean.{name_length}
use Rattle.values.specs.Encoding.{Holds}
use Rattle.values.proofs.Standing.{fields_valid}
use Rattle.values.proofs.Lines.{field_length}

field_bound : (f : Field) → T (valid_field f) → length (field_text f) ≤ 3 * (1 + length f.label + length f.text)
field_bound f h = omega (arith, field_length f, (name_length f.label (both (is_name f.label) (is_string f.text) h).0).0)

element_bound : (e : Element) → T (valid_element e) → length (element_text e) ≤ 3 * (1 + element_weight e)
element_bound (string t) h = omega (arith, length-append t (10 ∷ []))
element_bound (fields fs) h =
    let k : length (joined field_text fs) ≤ 3 * sum (λ f. 1 + length f.label + length f.text) fs = joined_bound 3 field_text _ valid_field field_bound fs (fields_valid fs h) in
    omega arith

value_bound : (v : Value) → T (valid_value v) → length (value_text v) ≤ 3 * value_weight v + 3
value_bound (single e) h = omega (arith, element_bound e h)
value_bound (list es) h =
    let k : length (joined element_text es) ≤ 3 * sum (λ e. 1 + element_weight e) es = joined_bound 3 element_text (λ e. 1 + element_weight e) valid_element element_bound es h in
    omega arith

pub text_bound : (v : Value) (t : Text) → Holds v t → length t ≤ 3 * value_weight v + 3
text_bound v t h = omega (arith, ap length h.is_text_lem, value_bound v h.is_valid)
