-- What an operand's kind says of the element that it is.
-- Assumes nothing.
use mathlib.Core.Path.{◌≡◌, refl, sym, ap}
use Prim.Native.Nat.{ℕ}
use native.Mathlib.Omega.{arith}
use mathlib.Core.Bool.{true, false}
use mathlib.Core.Option.{Option, none, some}
use Rattle.language.specs.Text.{Text}
use Rattle.language.specs.State.{Element, string, fields, Value, single, list}
use Rattle.language.specs.Values.{as_string, as_element}
use Rattle.language.proofs.Logic.Lists.{some_same}
use Rattle.text.specs.declared.Span.{Span}
use Rattle.text.specs.Meaning.{part}
use Rattle.values.specs.Answers.{kind_of, text_at, Placed}
use Rattle.std.specs.Prelude.{Option as Answer, Some, None}
use Rattle.values.specs.declared.Kind.TheVariants.{Text as IsText, List as IsList}
use Rattle.equality.specs.declared.Compared.{Compared}
use Rattle.equality.specs.declared.Compared.TheVariants as Is
use Rattle.equality.specs.Elements.{ElementIn, is_element, found_as, string_element}

-- ---- an element or none

pub no_element : (o : Option Element) (u : Text) (k : Compared) → ElementIn o u k → is_element k ≡ false → o ≡ none
no_element o u (Is.Text s) h e = absurd (let z : ◌≡◌ {A = ℕ} 0 1 = cc in omega arith)
no_element o u Is.Record h e = absurd (let z : ◌≡◌ {A = ℕ} 0 1 = cc in omega arith)
no_element o u Is.No h e = h

pub record One (o : Option Element) (u : Text) (k : Compared) : Type 0 where
  pub element : Element
  pub is_element_lem : o ≡ some element
  pub stands : ElementIn (some element) u k

pub one : (o : Option Element) (u : Text) (k : Compared) → ElementIn o u k → is_element k ≡ true → One o u k
one o u (Is.Text s) h e = record { element = string (part u s); is_element_lem = h.0; stands = (refl, h.1) }
one o u Is.Record h e = record {
  element = fields h.fields_in;
  is_element_lem = h.is_record;
  stands = record { fields_in = h.fields_in; is_record = refl; held = h.held };
}
one o u Is.No h e = absurd (let z : ◌≡◌ {A = ℕ} 0 1 = cc in omega arith)

-- ---- by its kind

module _ (e : Element) (u : Text) where
  pub is_text_lem : (s : Span) → ElementIn (some e) u (Is.Text s) → e ≡ string (part u s)
  is_text_lem s h = some_same h.0

  pub is_fields : (h : ElementIn (some e) u Is.Record) → e ≡ fields h.fields_in
  is_fields h = some_same h.is_record

  pub is_none : {A : Type 0} → ElementIn (some e) u Is.No → A
  is_none h = absurd (let z : ◌≡◌ {A = ℕ} 0 1 = cc in omega arith)

-- ---- of a value

-- a string that was found
pub found_element : (u : Text) (f : Answer Span) (o : Option Text) → text_at u f ≡ o → Placed u f → ElementIn (string_element o) u (found_as f)
found_element u (Some s) o e h = (ap string_element (sym e), h)
found_element u None o e h = ap string_element (sym e)

module _ (v : Value) (u : Text) where
  pub text_value : (f : Answer Span) → IsText ≡ kind_of v → text_at u f ≡ as_string v → Placed u f → ElementIn (as_element v) u (found_as f)
  text_value f = go v
    where
      go : (v : Value) → IsText ≡ kind_of v → text_at u f ≡ as_string v → Placed u f → ElementIn (as_element v) u (found_as f)
      go (single (string t)) k e h = found_element u f (some t) e h
      go (single (fields fs)) k e h = absurd (let z : ◌≡◌ {A = ℕ} 0 1 = cc in omega arith)
      go (list es) k e h = absurd (let z : ◌≡◌ {A = ℕ} 0 1 = cc in omega arith)

  pub list_value : IsList ≡ kind_of v → ElementIn (as_element v) u Is.No
  list_value = go v
    where
      go : (v : Value) → IsList ≡ kind_of v → ElementIn (as_element v) u Is.No
      go (single (string t)) k = absurd (let z : ◌≡◌ {A = ℕ} 0 1 = cc in omega arith)
      go (single (fields fs)) k = absurd (let z : ◌≡◌ {A = ℕ} 0 1 = cc in omega arith)
      go (list es) k = refl
