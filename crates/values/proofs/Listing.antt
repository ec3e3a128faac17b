-- Laws of the elements of a list in a row.
-- Assumes nothing.
use mathlib.Core.Path.{◌≡◌, refl, sym, ap}
use Prim.Native.Nat.{ℕ, ◌+◌, ◌≤◌, ◌<◌}
use native.Mathlib.Omega.{arith}
use mathlib.Core.List.{List, [], ◌∷◌, ◌++◌, append_assoc}
use lib.Dec.{T}
use lib.ListN.{length, drop, length-append, length-drop}
use Rattle.language.specs.Text.{Text, all, joined, front}
use Rattle.language.specs.State.{Field, Element, string, fields}
use Rattle.language.specs.Encode.{field_text, element_text}
use Rattle.language.specs.Valid.{valid_field, valid_element}
use Rattle.language.proofs.Logic.Tests.{both}
use Rattle.language.proofs.StateText.Lines.{Free}
use Rattle.text.specs.Meaning.{is_not}
use Rattle.values.specs.Places.{Here, no_field, FieldsAt, ElementAt, Elements, SomeFields, SomeElement}
use Rattle.text.specs.declared.Span.{Span}
use Rattle.values.specs.Answers.{Taken, Nexts}
use Rattle.std.specs.Prelude.{Some, None}
use Rattle.values.proofs.Standing.{stops, past, part_is, again, moved, free_newline, fields_valid}
use Rattle.language.proofs.StateText.Clean.{string_clean}

-- ---- one element: its first line, then its fields'

-- the first line without its end
abbrev element_head : Element → Text
element_head (string t) = 83 ∷ 9 ∷ t
element_head (fields fs) = 82 ∷ []

abbrev pub element_fields : Element → List Field
element_fields (string t) = []
element_fields (fields fs) = fs

element_line : (e : Element) (r : Text) → element_text e ++ r ≡ element_head e ++ 10 ∷ (joined field_text (element_fields e) ++ r)
element_line (string t) r = ap (λ l. 83 ∷ 9 ∷ l) (append_assoc t (10 ∷ []) r)
element_line (fields fs) r = refl

element_free : (e : Element) → T (valid_element e) → Free 10 (element_head e)
element_free (string t) h = free_newline t (string_clean t h)
element_free (fields fs) h = tt

element_fields_lem : (e : Element) → T (valid_element e) → T (all valid_field (element_fields e))
element_fields_lem (string t) h = tt
element_fields_lem (fields fs) h = fields_valid fs h

element_length : (e : Element) → length (element_text e) ≡ length (element_head e) + 1 + length (joined field_text (element_fields e))
element_length (string t) = omega (arith, length-append t (10 ∷ []))
element_length (fields fs) = omega arith

module _ (t : Text) (at : ℕ) (e : Element) (rest : Text) (E : ElementAt t at e rest) (n : ℕ) (q : n ≡ at + length (front (is_not 10) (drop at t))) where
  head_here : Here t at (element_head e ++ 10 ∷ (joined field_text (element_fields e) ++ rest))
  head_here = again t at _ _ (element_line e rest) E.here

  head_ends : n ≡ at + length (element_head e)
  head_ends = stops t at 10 (element_head e) (joined field_text (element_fields e) ++ rest) n (element_free e E.is_valid) head_here q

  -- n is where the first line's newline stands
  pub fields_follow : FieldsAt t (n + 1) (element_fields e) rest
  fields_follow = record {
    are_valid = element_fields_lem e E.is_valid;
    here =
        moved t (at + length (element_head e) + 1) (n + 1) _ (omega (arith, head_ends))
        (past t (at + length (element_head e)) (10 ∷ []) _ (past t at (element_head e) (10 ∷ (joined field_text (element_fields e) ++ rest)) head_here));
    closed = E.closed;
  }

  pub some_fields : SomeFields t (n + 1)
  some_fields = record { fields = element_fields e; rest = rest; stand = fields_follow }

  pub element_ends : (r : ℕ) → r ≡ n + 1 + length (joined field_text (element_fields e)) → r ≡ at + length (element_text e)
  element_ends r k = omega (arith, k, head_ends, element_length e)

-- ---- elements in a row

no_field_lem : (es : List Element) → T (no_field (joined element_text es))
no_field_lem [] = tt
no_field_lem (string t ∷ es) = tt
no_field_lem (fields fs ∷ es) = tt

pub elements_head : (t : Text) (at : ℕ) (e : Element) (es : List Element) → Elements t at (e ∷ es) → ElementAt t at e (joined element_text es)
elements_head t at e es E = record {
  is_valid = (both (valid_element e) (all valid_element es) E.are_valid).0;
  here = E.here;
  closed = no_field_lem es;
}

pub elements_tail : (t : Text) (at : ℕ) (e : Element) (es : List Element) (n : ℕ) → n ≡ at + length (element_text e)
    → Elements t at (e ∷ es) → Elements t n es
elements_tail t at e es n q E = record {
  are_valid = (both (valid_element e) (all valid_element es) E.are_valid).1;
  here = moved t (at + length (element_text e)) n _ (sym q) (past t at (element_text e) (joined element_text es) E.here);
}

-- an element's text is never empty
pub starts_with : (e : Element) (es : List Element) → 0 < length (joined element_text (e ∷ es))
starts_with (string t) es = omega arith
starts_with (fields fs) es = omega arith

-- before the end there is an element
pub some_element : (t : Text) (at : ℕ) (es : List Element) → Elements t at es → at < length t → SomeElement t at
some_element t at [] E n = absurd (let k : length (drop at t) ≡ 0 = ap length E.here.left in omega (arith, length-drop at t, k))
some_element t at (e ∷ es) E n = record { element = e; rest = joined element_text es; stands = elements_head t at e es E }

pub no_element : (t : Text) (at : ℕ) (es : List Element) → Elements t at es → length t ≤ at → Nexts t at es None
no_element t at [] E n = tt
no_element t at (e ∷ es) E n = let k : length (drop at t) ≡ length (joined element_text (e ∷ es)) = ap length E.here.left in omega (arith, length-drop at t, k, starts_with e es)

pub an_element : (t : Text) (at : ℕ) (es : List Element) (r : ℕ) → Elements t at es → at < length t
    → ((e : Element) (rest : Text) → ElementAt t at e rest → r ≡ at + length (element_text e)) → Nexts t at es (Some (record { start = at; end = r }))
an_element t at [] r E n f = let k : length (drop at t) ≡ 0 = ap length E.here.left in omega (arith, length-drop at t, k)
an_element t at (e ∷ es) r E n f =
    let q : r ≡ at + length (element_text e) = f e (joined element_text es) (elements_head t at e es E) in
    let others : Elements t r es = elements_tail t at e es r q E in
    record {
      starts = refl;
      ahead = omega (arith, q, starts_with e [], length-append (element_text e) []);
      within = (omega (arith, q), others.here.within);
      held = record { is_valid = (both (valid_element e) (all valid_element es) E.are_valid).0; is_text_lem = part_is t at r (element_text e) (joined element_text es) E.here q };
      others = others;
    }

-- ---- a step, for a caller that has matched on its answer

pub record Stepped (t : Text) (at : ℕ) (es : List Element) (s : Span) : Type 0 where
  pub element : Element
  pub more : List Element
  pub elements_are : es ≡ element ∷ more
  pub taken : Taken t at element more s

pub stepped : (t : Text) (at : ℕ) (es : List Element) (s : Span) → Nexts t at es (Some s) → Stepped t at es s
stepped t at [] s n = absurd n
stepped t at (e ∷ es) s n = record { element = e; more = es; elements_are = refl; taken = n }

pub at_end : (t : Text) (at : ℕ) (es : List Element) → Nexts t at es None → es ≡ []
at_end t at [] n = refl
at_end t at (e ∷ es) n = absurd n
