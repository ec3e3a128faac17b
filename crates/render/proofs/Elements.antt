-- What is read while JSON is written: an element of either sort, elements in a row, and a whole value.
-- Assumes nothing.
use mathlib.Core.Path.{◌≡◌, refl, sym, ap, ◌∙◌}
use Prim.Native.Nat.{ℕ, ◌+◌, ◌-◌, ◌≤◌, ◌<◌}
use native.Mathlib.Omega.{arith}
use mathlib.Core.List.{List, [], ◌∷◌, ◌++◌, append_assoc, append-nil, map}
use lib.Dec.{T, ltb}
use lib.ListN.{length, get_or, take, drop, length-append, length-drop}
use Rattle.language.specs.Text.{Text, all, joined, distinct, front}
use Rattle.language.specs.State.{Field, Element, string, fields, Value, single, list}
use Rattle.language.specs.Encode.{field_text, element_text, value_text}
use Rattle.language.specs.Output.{quote, field_json, element_json, value_json}
use Rattle.language.specs.Valid.{valid_field, valid_value}
use Rattle.language.proofs.Logic.Tests.{three}
use Rattle.language.proofs.StateText.Lines.{Free}
use Rattle.text.specs.Meaning.{is_not}
use Rattle.values.specs.Encoding.{Holds}
use Rattle.values.specs.Places.{Here, FieldsAt, ElementAt, Elements}
use Rattle.value_text.specs.Writing.{Written}
use Rattle.values.proofs.Texts.{first_byte, first_is}
use Rattle.values.proofs.Standing.{stops, past, part_is, again, free_newline, fields_valid}
use Rattle.language.proofs.StateText.Clean.{string_clean}
use Rattle.values.proofs.Lines.{byte_here}
use Rattle.values.proofs.Listing.{elements_head, elements_tail, starts_with}
use Rattle.value_text.proofs.Pieces.{◌▸◌, rewritten}
use Rattle.render.specs.Json.{linked, Renders}
use Rattle.render.specs.declared.output.Moved.{Moved}
use Rattle.render.proofs.Linking.{Linking, linking_step, linking_done, linking_room, record_json, list_json}
use Rattle.language.proofs.Parsing.Printing.{quote_length}

-- an element has a letter and a byte after it, at least
pub element_within : (t : Text) (at : ℕ) (e : Element) (rest : Text) → ElementAt t at e rest → at + 2 ≤ length t
element_within t at (string u) rest E = (past t at (83 ∷ 9 ∷ []) ((u ++ (10 ∷ [])) ++ rest) E.here).within
element_within t at (fields fs) rest E = (past t at (82 ∷ 10 ∷ []) (joined field_text fs ++ rest) E.here).within

-- ---- a string's line

pub record StringAt (t : Text) (at : ℕ) (e : Element) (rest : Text) : Type 0 where
  pub text : Text
  pub is_element_lem : e ≡ string text
  pub is_free : Free 10 text
  pub here : Here t (at + 2) (text ++ 10 ∷ rest)

pub string_at : (t : Text) (at : ℕ) (e : Element) (rest : Text) → ElementAt t at e rest → get_or t at 0 ≡ 83 → StringAt t at e rest
string_at t at (string u) rest E b = record {
  text = u;
  is_element_lem = refl;
  is_free = free_newline u (string_clean u E.is_valid);
  here = again t (at + 2) _ _ (append_assoc u (10 ∷ []) rest) (past t at (83 ∷ 9 ∷ []) ((u ++ (10 ∷ [])) ++ rest) E.here);
}
string_at t at (fields fs) rest E b = absurd (differ (sym (byte_here t at 82 _ E.here) ∙ b))
  where
    differ : ◌≡◌ {A = ℕ} 82 83 → ⊥
    differ e = omega arith

module _ (t : Text) (at : ℕ) (e : Element) (rest : Text) (S : StringAt t at e rest) (n : ℕ) (q : n ≡ at + 2 + length (front (is_not 10) (drop (at + 2) t))) where
  string_ends : n ≡ at + 2 + length S.text
  string_ends = stops t (at + 2) 10 S.text rest n S.is_free S.here q

  pub string_within : n + 1 ≤ length t
  string_within =
      let h : Here t (at + 2 + length S.text + 1) rest = past t (at + 2 + length S.text) (10 ∷ []) rest (past t (at + 2) S.text (10 ∷ rest) S.here) in
      omega (arith, h.within, string_ends)

  string_part : take (n - (at + 2)) (drop (at + 2) t) ≡ S.text
  string_part = part_is t (at + 2) n S.text (10 ∷ rest) S.here string_ends

  string_json : quote (take (n - (at + 2)) (drop (at + 2) t)) ≡ element_json e
  string_json = ap quote string_part ∙ ap element_json (sym S.is_element_lem)

  pub string_room : (o size : ℕ) → o + length (element_json e) ≤ size → o + length (take (n - (at + 2)) (drop (at + 2) t)) + 2 ≤ size
  string_room o size h = omega (arith, ap length string_json, quote_length (take (n - (at + 2)) (drop (at + 2) t)))

  pub string_renders : (before after : Text) (o p : ℕ) → Written before o (quote (take (n - (at + 2)) (drop (at + 2) t))) p after
      → Renders at (length (element_text e)) before o (element_json e) (record { read = n + 1; wrote = p }) after
  string_renders before after o p w = record {
    read_to = omega (arith, string_ends, ap (λ x. length (element_text x)) S.is_element_lem, length-append S.text (10 ∷ []));
    written = rewritten string_json w;
  }

-- ---- a record's lines

pub record RecordAt (t : Text) (at : ℕ) (e : Element) (rest : Text) : Type 0 where
  pub first : Field
  pub more : List Field
  pub is_element_lem : e ≡ fields (first ∷ more)
  pub stand : FieldsAt t (at + 2) (first ∷ more) rest

pub record_at_lem : (t : Text) (at : ℕ) (e : Element) (rest : Text) → ElementAt t at e rest → (get_or t at 0 ≡ 83 → ⊥) → RecordAt t at e rest
record_at_lem t at (string u) rest E b = absurd (b (byte_here t at 83 _ E.here))
record_at_lem t at (fields []) rest E b = absurd (three (ltb 0 0) (all valid_field []) (distinct (map (λ (f : Field). f.label) [])) E.is_valid).0
record_at_lem t at (fields (f ∷ fs)) rest E b = record {
  first = f;
  more = fs;
  is_element_lem = refl;
  stand = record {
    are_valid = fields_valid (f ∷ fs) E.is_valid;
    here = past t at (82 ∷ 10 ∷ []) (joined field_text (f ∷ fs) ++ rest) E.here;
    closed = E.closed;
  };
}

module _ (t : Text) (at : ℕ) (e : Element) (rest : Text) (R : RecordAt t at e rest) where
  record_is : linked field_json 123 (R.first ∷ R.more) ++ (125 ∷ []) ≡ element_json e
  record_is = record_json R.first R.more ∙ ap element_json (sym R.is_element_lem)

  pub record_room : (o size : ℕ) → o + length (element_json e) ≤ size → o + length (linked field_json 123 (R.first ∷ R.more)) + 1 ≤ size
  record_room o size h = omega (arith, ap length record_is, length-append (linked field_json 123 (R.first ∷ R.more)) (125 ∷ []))

  pub record_renders : (before mid after : Text) (o p : ℕ) (m : Moved)
      → Renders (at + 2) (length (joined field_text (R.first ∷ R.more))) before o (linked field_json 123 (R.first ∷ R.more)) m mid
      → Written mid m.wrote (125 ∷ []) p after → Renders at (length (element_text e)) before o (element_json e) (record { read = m.read; wrote = p }) after
  record_renders before mid after o p m M w = record {
    read_to = omega (arith, M.read_to, ap (λ x. length (element_text x)) R.is_element_lem);
    written = rewritten record_is (M.written ▸ w);
  }

-- ---- elements in a row

-- what is read and written of the elements es when the loop stands at i
pub record ElementsGoing (t : Text) (es : List Element) (before : Text) (o i p sep : ℕ) (after : Text) : Type 0 where
  pub left : List Element
  pub stand : Elements t i left
  pub linking : Linking element_json 91 es before o sep left p after

module _ (t : Text) (es : List Element) (before : Text) (o i p sep : ℕ) (after : Text) where
  pub elements_finish : ElementsGoing t es before o i p sep after → length t ≤ i → Written before o (linked element_json 91 es) p after
  elements_finish G n = go G.left G.stand G.linking
    where
      go : (l : List Element) → Elements t i l → Linking element_json 91 es before o sep l p after → Written before o (linked element_json 91 es) p after
      go [] E L = linking_done element_json 91 es before o sep p after L
      go (e ∷ l) E L = absurd (let k : length (drop i t) ≡ length (joined element_text (e ∷ l)) = ap length E.here.left in omega (arith, length-drop i t, k, starts_with e l))

  pub record NextElement : Type 0 where
    pub element : Element
    pub more : List Element
    pub stand : Elements t i (element ∷ more)
    pub linking : Linking element_json 91 es before o sep (element ∷ more) p after

  pub next_one : ElementsGoing t es before o i p sep after → i < length t → NextElement
  next_one G n = go G.left G.stand G.linking
    where
      go : (l : List Element) → Elements t i l → Linking element_json 91 es before o sep l p after → NextElement
      go [] E L = absurd (let k : length (drop i t) ≡ 0 = ap length E.here.left in omega (arith, length-drop i t, k))
      go (e ∷ l) E L = record { element = e; more = l; stand = E; linking = L }

  module _ (N : NextElement) where
    pub one_at : ElementAt t i N.element (joined element_text N.more)
    one_at = elements_head t i N.element N.more N.stand

    pub one_room : o + length (linked element_json 91 es) ≤ length before → p + 1 + length (element_json N.element) ≤ length after
    one_room h = linking_room element_json 91 es before o sep N.element N.more p after N.linking h

    pub one_going : (q : ℕ) (mid later : Text) (r : Moved) → Written after p (sep ∷ []) q mid
        → Renders i (length (element_text N.element)) mid q (element_json N.element) r later → ElementsGoing t es before o r.read r.wrote 44 later
    one_going q mid later r w R = record {
      left = N.more;
      stand = elements_tail t i N.element N.more r.read R.read_to N.stand;
      linking = linking_step element_json 91 es before o sep N.element N.more p q r.wrote after mid later N.linking w R.written;
    }

    -- the loop moves on
    pub one_within : (r : ℕ) → r ≡ i + length (element_text N.element) → (i < r) × (r ≤ length t)
    one_within r e = (omega (arith, e, starts_with N.element [], length-append (element_text N.element) []), (elements_tail t i N.element N.more r e N.stand).here.within)

-- ---- a whole value

pub record SingleAt (v : Value) (t : Text) : Type 0 where
  pub element : Element
  pub is_value : v ≡ single element
  pub stands : ElementAt t 0 element []

pub single_at : (v : Value) (t : Text) → Holds v t → (get_or t 0 0 ≡ 76 → ⊥) → SingleAt v t
single_at v t h b = go v h.is_valid h.is_text_lem (first_is v t h)
  where
    go : (v : Value) → T (valid_value v) → t ≡ value_text v → get_or t 0 0 ≡ first_byte v → SingleAt v t
    go (single e) k q f = record {
      element = e;
      is_value = refl;
      stands = record { is_valid = k; here = record { within = omega arith; left = q ∙ sym (append-nil (element_text e)) }; closed = tt };
    }
    go (list es) k q f = absurd (b f)

pub record ListAt (v : Value) (t : Text) : Type 0 where
  pub elements : List Element
  pub is_value : v ≡ list elements
  pub stand : Elements t 2 elements

pub list_at : (v : Value) (t : Text) → Holds v t → get_or t 0 0 ≡ 76 → ListAt v t
list_at v t h b = go v h.is_valid h.is_text_lem (sym (first_is v t h) ∙ b)
  where
    go : (v : Value) → T (valid_value v) → t ≡ value_text v → first_byte v ≡ 76 → ListAt v t
    go (single (string u)) k q f = absurd (omega arith)
    go (single (fields fs)) k q f = absurd (omega arith)
    go (list es) k q f = record {
      elements = es;
      is_value = refl;
      stand = record { are_valid = k; here = record { within = omega (arith, ap length q); left = ap (drop 2) q } };
    }

module _ (v : Value) (t : Text) (L : ListAt v t) where
  pub list_none : length t ≡ 2 → 91 ∷ 93 ∷ [] ≡ value_json v
  list_none n = go L.elements L.stand (ap value_json (sym L.is_value))
    where
      go : (l : List Element) → Elements t 2 l → value_json (list l) ≡ value_json v → 91 ∷ 93 ∷ [] ≡ value_json v
      go [] E q = q
      go (e ∷ l) E q = absurd (let k : length (drop 2 t) ≡ length (joined element_text (e ∷ l)) = ap length E.here.left in omega (arith, length-drop 2 t, k, starts_with e l))

  pub list_some : (length t ≡ 2 → ⊥) → linked element_json 91 L.elements ++ (93 ∷ []) ≡ value_json v
  list_some n = go L.elements L.stand (ap value_json (sym L.is_value))
    where
      go : (l : List Element) → Elements t 2 l → value_json (list l) ≡ value_json v → linked element_json 91 l ++ (93 ∷ []) ≡ value_json v
      go [] E q = absurd (n (let k : length (drop 2 t) ≡ 0 = ap length E.here.left in omega (arith, length-drop 2 t, k, E.here.within)))
      go (e ∷ l) E q = list_json e l ∙ q

  pub list_room : (length t ≡ 2 → ⊥) → length (value_json v) ≡ length (linked element_json 91 L.elements) + 1
  list_room n = omega (arith, ap length (list_some n), length-append (linked element_json 91 L.elements) (93 ∷ []))
