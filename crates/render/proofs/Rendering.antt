-- What is read while JSON is written: the next field, the two sorts of element.
-- Assumes nothing.
use mathlib.Core.Path.{◌≡◌, ap, ◌∙◌}
use Prim.Native.Nat.{ℕ, ◌+◌, ◌-◌, ◌≤◌, ◌<◌}
use native.Mathlib.Omega.{arith}
use mathlib.Core.List.{List, [], ◌∷◌, ◌++◌}
use lib.ListN.{length, get_or, take, drop, length-append, length-drop}
use Rattle.language.specs.Text.{Text, joined}
use Rattle.language.specs.State.{Field}
use Rattle.language.specs.Encode.{field_text}
use Rattle.language.specs.Output.{quote, field_json}
use Rattle.values.specs.Places.{Here, FieldAt, FieldsAt}
use Rattle.values.specs.Answers.{EndsOf}
use Rattle.value_text.specs.Writing.{Written}
use Rattle.values.specs.declared.Ends.{Ends}
use Rattle.values.proofs.Lines.{fields_head, fields_tail, byte_here, no_line, field_length}
use Rattle.value_text.proofs.Pieces.{rewritten}
use Rattle.render.specs.Json.{linked, Renders}
use Rattle.render.specs.declared.output.Moved.{Moved}
use Rattle.render.proofs.Linking.{Linking, linking_step, linking_done, linking_room, field_json_lem}
use Rattle.language.proofs.Parsing.Printing.{quote_length}

-- ---- one field

module _ (t : Text) (at : ℕ) (f : Field) (rest : Text) (r : Ends) (E : EndsOf t at f rest r) where
  pub field_room : (o size : ℕ) → o + length (field_json f) ≤ size
      → o + length (take (r.label - (at + 2)) (drop (at + 2) t)) + length (take (r.text - (r.label + 1)) (drop (r.label + 1) t)) + 5 ≤ size
  field_room o size h =
      omega (
        arith,
        ap length E.label_is,
        ap length E.text_is,
        ap length (field_json_lem f),
        length-append (quote f.label) (58 ∷ quote f.text),
        quote_length f.label,
        quote_length f.text,
      )

  pub field_renders : (before after : Text) (o p : ℕ)
      → Written before o (quote (take (r.label - (at + 2)) (drop (at + 2) t)) ++ ((58 ∷ []) ++ quote (take (r.text - (r.label + 1)) (drop (r.label + 1) t)))) p after
      → Renders at (length (field_text f)) before o (field_json f) (record { read = r.text + 1; wrote = p }) after
  field_renders before after o p w = record {
    read_to = omega (arith, E.label_end, E.text_end, field_length f);
    written = rewritten (ap (λ l. quote l ++ (58 ∷ quote (take (r.text - (r.label + 1)) (drop (r.label + 1) t)))) E.label_is ∙ ap (λ l. quote f.label ++ (58 ∷ quote l)) E.text_is ∙ field_json_lem f) w;
  }

-- ---- fields in a row

-- what is read and written of the fields fs when the loop stands at i
pub record FieldsGoing (t : Text) (at : ℕ) (fs : List Field) (rest : Text) (before : Text) (o i p sep : ℕ) (after : Text) : Type 0 where
  pub left : List Field
  pub stand : FieldsAt t i left rest
  pub total : i + length (joined field_text left) ≡ at + length (joined field_text fs)
  pub linking : Linking field_json 123 fs before o sep left p after

module _ (t : Text) (at : ℕ) (fs : List Field) (rest before : Text) (o i p sep : ℕ) (after : Text) where
  pub fields_finish : FieldsGoing t at fs rest before o i p sep after → (i < length t → get_or t i 0 ≡ 70 → ⊥)
      → Renders at (length (joined field_text fs)) before o (linked field_json 123 fs) (record { read = i; wrote = p }) after
  fields_finish G n = go G.left G.stand G.total G.linking
    where
      go : (l : List Field) → FieldsAt t i l rest → i + length (joined field_text l) ≡ at + length (joined field_text fs) → Linking field_json 123 fs before o sep l p after
          → Renders at (length (joined field_text fs)) before o (linked field_json 123 fs) (record { read = i; wrote = p }) after
      go [] F k L = record { read_to = omega (arith, k); written = linking_done field_json 123 fs before o sep p after L }
      go (f ∷ l) F k L =
          let h : Here t i (field_text f ++ (joined field_text l ++ rest)) = (fields_head t i f l rest F).here in
          let e : length (drop i t) ≡ length (field_text f ++ (joined field_text l ++ rest)) = ap length h.left in
          absurd (n (omega (arith, length-drop i t, e)) (byte_here t i 70 _ h))

  -- a field's line stands at i
  pub record NextField : Type 0 where
    pub field : Field
    pub more : List Field
    pub stand : FieldsAt t i (field ∷ more) rest
    pub total : i + length (joined field_text (field ∷ more)) ≡ at + length (joined field_text fs)
    pub linking : Linking field_json 123 fs before o sep (field ∷ more) p after

  pub next_field : FieldsGoing t at fs rest before o i p sep after → i < length t → get_or t i 0 ≡ 70 → NextField
  next_field G n b = go G.left G.stand G.total G.linking
    where
      go : (l : List Field) → FieldsAt t i l rest → i + length (joined field_text l) ≡ at + length (joined field_text fs) → Linking field_json 123 fs before o sep l p after → NextField
      go [] F k L = absurd (no_line t i rest F.here F.closed n b)
      go (f ∷ l) F k L = record { field = f; more = l; stand = F; total = k; linking = L }

  module _ (N : NextField) where
    pub next_at : FieldAt t i N.field (joined field_text N.more ++ rest)
    next_at = fields_head t i N.field N.more rest N.stand

    pub next_room : o + length (linked field_json 123 fs) ≤ length before → p + 1 + length (field_json N.field) ≤ length after
    next_room h = linking_room field_json 123 fs before o sep N.field N.more p after N.linking h

    pub next_within : (r : ℕ) → r ≡ i + length (field_text N.field) → (i < r) × (r ≤ length t)
    next_within r e = (omega (arith, e, field_length N.field), (fields_tail t i N.field N.more rest r e N.stand).here.within)

    pub next_going : (q : ℕ) (mid later : Text) (r : Moved) → Written after p (sep ∷ []) q mid
        → Renders i (length (field_text N.field)) mid q (field_json N.field) r later → FieldsGoing t at fs rest before o r.read r.wrote 44 later
    next_going q mid later r w R = record {
      left = N.more;
      stand = fields_tail t i N.field N.more rest r.read R.read_to N.stand;
      total = omega (arith, N.total, R.read_to, length-append (field_text N.field) (joined field_text N.more));
      linking = linking_step field_json 123 fs before o sep N.field N.more p q r.wrote after mid later N.linking w R.written;
    }
