-- The fields of a record's text: where they start, that their labels are distinct, and that they are the only ones.
-- Assumes nothing.
use mathlib.Core.Path.{◌≡◌, refl, sym, ap, ◌∙◌}
use Prim.Native.Nat.{ℕ, ◌+◌, ◌≤◌}
use native.Mathlib.Omega.{arith}
use mathlib.Core.List.{List, [], ◌∷◌, append-nil}
use lib.Dec.{T, ltb}
use lib.ListN.{length, drop, length-drop}
use Rattle.language.specs.Text.{Text, all, joined, front, any, distinct}
use Rattle.language.specs.State.{labels, Field}
use Rattle.language.specs.Values.{text_of}
use Rattle.language.specs.Encode.{field_text}
use Rattle.language.specs.Valid.{valid_field}
use Rattle.language.specs.Functions.{same_field}
use Rattle.language.proofs.Logic.Tests.{three}
use Rattle.language.proofs.Meaning.SameFields.{is_text, held_text}
use Rattle.text.specs.Meaning.{is_not}
use Rattle.values.specs.Places.{FieldAt, FieldsAt}
use Rattle.values.specs.Answers.{EndsOf, text_at}
use Rattle.std.specs.Prelude.{Option as Answer}
use Rattle.text.specs.declared.Span.{Span}
use Rattle.values.proofs.Standing.{fields_valid, field_ends}
use Rattle.values.proofs.Lines.{fields_head, fields_tail, nothing_here}
use Rattle.comparison.specs.Records.{HoldsRecord}

pub record_starts : (t : Text) (fs : List Field) → HoldsRecord fs t → FieldsAt t 2 fs []
record_starts t fs h = record {
  are_valid = fields_valid fs h.is_valid;
  here = record { within = omega (arith, ap length h.is_text_lem); left = ap (drop 2) h.is_text_lem ∙ sym (append-nil (joined field_text fs)) };
  closed = tt;
}

pub record_labels : (t : Text) (fs : List Field) → HoldsRecord fs t → T (distinct (labels fs))
record_labels t fs h = (three (ltb 0 (length fs)) (all valid_field fs) (distinct (labels fs)) h.is_valid).2

-- a field is held where the text found of its label is its text
pub held_found : (t : Text) (fs : List Field) → HoldsRecord fs t → (g : Field) (r : Answer Span) → text_at t r ≡ text_of fs g.label
    → is_text (text_at t r) g.text ≡ any (same_field g) fs
held_found t fs h g r e = ap (λ o. is_text o g.text) e ∙ sym (held_text g fs (record_labels t fs h))

-- ---- a text is that of one record only

pub none_left : (t : Text) (at : ℕ) → FieldsAt t at [] [] → length t ≤ at
none_left t at F = let e : length (drop at t) ≡ 0 = ap length F.here.left in omega (arith, length-drop at t, e)

-- one field stands at a place, whatever follows
pub one_field : (t : Text) (at : ℕ) (f g : Field) (q r : Text) → FieldAt t at f q → FieldAt t at g r → f ≡ g
one_field t at f g q r F G =
    let n : ℕ = at + 2 + length (front (is_not 9) (drop (at + 2) t)) in
    let m : ℕ = n + 1 + length (front (is_not 10) (drop (n + 1) t)) in
    let E : EndsOf t at f q (record { label = n; text = m }) = field_ends t at f q F n m refl refl in
    let D : EndsOf t at g r (record { label = n; text = m }) = field_ends t at g r G n m refl refl in
    λ i. record { label = (sym E.label_is ∙ D.label_is) i; text = (sym E.text_is ∙ D.text_is) i }

pub fields_only : (t : Text) (at : ℕ) (fs gs : List Field) → FieldsAt t at fs [] → FieldsAt t at gs [] → fs ≡ gs
fields_only t at [] [] F G = refl
fields_only t at [] (g ∷ gs) F G = absurd (nothing_here t at 70 _ (fields_head t at g gs [] G).here (none_left t at F))
fields_only t at (f ∷ fs) [] F G = absurd (nothing_here t at 70 _ (fields_head t at f fs [] F).here (none_left t at G))
fields_only t at (f ∷ fs) (g ∷ gs) F G =
    let e : f ≡ g = one_field t at f g _ _ (fields_head t at f fs [] F) (fields_head t at g gs [] G) in
    let n : ℕ = at + length (field_text f) in
    let rest : fs ≡ gs = fields_only t n fs gs (fields_tail t at f fs [] n refl F) (fields_tail t at g gs [] n (ap (λ k. at + length (field_text k)) e) G) in
    λ i. e i ∷ rest i
