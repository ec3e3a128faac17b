-- Laws of the lines of fields in a row.
-- Assumes nothing.
use mathlib.Core.Path.{◌≡◌, refl, sym, ap, ◌∙◌}
use Prim.Native.Nat.{ℕ, ◌+◌, ◌≤◌, ◌<◌}
use native.Mathlib.Omega.{arith}
use mathlib.Core.Bool.{not}
use mathlib.Core.List.{List, [], ◌∷◌, ◌++◌, append_assoc}
use lib.Dec.{T, eqb}
use lib.ListN.{length, get_or, drop, length-append, length-drop}
use lib.Seq.{drop-cons}
use Rattle.language.specs.Text.{Text, all, joined, front}
use Rattle.language.specs.State.{Field}
use Rattle.language.specs.Encode.{field_text}
use Rattle.language.specs.Valid.{valid_field}
use Rattle.language.proofs.Logic.Tests.{both}
use Rattle.text.specs.Meaning.{is_not}
use Rattle.values.specs.Places.{Here, no_field, FieldAt, FieldsAt}
use Rattle.values.proofs.Standing.{stops, past, again, moved, field_head, field_line_lem, field_free}

pub fields_head : (t : Text) (at : ℕ) (f : Field) (fs : List Field) (rest : Text) → FieldsAt t at (f ∷ fs) rest → FieldAt t at f (joined field_text fs ++ rest)
fields_head t at f fs rest F = record {
  is_valid = (both (valid_field f) (all valid_field fs) F.are_valid).0;
  here = again t at _ _ (append_assoc (field_text f) (joined field_text fs) rest) F.here;
}

pub fields_tail : (t : Text) (at : ℕ) (f : Field) (fs : List Field) (rest : Text) (n : ℕ) → n ≡ at + length (field_text f)
    → FieldsAt t at (f ∷ fs) rest → FieldsAt t n fs rest
fields_tail t at f fs rest n e F = record {
  are_valid = (both (valid_field f) (all valid_field fs) F.are_valid).1;
  here = moved t (at + length (field_text f)) n _ (sym e) (past t at (field_text f) (joined field_text fs ++ rest) (fields_head t at f fs rest F).here);
  closed = F.closed;
}

-- a byte that stands at a place
pub byte_here : (t : Text) (at b : ℕ) (r : Text) → Here t at (b ∷ r) → get_or t at 0 ≡ b
byte_here t at b r h =
    let n : at < length t = let e : length (drop at t) ≡ length (b ∷ r) = ap length h.left in omega (arith, length-drop at t, e) in
    ap (λ l. get_or l 0 0) (sym (drop-cons t at 0 n) ∙ h.left)

pub nothing_here : (t : Text) (at b : ℕ) (r : Text) → Here t at (b ∷ r) → length t ≤ at → ⊥
nothing_here t at b r h n = let e : length (drop at t) ≡ length (b ∷ r) = ap length h.left in omega (arith, length-drop at t, e)

-- no field's line stands where what follows is none
pub no_line : (t : Text) (i : ℕ) (r : Text) → Here t i r → T (no_field r) → i < length t → get_or t i 0 ≡ 70 → ⊥
no_line t i [] h c n b = let e : length (drop i t) ≡ 0 = ap length h.left in omega (arith, length-drop i t, e)
no_line t i (x ∷ r) h c n b = differ x (sym (byte_here t i x r h) ∙ b) c
  where
    differ : (x : ℕ) → x ≡ 70 → T (not (eqb x 70)) → ⊥
    differ x e = rw e (λ c. c)

pub field_length : (f : Field) → length (field_text f) ≡ length f.label + length f.text + 4
field_length f = omega (arith, length-append f.label (9 ∷ (f.text ++ (10 ∷ []))), length-append f.text (10 ∷ []))

-- what is left of the lines of the fields fs, from place i on
pub record FieldsLeft (t : Text) (at : ℕ) (fs : List Field) (rest : Text) (i : ℕ) : Type 0 where
  pub left : List Field
  pub stand : FieldsAt t i left rest
  pub total : i + length (joined field_text left) ≡ at + length (joined field_text fs)

module _ (t : Text) (at : ℕ) (fs : List Field) (rest : Text) where
  pub fields_start : FieldsAt t at fs rest → FieldsLeft t at fs rest at
  fields_start F = record { left = fs; stand = F; total = refl }

  -- no field's line at i: none is left
  pub fields_done : (i : ℕ) → FieldsLeft t at fs rest i → (get_or t i 0 ≡ 70 → ⊥) → i ≡ at + length (joined field_text fs)
  fields_done i L n = go L.left L.stand L.total
    where
      go : (l : List Field) → FieldsAt t i l rest → i + length (joined field_text l) ≡ at + length (joined field_text fs) → i ≡ at + length (joined field_text fs)
      go [] F e = omega arith
      go (f ∷ l) F e = absurd (n (byte_here t i 70 _ (fields_head t i f l rest F).here))

  pub fields_out : (i : ℕ) → FieldsLeft t at fs rest i → length t ≤ i → i ≡ at + length (joined field_text fs)
  fields_out i L n = go L.left L.stand L.total
    where
      go : (l : List Field) → FieldsAt t i l rest → i + length (joined field_text l) ≡ at + length (joined field_text fs) → i ≡ at + length (joined field_text fs)
      go [] F e = omega arith
      go (f ∷ l) F e = absurd (nothing_here t i 70 _ (fields_head t i f l rest F).here n)

  -- a field's line at i, whose newline is at e
  pub fields_step : (i e : ℕ) → FieldsLeft t at fs rest i → i < length t → get_or t i 0 ≡ 70 → e ≡ i + length (front (is_not 10) (drop i t))
      → FieldsLeft t at fs rest (e + 1) × (e + 1 ≤ length t)
  fields_step i e L n b q = go L.left L.stand L.total
    where
      go : (l : List Field) → FieldsAt t i l rest → i + length (joined field_text l) ≡ at + length (joined field_text fs)
          → FieldsLeft t at fs rest (e + 1) × (e + 1 ≤ length t)
      go [] F k = absurd (no_line t i rest F.here F.closed n b)
      go (f ∷ l) F k =
          let A : FieldAt t i f (joined field_text l ++ rest) = fields_head t i f l rest F in
          let s : e ≡ i + length (field_head f) =
          stops t i 10 (field_head f) (joined field_text l ++ rest) e (field_free f A.is_valid) (again t i _ _ (field_line_lem f (joined field_text l ++ rest)) A.here) q in
          let m : e + 1 ≡ i + length (field_text f) = omega (arith, s, field_length f, length-append f.label (9 ∷ f.text)) in
          let G : FieldsAt t (e + 1) l rest = fields_tail t i f l rest (e + 1) m F in (
            record { left = l; stand = G; total = omega (arith, k, m, length-append (field_text f) (joined field_text l)) },
            G.here.within,
          )
