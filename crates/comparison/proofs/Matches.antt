-- A field's line that stands in a record's text where a line starts is that of one of its fields.
-- Assumes nothing.
use mathlib.Core.Path.{◌≡◌, refl, sym, ap, ◌∙◌, subst}
use Prim.Native.Nat.{ℕ, zero, suc, ◌+◌, ◌-◌, ◌≤◌, ◌<◌}
use native.Mathlib.Omega.{arith}
use native.Mathlib.Decide.{dec_le}
use mathlib.Core.Bool.{true, not}
use mathlib.Core.List.{List, [], ◌∷◌, ◌++◌, append-nil}
use lib.Dec.{T, T_not, eqb, eqb_refl}
use lib.ListN.{length, get_or, take, drop, length-append, take-append-drop, get_or-append}
use lib.Seq.{get_or-drop}
use Rattle.language.specs.Text.{Text, ◌≟◌, all, any}
use Rattle.language.specs.State.{Field}
use Rattle.language.specs.Encode.{field_text}
use Rattle.language.specs.Functions.{same_field}
use Rattle.language.proofs.Logic.Tests.{both, left_of_lem, right_of, true_of, ==→≡}
use Rattle.language.proofs.Meaning.SameFields.{field_self}
use Rattle.language.proofs.StateText.Lines.{Free}
use Rattle.values.specs.Places.{Here, FieldAt, FieldsAt}
use Rattle.values.specs.Answers.{EndsOf}
use Rattle.values.specs.declared.Ends.{Ends}
use Rattle.values.proofs.Standing.{again, field_head, field_line_lem, field_free}
use Rattle.values.proofs.Lines.{fields_head, fields_tail, nothing_here, field_length}
use Rattle.comparison.specs.Records.{HoldsRecord, LineOf, StandsAt}
use Rattle.comparison.proofs.Fields.{record_starts, none_left, one_field}

free_at : (m : ℕ) (a : Text) (j : ℕ) → Free m a → j < length a → get_or a j 0 ≡ m → ⊥
free_at m [] j h n e = omega arith
free_at m (b ∷ a) zero h n e = T_not (eqb b m) (both (not (eqb b m)) (all (λ b. not (eqb b m)) a) h).0 (subst (λ x. T (eqb b x)) e (eqb_refl b))
free_at m (b ∷ a) (suc j) h n e = free_at m a j (both (not (eqb b m)) (all (λ b. not (eqb b m)) a) h).1 (omega arith) e

head_length : (f : Field) → length (field_text f) ≡ length (field_head f) + 1
head_length f = omega (arith, field_length f, length-append f.label (9 ∷ f.text))

-- ---- what the code has seen

pub line_there : (t : Text) (at : ℕ) (l : Text) → 0 < at → get_or t (at - 1) 0 ≡ 10 → at + length l ≤ length t → (take (at + length l - at) (drop at t) ≟ l) ≡ true → StandsAt t at l
line_there t at l a b w e = record {
  ahead = a;
  starts = b;
  within = w;
  is_there = let n : at + length l - at ≡ length l = omega arith in ap (λ k. take k (drop at t)) (sym n) ∙ ==→≡ _ l (subst T (sym e) tt);
}

-- ---- what stands at the start of a line

-- no newline stands in a line
no_break : (t : Text) (at : ℕ) (f : Field) (q : Text) → FieldAt t at f q → (k : ℕ) → at ≤ k → k + 1 < at + length (field_text f) → get_or t k 0 ≡ 10 → ⊥
no_break t at f q F k low high e =
    let H : Here t at (field_head f ++ 10 ∷ q) = again t at _ _ (field_line_lem f q) F.here in
    let j : ℕ = k - at in
    let n : j < length (field_head f) = omega (arith, head_length f) in
    let k-is : at + j ≡ k = omega arith in
    let b : get_or t k 0 ≡ get_or (field_head f) j 0 =
    ap (λ i. get_or t i 0) (sym k-is) ∙ sym (get_or-drop at t j 0) ∙ ap (λ l. get_or l j 0) H.left ∙ get_or-append (field_head f) (10 ∷ q) 0 j n in
    free_at 10 (field_head f) j (field_free f F.is_valid) n (sym b ∙ e)

-- a line that starts at p is that of one of the fields that stand from `at` on
one_of_them : (t : Text) (at : ℕ) (fs : List Field) → FieldsAt t at fs [] → (p : ℕ) → at ≤ p → get_or t (p - 1) 0 ≡ 10 → (g : Field) (r : Text) → FieldAt t p g r → T (any (same_field g) fs)
one_of_them t at [] F p low b g r G = absurd (nothing_here t p 70 _ G.here (omega (arith, none_left t at F)))
one_of_them t at (f ∷ fs) F p low b g r G = elim (dec_le (at + length (field_text f)) p) [
  | yes h ↦ right_of (same_field g f) (any (same_field g) fs) (one_of_them t (at + length (field_text f)) fs (fields_tail t at f fs [] _ refl F) p h b g r G)
  | no h ↦ elim (dec_le p at) [
    | yes k ↦
        let e : p ≡ at = omega arith in
        let G' : FieldAt t at g r = subst (λ i. FieldAt t i g r) e G in
        let s : f ≡ g = one_field t at f g _ _ (fields_head t at f fs [] F) G' in
        left_of_lem (same_field g f) (any (same_field g) fs) (subst (λ x. T (same_field g x)) (sym s) (field_self g))
    | no k ↦ absurd (no_break t at f _ (fields_head t at f fs [] F) (p - 1) (omega arith) (omega arith) b)
  ]
]

-- the line of the field g, at a place where a line starts
field_there : (t l : Text) (p : ℕ) (g : Field) → LineOf g l → StandsAt t p l → FieldAt t p g (drop (length l) (drop p t))
field_there t l p g G S = record {
  is_valid = G.is_valid;
  here = record {
    within = omega (arith, S.within);
    left =
        sym (take-append-drop (length l) (drop p t))
        ∙ ap (λ x. x ++ drop (length l) (drop p t)) (S.is_there ∙ G.here.left ∙ append-nil (field_text g));
  };
}

pub stands_held : (t l : Text) (fs : List Field) (g : Field) (p : ℕ) → HoldsRecord fs t → LineOf g l → StandsAt t p l → true ≡ any (same_field g) fs
stands_held t l fs g p h G S = sym (true_of (any (same_field g) fs) (elim (dec_le 2 p) [
  | yes n ↦ one_of_them t 2 fs (record_starts t fs h) p n S.starts g _ (field_there t l p g G S)
  | no n ↦
      let one : p - 1 ≡ 0 = omega (arith, S.ahead) in
      let b : get_or t 0 0 ≡ 82 = ap (λ x. get_or x 0 0) h.is_text_lem in
      let c : get_or t 0 0 ≡ 10 = ap (λ i. get_or t i 0) (sym one) ∙ S.starts in
      absurd (omega arith)
]))

-- ---- the parts of a field's line, as the code reads them

module _ (l : Text) (g : Field) (G : LineOf g l) (r : Ends) (E : EndsOf l 0 g [] r) where
  pub read_field : record { label = take (r.label - 2) (drop 2 l); text = take (r.text - (r.label + 1)) (drop (r.label + 1) l) } ≡ g
  read_field = λ i. record { label = E.label_is i; text = E.text_is i }
