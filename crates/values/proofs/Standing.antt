-- Laws of places in a value's text: what is clean, where a scan stops, and what stands after a part.
-- Assumes nothing.
use mathlib.Core.Path.{◌≡◌, refl, sym, ap, ◌∙◌}
use Prim.Native.Nat.{ℕ, ◌+◌, ◌-◌, ◌≤◌}
use native.Mathlib.Omega.{arith}
use mathlib.Core.Bool.{Bool, true, false, not}
use mathlib.Core.List.{List, [], ◌∷◌, ◌++◌, append_assoc, map}
use lib.Dec.{T, eqb, ltb, eqb_refl}
use lib.ListN.{length, take, drop, length-append, length-drop}
use lib.Seq.{drop-drop, drop-append_seam, take-append_seam}
use Rattle.language.specs.Text.{Text, when◌then◌else◌, all, distinct, front}
use Rattle.language.specs.State.{Field}
use Rattle.language.specs.Encode.{field_text}
use Rattle.language.specs.Identifiers.{is_name, is_string}
use Rattle.language.specs.Valid.{valid_field, valid_fields}
use Rattle.language.proofs.Logic.Tests.{both, three, all_map, all_append}
use Rattle.language.proofs.StateText.Lines.{is_clean, Free}
use Rattle.language.proofs.StateText.Clean as Clean
use Rattle.text.specs.Meaning.{is_not}
use Rattle.values.specs.Places.{Here, FieldAt}
use Rattle.values.specs.Answers.{EndsOf}

-- ---- what is clean

pub label_clean : (f : Field) → T (valid_field f) → T (is_clean f.label)
label_clean f h = Clean.name_clean f.label (both (is_name f.label) (is_string f.text) h).0

pub text_clean : (f : Field) → T (valid_field f) → T (is_clean f.text)
text_clean f h = Clean.string_clean f.text (both (is_name f.label) (is_string f.text) h).1

pub fields_valid : (fs : List Field) → T (valid_fields fs) → T (all valid_field fs)
fields_valid fs h = (three (ltb 0 (length fs)) (all valid_field fs) (distinct (map (λ f. f.label) fs)) h).1

pub free_tab : (t : Text) → T (is_clean t) → Free 9 t
free_tab = all_map _ _ (λ b h. (both (not (eqb b 9)) (not (eqb b 10)) h).0)

pub free_newline : (t : Text) → T (is_clean t) → Free 10 t
free_newline = all_map _ _ (λ b h. (both (not (eqb b 9)) (not (eqb b 10)) h).1)

-- ---- where a scan stops

front_free : (m : ℕ) (a r : Text) → Free m a → front (is_not m) (a ++ m ∷ r) ≡ a
front_free m [] r h = go (eqb m m) (eqb_refl m)
  where
    go : (c : Bool) → T c → (when not c then m ∷ front (is_not m) r else []) ≡ []
    go true k = refl
    go false k = absurd k
front_free m (b ∷ a) r h =
    let (h₁, h₂) = both (not (eqb b m)) (all (λ b. not (eqb b m)) a) h in
    go (not (eqb b m)) h₁ (front_free m a r h₂)
  where
    go : (c : Bool) → T c → front (is_not m) (a ++ m ∷ r) ≡ a → (when c then b ∷ front (is_not m) (a ++ m ∷ r) else []) ≡ b ∷ a
    go true k e = ap (λ l. b ∷ l) e
    go false k e = absurd k

pub stops : (t : Text) (at m : ℕ) (a r : Text) (e : ℕ) → Free m a → Here t at (a ++ m ∷ r)
    → e ≡ at + length (front (is_not m) (drop at t)) → e ≡ at + length a
stops t at m a r e h k q = q ∙ ap (λ l. at + length l) (ap (front (is_not m)) k.left ∙ front_free m a r h)

-- ---- past a part, and the part itself

pub past : (t : Text) (k : ℕ) (a b : Text) → Here t k (a ++ b) → Here t (k + length a) b
past t k a b h = record {
  within = let e : length (drop k t) ≡ length (a ++ b) = ap length h.left in omega (arith, h.within, length-drop k t, length-append a b, e);
  left = sym (drop-drop (length a) k t) ∙ ap (drop (length a)) h.left ∙ drop-append_seam a b;
}

pub part_is : (t : Text) (k e : ℕ) (a b : Text) → Here t k (a ++ b) → e ≡ k + length a → take (e - k) (drop k t) ≡ a
part_is t k e a b h q =
    let n : e - k ≡ length a = omega arith in
    ap (λ n. take n (drop k t)) n ∙ ap (take (length a)) h.left ∙ take-append_seam a b

-- the same text, written otherwise
pub again : (t : Text) (k : ℕ) (r s : Text) → r ≡ s → Here t k r → Here t k s
again t k r s e h = record { within = h.within; left = h.left ∙ e }

pub moved : (t : Text) (j k : ℕ) (r : Text) → j ≡ k → Here t j r → Here t k r
moved t j k r e h = record { within = omega (arith, h.within); left = ap (λ n. drop n t) (sym e) ∙ h.left }

-- ---- a field's line

-- the line without its end
abbrev pub field_head : Field → Text
field_head f = 70 ∷ 9 ∷ (f.label ++ 9 ∷ f.text)

pub field_line_lem : (f : Field) (r : Text) → field_text f ++ r ≡ field_head f ++ 10 ∷ r
field_line_lem f r = ap (λ l. 70 ∷ 9 ∷ l)
    (append_assoc f.label (9 ∷ (f.text ++ (10 ∷ []))) r
    ∙ ap (λ l. f.label ++ 9 ∷ l) (append_assoc f.text (10 ∷ []) r)
    ∙ sym (append_assoc f.label (9 ∷ f.text) (10 ∷ r)))

pub field_free : (f : Field) → T (valid_field f) → Free 10 (field_head f)
field_free f h = all_append (λ b. not (eqb b 10)) f.label (9 ∷ f.text) (free_newline f.label (label_clean f h)) (free_newline f.text (text_clean f h))

module _ (t : Text) (at : ℕ) (f : Field) (rest : Text) (F : FieldAt t at f rest) where
  -- past `F` and the tab
  label_here : Here t (at + 2) (f.label ++ 9 ∷ (f.text ++ 10 ∷ rest))
  label_here =
      let e : field_text f ++ rest ≡ (70 ∷ 9 ∷ []) ++ (f.label ++ 9 ∷ (f.text ++ 10 ∷ rest)) = field_line_lem f rest ∙ ap (λ l. 70 ∷ 9 ∷ l) (append_assoc f.label (9 ∷ f.text) (10 ∷ rest)) in
      past t at (70 ∷ 9 ∷ []) _ (again t at _ _ e F.here)

  text_here : (n : ℕ) → n ≡ at + 2 + length f.label → Here t (n + 1) (f.text ++ 10 ∷ rest)
  text_here n e =
      moved t (at + 2 + length f.label + 1) (n + 1) _ (omega arith)
      (past t (at + 2 + length f.label) (9 ∷ []) _ (past t (at + 2) f.label (9 ∷ (f.text ++ 10 ∷ rest)) label_here))

  pub label_within : at + 2 ≤ length t
  label_within = label_here.within

  pub label_ends : (n : ℕ) → n ≡ at + 2 + length (front (is_not 9) (drop (at + 2) t)) → n ≡ at + 2 + length f.label
  label_ends n e = stops t (at + 2) 9 f.label (f.text ++ 10 ∷ rest) n (free_tab f.label (label_clean f F.is_valid)) label_here e

  pub text_within : (n : ℕ) → n ≡ at + 2 + length (front (is_not 9) (drop (at + 2) t)) → n + 1 ≤ length t
  text_within n e = (text_here n (label_ends n e)).within

  pub field_ends : (n m : ℕ) → n ≡ at + 2 + length (front (is_not 9) (drop (at + 2) t)) → m ≡ n + 1 + length (front (is_not 10) (drop (n + 1) t))
      → EndsOf t at f rest (record { label = n; text = m })
  field_ends n m e q =
      let l : n ≡ at + 2 + length f.label = label_ends n e in
      let h : Here t (n + 1) (f.text ++ 10 ∷ rest) = text_here n l in
      let k : m ≡ n + 1 + length f.text = stops t (n + 1) 10 f.text rest m (free_newline f.text (text_clean f F.is_valid)) h q in
      let p : Here t (m + 1) rest = moved t (n + 1 + length f.text + 1) (m + 1) rest (omega arith) (past t (n + 1 + length f.text) (10 ∷ []) rest (past t (n + 1) f.text (10 ∷ rest) h)) in
      record {
        label_end = l;
        text_end = k;
        within = p.within;
        label_is = part_is t (at + 2) n f.label (9 ∷ (f.text ++ 10 ∷ rest)) label_here l;
        text_is = part_is t (n + 1) m f.text (10 ∷ rest) h k;
        rest_is = p.left;
      }
