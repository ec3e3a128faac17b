-- Laws of each sort of record: strings, fields.
-- Assumes nothing.
use mathlib.Core.Path.{◌≡◌, refl, sym, ap, ◌∙◌}
use Prim.Native.Nat.{ℕ, ◌+◌, ◌-◌, ◌≤◌, ◌<◌}
use native.Mathlib.Omega.{arith}
use mathlib.Core.Bool.{Bool}
use mathlib.Core.List.{[], ◌∷◌, ◌++◌, append_assoc}
use lib.Dec.{T, leb, leb→le, le→leb}
use lib.ListN.{length, get_or, drop}
use Rattle.language.specs.Text.{Text, all}
use Rattle.language.specs.Bytes.{string_byte}
use Rattle.language.specs.State as S
use Rattle.language.specs.Identifiers.{is_name, is_string}
use Rattle.language.specs.Encode.{field_text}
use Rattle.language.specs.Valid.{valid_field}
use Rattle.language.proofs.Logic.Tests.{both, and}
use Rattle.lines.specs.Cuts.{Field}
use Rattle.text.specs.Parts.{part}
use Rattle.lines.proofs.Cuts.{only, name_only}
use Rattle.record_fields.specs.Sections.{Reads, Fails, light_one, any_text, string_line, field_weight, One, Entitled}
use Rattle.record_fields.proofs.Opening.{twice, tail_of, next_here, part_length}

-- a record whose text holds another's, from place k on
module _ {A B : Type 0} (text : A → Text) (fineA : A → Bool) (clear : Text → Bool) (g : B → Text) (fineB : B → Bool) (clear' : Text → Bool)
    (weaker : (q : Text) → T (clear q) → T (clear' q)) (mk : B → A) (t : Text) (at k : ℕ)
    (cases : (a : A) (q : Text) → T (fineA a) → T (clear q) → drop at t ≡ text a ++ q → (b : B) × (a ≡ mk b) × T (fineB b) × (drop k t ≡ g b ++ q)) where
  pub inner_fails : Fails g fineB clear' t k → Fails text fineA clear t at
  inner_fails never a q h c d = let (b, s, f, e) = cases a q h c d in never b q f (weaker q c) e

  pub inner_reads : (b : B) (e : ℕ) → at ≤ k → Reads g fineB clear' t k b e → T (fineA (mk b)) → drop at t ≡ text (mk b) ++ drop e t → Reads text fineA clear t at (mk b) e
  inner_reads b e l r f h = record {
    low = omega (arith, r.low);
    high = r.high;
    is_fine = f;
    here = h;
    only = λ a q fa c d.
        let (b', s, fb, d') = cases a q fa c d in
        let (same, left) = r.only b' q fb (weaker q c) d' in
        (s ∙ ap mk same, left);
  }

pub any_weaker : (clear : Text → Bool) (q : Text) → T (clear q) → T (any_text q)
any_weaker clear q c = tt

-- ---- strings

string_only : (t : Text) (at e : ℕ) → Field (all string_byte) 10 t at e → (u q : Text) → T (is_string u) → drop at t ≡ u ++ 10 ∷ q → (part t at e ≡ u) × (drop (e + 1) t ≡ q)
string_only t at e f = only string_byte is_string (λ x h. h) 10 refl t at e f

line_text : (u q : Text) → string_line u ++ q ≡ u ++ 10 ∷ q
line_text u q = append_assoc u (10 ∷ []) q

module _ (t : Text) (at w : ℕ) where
  module _ (e : ℕ) (f : Field (all string_byte) 10 t at e) where
    size : length (part t at e) ≡ e - at
    size = part_length t at e f.low (omega (arith, f.high))

    pub string_heavy : 8192 < w + (e - at) → Fails string_line (light_one is_string length w) any_text t at
    string_heavy h u q g c d =
        let (s, l) = both (is_string u) (leb (w + length u) 8192) g in
        let (same, left) = string_only t at e f u q s (d ∙ line_text u q) in
        let k : w + length u ≤ 8192 = leb→le (w + length u) 8192 l in
        omega (arith, size, ap length same)

    pub string_good : (after : ℕ) → after ≡ w + (e - at) → after ≤ 8192 → One string_line is_string length any_text t at w (e + 1) after
    string_good after s h = record {
      row = part t at e;
      reads = record {
        low = omega (arith, f.low);
        high = omega (arith, f.high);
        is_fine = and (is_string (part t at e)) (leb (w + length (part t at e)) 8192) f.is_fine (le→leb (w + length (part t at e)) 8192 (omega (arith, size)));
        here = f.here ∙ sym (line_text (part t at e) (drop (e + 1) t));
        only = λ u q g c d.
            let (s, l) = both (is_string u) (leb (w + length u) 8192) g in
            let (same, left) = string_only t at e f u q s (d ∙ line_text u q) in
            (sym same, sym left);
      };
      weighed = omega (arith, size);
    }

-- ---- fields

field_text_lem : (f : S.Field) (q : Text) → field_text f ++ q ≡ 70 ∷ 9 ∷ (f.label ++ 9 ∷ (string_line f.text ++ q))
field_text_lem f q = ap (λ (l : Text). 70 ∷ 9 ∷ l) (append_assoc f.label (9 ∷ string_line f.text) q)

module _ (t : Text) (at w : ℕ) where
  -- the byte after the letter is no tab
  pub field_tab : (get_or t (at + 1) 0 ≡ 9 → ⊥) → Fails field_text (light_one valid_field field_weight w) any_text t at
  field_tab h f q g c d = h (next_here t at (70 ∷ 9 ∷ (f.label ++ 9 ∷ (string_line f.text ++ q))) (d ∙ field_text_lem f q))

  module _ (is_f : get_or t at 0 ≡ 70) (is-tab : get_or t (at + 1) 0 ≡ 9) where
    inside_field : (f : S.Field) (q : Text) → drop at t ≡ field_text f ++ q → drop (at + 2) t ≡ f.label ++ 9 ∷ (string_line f.text ++ q)
    inside_field f q d =
        let e : 70 ∷ 9 ∷ drop (at + 2) t ≡ 70 ∷ 9 ∷ (f.label ++ 9 ∷ (string_line f.text ++ q)) = sym (twice t at 70 9 (omega arith) (omega arith) is_f is-tab) ∙ d ∙ field_text_lem f q in
        tail_of 9 9 _ _ (tail_of 70 70 _ _ e)

    pub field_unnamed : ((x r : Text) → T (is_name x) → drop (at + 2) t ≡ x ++ 9 ∷ r → ⊥) → Fails field_text (light_one valid_field field_weight w) any_text t at
    field_unnamed never f q g c d =
        let (v, l) = both (valid_field f) (leb (w + field_weight f) 8192) g in
        let (n, s) = both (is_name f.label) (is_string f.text) v in
        never f.label (string_line f.text ++ q) n (inside_field f q d)

    module _ (m : ℕ) (n : Field is_name 9 t (at + 2) m) where
      label : Text
      label = part t (at + 2) m

      sized : length label ≡ m - (at + 2)
      unfolding label
      sized = part_length t (at + 2) m n.low (omega (arith, n.high))

      with_text : Text → S.Field
      with_text u = record { label = label; text = u }

      before : ℕ
      before = w + 1 + (m - (at + 2))

      cases : (f : S.Field) (q : Text) → T (light_one valid_field field_weight w f) → T (any_text q) → drop at t ≡ field_text f ++ q
          → (u : Text) × (f ≡ with_text u) × T (light_one is_string length before u) × (drop (m + 1) t ≡ string_line u ++ q)
      unfolding label with_text before
      cases f q g c d =
          let (v, l) = both (valid_field f) (leb (w + field_weight f) 8192) g in
          let (nm, s) = both (is_name f.label) (is_string f.text) v in
          let (same, left) = name_only 9 refl t (at + 2) m n f.label (string_line f.text ++ q) nm (inside_field f q d) in
          let k : w + field_weight f ≤ 8192 = leb→le (w + field_weight f) 8192 l in
          let z : before + length f.text ≤ 8192 = omega (arith, sized, ap length same) in
          (f.text, ap (λ (x : Text). record { label = x; text = f.text }) (sym same), and (is_string f.text) (leb (before + length f.text) 8192) s (le→leb (before + length f.text) 8192 z), left)

      pub field_stringless : Fails string_line (light_one is_string length (w + 1 + (m - (at + 2)))) any_text t (m + 1) → Fails field_text (light_one valid_field field_weight w) any_text t at
      unfolding before
      field_stringless = inner_fails field_text (light_one valid_field field_weight w) any_text string_line (light_one is_string length before) any_text (any_weaker any_text) with_text t at (m + 1) cases

      pub field_good : (e after : ℕ) → One string_line is_string length any_text t (m + 1) (w + 1 + (m - (at + 2))) e after → Entitled (λ (f : S.Field). f.label) field_text valid_field field_weight any_text t at w m e after
      unfolding label with_text before
      field_good e after o =
          let u : Text = o.row in
          let r = o.reads in
          let (s, l) = both (is_string u) (leb (before + length u) 8192) r.is_fine in
          let k : before + length u ≤ 8192 = leb→le (before + length u) 8192 l in
          let z : w + field_weight (with_text u) ≤ 8192 = omega (arith, sized) in
          let h : drop at t ≡ field_text (with_text u) ++ drop e t =
          twice t at 70 9 (omega arith) (omega arith) is_f is-tab
          ∙ ap (λ (x : Text). 70 ∷ 9 ∷ x) (n.here ∙ ap (λ (x : Text). label ++ 9 ∷ x) r.here)
          ∙ sym (field_text_lem (with_text u) (drop e t)) in
          record {
            one = record {
              row = with_text u;
              reads = inner_reads field_text (light_one valid_field field_weight w) any_text string_line (light_one is_string length before) any_text (any_weaker any_text) with_text t at (m + 1) cases u e (omega (arith, n.low)) r
                  (and (valid_field (with_text u)) (leb (w + field_weight (with_text u)) 8192) (and (is_name label) (is_string u) n.is_fine s) (le→leb (w + field_weight (with_text u)) 8192 z)) h;
              weighed = omega (arith, sized, o.weighed);
            };
            mid_low = n.low;
            mid_high = omega (arith, n.high);
            name_holds = refl;
          }
