-- Laws of a variable: its name, and its value.
-- Assumes nothing.
use mathlib.Core.Path.{◌≡◌, refl, sym, ap, ◌∙◌}
use Prim.Native.Nat.{ℕ, ◌+◌, ◌-◌, ◌≤◌, ◌<◌}
use native.Mathlib.Omega.{arith}
use mathlib.Core.List.{◌∷◌, ◌++◌, append_assoc}
use lib.Dec.{T, leb, leb→le, le→leb}
use lib.ListN.{length, get_or, drop}
use Rattle.language.specs.Text.{Text}
use Rattle.language.specs.State.{Value, Variable}
use Rattle.language.specs.Weight.{value_weight, variable_weight}
use Rattle.language.specs.Encode.{variable_text, value_text}
use Rattle.language.specs.Identifiers.{is_name}
use Rattle.language.specs.Valid.{valid_value, valid_variable}
use Rattle.language.proofs.Logic.Tests.{both, and}
use Rattle.lines.specs.Cuts.{Field}
use Rattle.text.specs.Parts.{part}
use Rattle.lines.proofs.Cuts.{name_only}
use Rattle.store.proofs.Holders.{variable_text_lem}
use Rattle.record_fields.specs.Sections.{Fails, light_one, One, Entitled}
use Rattle.records.specs.Values.{off_element}
use Rattle.record_fields.proofs.Opening.{twice, tail_of, next_here, part_length}
use Rattle.record_fields.proofs.Sorts.{inner_fails, inner_reads}

abbrev pub text_of : Variable → Text
text_of v = variable_text v.name v.value

whole_text : (v : Variable) (q : Text) → text_of v ++ q ≡ 86 ∷ 9 ∷ (v.name ++ 9 ∷ (value_text v.value ++ q))
whole_text v q = ap (λ (l : Text). l ++ q) (variable_text_lem v.name v.value) ∙ ap (λ (l : Text). 86 ∷ 9 ∷ l) (append_assoc v.name (9 ∷ value_text v.value) q)

module _ (t : Text) (at w : ℕ) where
  abbrev NoVariable : Type 0
  NoVariable = Fails text_of (light_one valid_variable variable_weight w) off_element t at

  pub variable_tab : (get_or t (at + 1) 0 ≡ 9 → ⊥) → NoVariable
  variable_tab h v q g c d = h (next_here t at (86 ∷ 9 ∷ (v.name ++ 9 ∷ (value_text v.value ++ q))) (d ∙ whole_text v q))

  module _ (is-v : get_or t at 0 ≡ 86) (is-tab : get_or t (at + 1) 0 ≡ 9) where
    inside : (v : Variable) (q : Text) → drop at t ≡ text_of v ++ q → drop (at + 2) t ≡ v.name ++ 9 ∷ (value_text v.value ++ q)
    inside v q d = tail_of 9 9 _ _ (tail_of 86 86 _ _ (sym (twice t at 86 9 (omega arith) (omega arith) is-v is-tab) ∙ d ∙ whole_text v q))

    pub variable_unnamed : ((x r : Text) → T (is_name x) → drop (at + 2) t ≡ x ++ 9 ∷ r → ⊥) → NoVariable
    variable_unnamed never v q g c d =
        let (f, l) = both (valid_variable v) (leb (w + variable_weight v) 8192) g in
        let (n, k) = both (is_name v.name) (valid_value v.value) f in
        never v.name (value_text v.value ++ q) n (inside v q d)

    module _ (m : ℕ) (n : Field is_name 9 t (at + 2) m) where
      title : Text
      title = part t (at + 2) m

      sized : length title ≡ m - (at + 2)
      unfolding title
      sized = part_length t (at + 2) m n.low (omega (arith, n.high))

      with_value : Value → Variable
      with_value v = record { name = title; value = v }

      before : ℕ
      before = w + 1 + (m - (at + 2))

      cases : (v : Variable) (q : Text) → T (light_one valid_variable variable_weight w v) → T (off_element q) → drop at t ≡ text_of v ++ q
          → (u : Value) × (v ≡ with_value u) × T (light_one valid_value value_weight before u) × (drop (m + 1) t ≡ value_text u ++ q)
      unfolding title with_value before
      cases v q g c d =
          let (f, l) = both (valid_variable v) (leb (w + variable_weight v) 8192) g in
          let (nm, s) = both (is_name v.name) (valid_value v.value) f in
          let (same, left) = name_only 9 refl t (at + 2) m n v.name (value_text v.value ++ q) nm (inside v q d) in
          let k : w + variable_weight v ≤ 8192 = leb→le (w + variable_weight v) 8192 l in
          let z : before + value_weight v.value ≤ 8192 = omega (arith, sized, ap length same) in
          (v.value, ap (λ (x : Text). record { name = x; value = v.value }) (sym same), and (valid_value v.value) (leb (before + value_weight v.value) 8192) s (le→leb (before + value_weight v.value) 8192 z), left)

      pub variable_heavy : 8192 < w + 1 + (m - (at + 2)) → NoVariable
      unfolding before
      variable_heavy h v q g c d =
          let (u, s, f, e) = cases v q g c d in
          let (x, l) = both (valid_value u) (leb (before + value_weight u) 8192) f in
          let k : before + value_weight u ≤ 8192 = leb→le (before + value_weight u) 8192 l in
          omega arith

      pub variable_valueless : Fails value_text (light_one valid_value value_weight (w + 1 + (m - (at + 2)))) off_element t (m + 1) → NoVariable
      unfolding before
      variable_valueless = inner_fails text_of (light_one valid_variable variable_weight w) off_element value_text (light_one valid_value value_weight before) off_element (λ q h. h) with_value t at (m + 1) cases

      pub variable_good : (e after : ℕ) → One value_text valid_value value_weight off_element t (m + 1) (w + 1 + (m - (at + 2))) e after → Entitled (λ (v : Variable). v.name) text_of valid_variable variable_weight off_element t at w m e after
      unfolding title with_value before
      variable_good e after o =
          let u : Value = o.row in
          let r = o.reads in
          let (s, l) = both (valid_value u) (leb (before + value_weight u) 8192) r.is_fine in
          let k : before + value_weight u ≤ 8192 = leb→le (before + value_weight u) 8192 l in
          let z : w + variable_weight (with_value u) ≤ 8192 = omega (arith, sized) in
          let h : drop at t ≡ text_of (with_value u) ++ drop e t =
          twice t at 86 9 (omega arith) (omega arith) is-v is-tab
          ∙ ap (λ (x : Text). 86 ∷ 9 ∷ x) (n.here ∙ ap (λ (x : Text). title ++ 9 ∷ x) r.here)
          ∙ sym (whole_text (with_value u) (drop e t)) in
          record {
            one = record {
              row = with_value u;
              reads = inner_reads text_of (light_one valid_variable variable_weight w) off_element value_text (light_one valid_value value_weight before) off_element (λ q h. h) with_value t at (m + 1) cases u e (omega (arith, n.low)) r
                  (and (valid_variable (with_value u)) (leb (w + variable_weight (with_value u)) 8192) (and (is_name title) (valid_value u) n.is_fine s) (le→leb (w + variable_weight (with_value u)) 8192 z)) h;
              weighed = omega (arith, sized, o.weighed);
            };
            mid_low = n.low;
            mid_high = omega (arith, n.high);
            name_holds = refl;
          }
