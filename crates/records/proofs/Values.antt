-- Laws of strings, records and lists as values.
-- Assumes nothing.
use mathlib.Core.Path.{◌≡◌, refl, sym, ap, ◌∙◌}
use Prim.Native.Nat.{ℕ, ◌+◌, ◌≤◌, ◌<◌}
use native.Mathlib.Omega.{arith}
use mathlib.Core.Bool.{Bool, true, false, ◌&&◌, not}
use mathlib.Core.List.{List, [], ◌∷◌, ◌++◌}
use lib.Dec.{T, eqb, leb, leb→le, le→leb, ltb, lt→ltb}
use lib.ListN.{length, get_or, drop}
use Rattle.std.specs.Prelude.{Option, Some, None}
use Rattle.language.specs.Text.{Text, all, joined, sum}
use Rattle.language.specs.State.{Field, Element, string, fields, Value, single, list}
use Rattle.language.specs.Weight.{element_weight, value_weight}
use Rattle.language.specs.Encode.{field_text, element_text, value_text}
use Rattle.language.specs.Identifiers.{is_string}
use Rattle.language.specs.Valid.{valid_field, valid_fields, valid_element, valid_value}
use Rattle.language.proofs.Logic.Tests.{both, and, three, and_three, not_not}
use Rattle.record_fields.specs.Sections.{Reads, Fails, One, Records, light_one, light_all, any_text, opens, off_field, string_line, StringMeant, field_weight, distinct_labels}
use Rattle.records.specs.Values.{off_element, ElementMeant, ElementsMeant, ValueMeant, listed_weight}
use Rattle.record_fields.proofs.Opening.{twice, tail_of, byte_here}
use Rattle.record_fields.proofs.Sorts.{inner_fails, inner_reads, any_weaker}
use Rattle.record_fields.proofs.Follow.{Run, step, stuck, finish}
use Rattle.record_fields.proofs.Labels.{opens_here, opens_not}

-- another test that says the same
pub reweigh : {A : Type 0} (text : A → Text) (f g : A → Bool) (clear : Text → Bool) (t : Text) (at : ℕ) (a : A) (e : ℕ)
    → ((b : A) → T (g b) → T (f b)) → T (g a) → Reads text f clear t at a e → Reads text g clear t at a e
reweigh text f g clear t at a e same h r = record { low = r.low; high = r.high; is_fine = h; here = r.here; only = λ b q gb c d. r.only b q (same b gb) c d }

off_field_lem : (q : Text) → T (off_element q) → T (off_field q)
off_field_lem q h = (three (not (opens 83 q)) (not (opens 82 q)) (not (opens 70 q)) h).2

-- ---- elements

module _ (t : Text) (at w : ℕ) where
  module _ (is-s : get_or t at 0 ≡ 83) where
    module _ (is-tab : get_or t (at + 1) 0 ≡ 9) where
      string_cases : (a : Element) (q : Text) → T (light_one valid_element element_weight w a) → T (off_field q) → drop at t ≡ element_text a ++ q
          → (u : Text) × (a ≡ string u) × T (light_one is_string length w u) × (drop (at + 2) t ≡ string_line u ++ q)
      string_cases (string u) q g c d =
          (u, refl, g, tail_of 9 9 _ _ (tail_of 83 83 _ _ (sym (twice t at 83 9 (omega arith) (omega arith) is-s is-tab) ∙ d)))
      string_cases (fields fs) q g c d = absurd (let e = byte_here t at (element_text (fields fs) ++ q) d in omega arith)

      pub string_element_lem : (r : Option (ℕ × ℕ)) → StringMeant t (at + 2) w r → ElementMeant t at w r
      string_element_lem (Some (e, after)) o = record {
        row = string o.row;
        reads = inner_reads element_text (light_one valid_element element_weight w) off_field string_line (light_one is_string length w) any_text (any_weaker off_field) string t at (at + 2) string_cases
            o.row e (omega arith) o.reads o.reads.is_fine
            (twice t at 83 9 (omega arith) (omega arith) is-s is-tab ∙ ap (λ (l : Text). 83 ∷ 9 ∷ l) o.reads.here);
        weighed = o.weighed;
      }
      string_element_lem None never = inner_fails element_text (light_one valid_element element_weight w) off_field string_line (light_one is_string length w) any_text (any_weaker off_field) string t at (at + 2) string_cases never

  module _ (is-r : get_or t at 0 ≡ 82) where
    module _ (is_line : get_or t (at + 1) 0 ≡ 10) where
      lighter : (fs : List Field) → T (light_one valid_element element_weight w (fields fs)) → T (light_all valid_field distinct_labels field_weight w fs)
      lighter fs g =
          let (v, l) = both (valid_fields fs) (leb (w + element_weight (fields fs)) 8192) g in
          let (n, a, d) = three (ltb 0 (length fs)) (all valid_field fs) (distinct_labels fs) v in
          and_three (all valid_field fs) (distinct_labels fs) (leb (w + sum field_weight fs) 8192) a d l

      record_cases : (a : Element) (q : Text) → T (light_one valid_element element_weight w a) → T (off_field q) → drop at t ≡ element_text a ++ q
          → (fs : List Field) × (a ≡ fields fs) × T (light_all valid_field distinct_labels field_weight w fs) × (drop (at + 2) t ≡ joined field_text fs ++ q)
      record_cases (string u) q g c d = absurd (let e = byte_here t at (element_text (string u) ++ q) d in omega arith)
      record_cases (fields fs) q g c d =
          (fs, refl, lighter fs g, tail_of 10 10 _ _ (tail_of 82 82 _ _ (sym (twice t at 82 10 (omega arith) (omega arith) is-r is_line) ∙ d)))

      module _ (e n after : ℕ) (R : Records field_text valid_field distinct_labels field_weight off_field t (at + 2) w e n after) where
        pub record_element : (n ≡ 0 → ⊥) → One element_text valid_element element_weight off_field t at w e after
        record_element z =
            let (a, d, l) = three (all valid_field R.rows) (distinct_labels R.rows) (leb (w + sum field_weight R.rows) 8192) R.reads.is_fine in
            let p : 0 < length R.rows = omega (arith, R.counted, z) in
            record {
              row = fields R.rows;
              reads = inner_reads element_text (light_one valid_element element_weight w) off_field (joined field_text) (light_all valid_field distinct_labels field_weight w) off_field (λ q h. h) fields t at (at + 2) record_cases
                  R.rows e (omega arith) R.reads
                  (and (valid_fields R.rows) (leb (w + sum field_weight R.rows) 8192) (and_three (ltb 0 (length R.rows)) (all valid_field R.rows) (distinct_labels R.rows) (lt→ltb 0 (length R.rows) p) a d) l)
                  (twice t at 82 10 (omega arith) (omega arith) is-r is_line ∙ ap (λ (l : Text). 82 ∷ 10 ∷ l) R.reads.here);
              weighed = R.weighed;
            }

-- ---- lists

middle : (a c : Bool) → ((not a && false) && c) ≡ false
middle true c = refl
middle false c = refl

module _ (t : Text) (at : ℕ) where
  pub on_string : get_or t at 0 ≡ 83 → true ≡ not (off_element (drop at t))
  on_string e = sym (ap (λ (b : Bool). not (not b && not (opens 82 (drop at t)) && not (opens 70 (drop at t)))) (opens_here t at 83 e))

  pub on_record : get_or t at 0 ≡ 82 → true ≡ not (off_element (drop at t))
  on_record e =
      sym (ap (λ (b : Bool). not (not (opens 83 (drop at t)) && not b && not (opens 70 (drop at t)))) (opens_here t at 82 e) ∙ ap not (middle (opens 83 (drop at t)) (not (opens 70 (drop at t)))))

  pub on_field : (get_or t at 0 ≡ 83 → ⊥) → (get_or t at 0 ≡ 82 → ⊥) → eqb (get_or t at 0) 70 ≡ not (off_element (drop at t))
  on_field s r =
      let d : opens 70 (drop at t) ≡ eqb (get_or t at 0) 70 = ap (λ (b : ℕ). eqb b 70) (sym (byte_here t at (drop at t) refl)) in
      sym (ap (λ (b : Bool). not (not b && not (opens 82 (drop at t)) && not (opens 70 (drop at t)))) (opens_not t at 83 s)
      ∙ ap (λ (b : Bool). not (not b && not (opens 70 (drop at t)))) (opens_not t at 82 r)
      ∙ not_not (opens 70 (drop at t)) ∙ d)

element_clear : (e : Element) (q : Text) → T (off_field (element_text e ++ q))
element_clear (string u) q = tt
element_clear (fields fs) q = tt

element_on : (e : Element) (q : Text) → T (off_element (element_text e ++ q)) → ⊥
element_on (string u) q h = h
element_on (fields fs) q h = h

-- what the loop over the elements knows
pub record Listing (t : Text) (at w i now : ℕ) : Type 0 where
  pub rows : List Element
  pub run : Run element_text valid_element listed_weight off_element t at w rows i now

all_true : List Element → Bool
all_true es = true

module _ (t : Text) (at w i now : ℕ) (L : Listing t at w i now) where
  listed : (e : Element) → T (light_one valid_element listed_weight now e) → T (light_one valid_element element_weight (now + 1) e)
  listed e h =
      let (v, l) = both (valid_element e) (leb (now + listed_weight e) 8192) h in
      let k : now + listed_weight e ≤ 8192 = leb→le (now + listed_weight e) 8192 l in
      and (valid_element e) (leb (now + 1 + element_weight e) 8192) v (le→leb (now + 1 + element_weight e) 8192 (omega arith))

  without : (es : List Element) → T (light_one (all valid_element) (sum listed_weight) w es) → T (light_all valid_element all_true listed_weight w es)
  unfolding all_true
  without es h =
      let (a, l) = both (all valid_element es) (leb (w + sum listed_weight es) 8192) h in
      and_three (all valid_element es) true (leb (w + sum listed_weight es) 8192) a tt l

  pub elements_good : T (off_element (drop i t)) → now ≤ 8192 → One (joined element_text) (all valid_element) (sum listed_weight) off_element t at w i now
  unfolding all_true
  elements_good o l = record {
    row = L.rows;
    reads = reweigh (joined element_text) (light_all valid_element all_true listed_weight w) (light_one (all valid_element) (sum listed_weight) w) off_element t at L.rows i without
        (and (all valid_element L.rows) (leb (w + sum listed_weight L.rows) 8192) L.run.all_fine (le→leb (w + sum listed_weight L.rows) 8192 (omega (arith, L.run.weighed))))
        (finish element_text valid_element listed_weight off_field off_element off_field_lem element_clear element_on t at w all_true L.rows i now L.run o tt l);
    weighed = L.run.weighed;
  }

  module _ (on : T (off_element (drop i t)) → ⊥) where
    pub elements_stuck : Fails element_text (light_one valid_element element_weight (now + 1)) off_field t i → Fails (joined element_text) (light_one (all valid_element) (sum listed_weight) w) off_element t at
    elements_stuck never es q f o d =
        stuck element_text valid_element listed_weight off_field off_element off_field_lem element_clear element_on t at w L.rows i now L.run on all_true
        (λ e q f c d. never e q (listed e f) c d) es q (without es f) o d

    module _ (e after : ℕ) (O : One element_text valid_element element_weight off_field t i (now + 1) e after) where
      fine_one : T (valid_element O.row) × (now + 1 + element_weight O.row ≤ 8192)
      fine_one =
          let (v, l) = both (valid_element O.row) (leb (now + 1 + element_weight O.row) 8192) O.reads.is_fine in
          (v, leb→le (now + 1 + element_weight O.row) 8192 l)

      pub element_light : after ≤ 8192
      element_light = let (v, l) = fine_one in omega (arith, O.weighed)

      pub elements_next : Listing t at w e after
      elements_next =
          let (v, l) = fine_one in
          let k : now + listed_weight O.row ≤ 8192 = omega arith in
          record {
            rows = L.rows ++ O.row ∷ [];
            run = step element_text valid_element listed_weight off_field off_element off_field_lem element_clear element_on t at w L.rows i now L.run on O.row e after
                (reweigh element_text (light_one valid_element element_weight (now + 1)) (light_one valid_element listed_weight now) off_field t i O.row e listed
                (and (valid_element O.row) (leb (now + listed_weight O.row) 8192) v (le→leb (now + listed_weight O.row) 8192 k)) O.reads)
                (omega (arith, O.weighed));
          }

-- ---- values

single_text : (e : Element) → value_text (single e) ≡ element_text e
single_text (string u) = refl
single_text (fields fs) = refl

module _ (t : Text) (at w : ℕ) where
  module _ (no_list : get_or t at 0 ≡ 76 → ⊥) where
    single_cases : (v : Value) (q : Text) → T (light_one valid_value value_weight w v) → T (off_element q) → drop at t ≡ value_text v ++ q
        → (e : Element) × (v ≡ single e) × T (light_one valid_element element_weight w e) × (drop at t ≡ element_text e ++ q)
    single_cases (single e) q g c d = (e, refl, g, d ∙ ap (λ (x : Text). x ++ q) (single_text e))
    single_cases (list es) q g c d = absurd (no_list (byte_here t at (value_text (list es) ++ q) d))

    pub element_value : (r : Option (ℕ × ℕ)) → ElementMeant t at w r → ValueMeant t at w r
    element_value (Some (e, after)) o = record {
      row = single o.row;
      reads = inner_reads value_text (light_one valid_value value_weight w) off_element element_text (light_one valid_element element_weight w) off_field off_field_lem single t at at single_cases
          o.row e (omega arith) o.reads o.reads.is_fine (o.reads.here ∙ ap (λ (x : Text). x ++ drop e t) (sym (single_text o.row)));
      weighed = o.weighed;
    }
    element_value None never = inner_fails value_text (light_one valid_value value_weight w) off_element element_text (light_one valid_element element_weight w) off_field off_field_lem single t at at single_cases never

  module _ (is-l : get_or t at 0 ≡ 76) where
    module _ (is_line : get_or t (at + 1) 0 ≡ 10) where
      list_cases : (v : Value) (q : Text) → T (light_one valid_value value_weight w v) → T (off_element q) → drop at t ≡ value_text v ++ q
          → (es : List Element) × (v ≡ list es) × T (light_one (all valid_element) (sum listed_weight) w es) × (drop (at + 2) t ≡ joined element_text es ++ q)
      list_cases (single (string u)) q g c d = absurd (let e = byte_here t at (value_text (single (string u)) ++ q) d in omega arith)
      list_cases (single (fields fs)) q g c d = absurd (let e = byte_here t at (value_text (single (fields fs)) ++ q) d in omega arith)
      list_cases (list es) q g c d = (es, refl, g, tail_of 10 10 _ _ (tail_of 76 76 _ _ (sym (twice t at 76 10 (omega arith) (omega arith) is-l is_line) ∙ d)))

      pub list_value : (r : Option (ℕ × ℕ)) → ElementsMeant t (at + 2) w r → ValueMeant t at w r
      list_value (Some (e, after)) o = record {
        row = list o.row;
        reads = inner_reads value_text (light_one valid_value value_weight w) off_element (joined element_text) (light_one (all valid_element) (sum listed_weight) w) off_element (λ q h. h) list t at (at + 2) list_cases
            o.row e (omega arith) o.reads o.reads.is_fine
            (twice t at 76 10 (omega arith) (omega arith) is-l is_line ∙ ap (λ (l : Text). 76 ∷ 10 ∷ l) o.reads.here);
        weighed = o.weighed;
      }
      list_value None never = inner_fails value_text (light_one valid_value value_weight w) off_element (joined element_text) (light_one (all valid_element) (sum listed_weight) w) off_element (λ q h. h) list t at (at + 2) list_cases never
