-- The loop over the shared variables.
-- Assumes nothing.
use mathlib.Core.Path.{◌≡◌, refl, sym, ap, subst, ◌∙◌}
use Prim.Native.Nat.{ℕ, ◌+◌, ◌*◌, ◌-◌, ◌≤◌, ◌<◌}
use native.Mathlib.Omega.{arith}
use mathlib.Core.Bool.{Bool, true, false, ◌&&◌, not}
use mathlib.Core.List.{List, ◌∷◌, ◌++◌}
use lib.Dec.{T, eqb}
use lib.ListN.{length, take, drop, get_or, length-append, length-drop}
use lib.Seq.{take_at, length-take-le}
use Rattle.language.specs.Text.{Text, joined}
use Rattle.language.specs.State.{Variable}
use Rattle.language.specs.Weight.{variable_weight}
use Rattle.language.specs.Identifiers.{is_name}
use Rattle.language.specs.Valid.{valid_value, valid_variable}
use Rattle.language.specs.Encode.{value_text}
use Rattle.language.proofs.Logic.Tests.{both, not_not}
use Rattle.language.proofs.StateText.Clean.{name_length}
use Rattle.text.specs.Parts.{part}
use Rattle.store.specs.Rows.{Row, Rows, row_text, variable_row}
use Rattle.store.proofs.Holders.{variable_text_lem}
use Rattle.record_fields.specs.Sections.{Fails, light_one, light_all, Entitled, opens}
use Rattle.records.specs.Values.{off_element}
use Rattle.record_fields.specs.Entering.{Entering, Entered}
use Rattle.record_fields.proofs.Opening.{byte_here}
use Rattle.record_fields.proofs.Follow.{stuck, finish}
use Rattle.records.proofs.Variables.{text_of}
use Rattle.record_fields.proofs.Indexing.{Going, going_start, going_held, going_rows, room, entering, go_on, again, light, weight_low, ahead}
use Rattle.validate.specs.Shared.{off_variable, good_variables}
use Rattle.principal_lines.specs.Listed.{Listed}

-- ---- the letter

module _ (t : Text) (at : ℕ) where
  -- a letter that a value may go on with
  pub within_on : true ≡ not (off_element (drop at t)) → true ≡ not (off_variable (drop at t))
  within_on e = go (off_element (drop at t)) e
    where
      go : (b : Bool) → true ≡ not b → true ≡ not (b && not (opens 86 (drop at t)))
      go true e = absurd (subst (λ (b : Bool). T b) e tt)
      go false e = refl

  pub variable_on : false ≡ not (off_element (drop at t)) → eqb (get_or t at 0) 86 ≡ not (off_variable (drop at t))
  variable_on e = go (off_element (drop at t)) e
    where
      d : opens 86 (drop at t) ≡ eqb (get_or t at 0) 86
      d = ap (λ (b : ℕ). eqb b 86) (sym (byte_here t at (drop at t) refl))

      go : (b : Bool) → false ≡ not b → eqb (get_or t at 0) 86 ≡ not (b && not (opens 86 (drop at t)))
      go true e = sym (not_not (opens 86 (drop at t)) ∙ d)
      go false e = absurd (subst (λ (b : Bool). T b) (sym e) tt)

-- ---- the loop

off_element_lem : (q : Text) → T (off_variable q) → T (off_element q)
off_element_lem q h = (both (off_element q) (not (opens 86 q)) h).0

whole : (v : Variable) (q : Text) → text_of v ++ q ≡ 86 ∷ (9 ∷ (v.name ++ 9 ∷ value_text v.value) ++ q)
whole v q = ap (λ (l : Text). l ++ q) (variable_text_lem v.name v.value)

clear_row : (v : Variable) (q : Text) → T (off_element (text_of v ++ q))
clear_row v q = subst (λ (l : Text). T (off_element l)) (sym (whole v q)) tt

row_on : (v : Variable) (q : Text) → T (off_variable (text_of v ++ q)) → ⊥
row_on v q h = subst (λ (l : Text). T (off_variable l)) (whole v q) h

named : (v : Variable) → T (valid_variable v) → T (is_name v.name)
named v h = (both (is_name v.name) (valid_value v.value) h).0

two : (v : Variable) → T (valid_variable v) → 2 ≤ variable_weight v
two v h = let l = name_length v.name (named v h) in omega (arith, l.0)

some_bytes : (v : Variable) → 0 < length (text_of v)
some_bytes v = let e : length (text_of v) ≡ length (86 ∷ 9 ∷ (v.name ++ 9 ∷ value_text v.value)) = ap length (variable_text_lem v.name v.value) in omega arith

row_text_lem : (v : Variable) → text_of v ≡ row_text (variable_row v)
row_text_lem v = variable_text_lem v.name v.value

abbrev pub Sharing : Text → ℕ → ℕ → List ℕ → ℕ → ℕ → ℕ → Type 0
Sharing t at w = Going (λ (v : Variable). v.name) text_of valid_variable variable_weight off_variable t at w

pub sharing_start : (t : Text) (at w : ℕ) (slots : List ℕ) → at ≤ length t → Sharing t at w slots at 0 w
sharing_start = going_start (λ (v : Variable). v.name) text_of valid_variable variable_weight off_element off_variable off_element_lem clear_row row_on

-- only the first slots count
pub reindexed : (t : Text) (at w : ℕ) (slots slots' : List ℕ) (i n now : ℕ) → take n slots' ≡ take n slots → Sharing t at w slots i n now → Sharing t at w slots' i n now
reindexed t at w slots slots' i n now e G = record { rows = G.rows; run = G.run; counted = G.counted; indexed = e ∙ G.indexed; apart = G.apart }

module _ (t : Text) (at w : ℕ) (slots : List ℕ) (i n now : ℕ) (G : Sharing t at w slots i n now) where
  abbrev NoVariables : Type 0
  NoVariables = Fails (joined text_of) (light_all valid_variable good_variables variable_weight w) off_variable t at

  pub sharing_low : w + 2 * n ≤ now
  sharing_low = weight_low (λ (v : Variable). v.name) text_of valid_variable variable_weight off_element off_variable off_element_lem clear_row row_on named two variable_row row_text_lem (λ v. refl) t at w slots i n now G

  pub variables_good : T (off_variable (drop i t)) → now ≤ 8192 → length t ≤ 65536 → Listed (λ (v : Variable). v.name) text_of valid_variable good_variables variable_weight off_variable t at w slots i n now
  variables_good o l small = record {
    records = record {
      rows = G.rows;
      reads = finish text_of valid_variable variable_weight off_element off_variable off_element_lem clear_row row_on t at w good_variables G.rows i now G.run o G.apart l;
      weighed = G.run.weighed;
      counted = G.counted;
      ends = o;
    };
    held = going_held (λ (v : Variable). v.name) text_of valid_variable variable_weight off_element off_variable off_element_lem clear_row row_on named two variable_row row_text_lem (λ v. refl) t at w slots i n now G small;
  }

  module _ (on : T (off_variable (drop i t)) → ⊥) where
    pub variables_stuck : Fails text_of (light_one valid_variable variable_weight now) off_element t i → NoVariables
    variables_stuck = stuck text_of valid_variable variable_weight off_element off_variable off_element_lem clear_row row_on t at w G.rows i now G.run on good_variables

    -- a line that no variable begins
    pub variables_stray : (get_or t i 0 ≡ 86 → ⊥) → NoVariables
    variables_stray h = variables_stuck (λ v q f c d. h (byte_here t i (86 ∷ (9 ∷ (v.name ++ 9 ∷ value_text v.value) ++ q)) (d ∙ whole v q)))

    module _ (m e after : ℕ) (E : Entitled (λ (v : Variable). v.name) text_of valid_variable variable_weight off_element t i now m e after) where
      pub variable_ahead : i < e
      variable_ahead = ahead t (text_of E.one.row) i e E.one.reads.here (some_bytes E.one.row) E.one.reads.low E.one.reads.high

      pub variable_light : after ≤ 8192
      variable_light = light (λ (v : Variable). v.name) text_of valid_variable variable_weight off_element off_variable off_element_lem clear_row row_on named two variable_row row_text_lem (λ v. refl) t at w slots i n now G m e after E

      left : length slots ≡ 4096 → n < length slots
      left l = room (λ (v : Variable). v.name) text_of valid_variable variable_weight off_element off_variable off_element_lem clear_row row_on named two variable_row row_text_lem (λ v. refl) t at w slots i n now G m e after E (omega arith)

      pub variable_entering : length t ≤ 65536 → length slots ≡ 4096 → Entering t at i m n slots
      variable_entering small l = entering (λ (v : Variable). v.name) text_of valid_variable variable_weight off_element off_variable off_element_lem clear_row row_on named two variable_row row_text_lem (λ v. refl) t at w slots i n now G m e after E small (left l)

      module _ (small : length t ≤ 65536) (slots' : List ℕ) where
        pub variable_again : ((rows : List Row) → Rows rows (part t at i) n slots → Entered rows (part t (i + 2) m) (i - at) n slots slots' false) → NoVariables
        variable_again f =
            again (λ (v : Variable). v.name) text_of valid_variable variable_weight off_element off_variable off_element_lem clear_row row_on named two variable_row row_text_lem (λ v. refl) t at w slots i n now G m e after E on good_variables (λ l g. g) slots'
            (f _ (going_rows (λ (v : Variable). v.name) text_of valid_variable variable_weight off_element off_variable off_element_lem clear_row row_on named two variable_row row_text_lem (λ v. refl) t at w slots i n now G small))

        pub variable_next : length slots ≡ 4096 → ((rows : List Row) → Rows rows (part t at i) n slots → Entered rows (part t (i + 2) m) (i - at) n slots slots' true) → Sharing t at w slots' e (n + 1) after
        variable_next l f =
            go_on (λ (v : Variable). v.name) text_of valid_variable variable_weight off_element off_variable off_element_lem clear_row row_on named two variable_row row_text_lem (λ v. refl) t at w slots i n now G m e after E on (left l) slots'
            (f _ (going_rows (λ (v : Variable). v.name) text_of valid_variable variable_weight off_element off_variable off_element_lem clear_row row_on named two variable_row row_text_lem (λ v. refl) t at w slots i n now G small))

-- ---- a part of the slots, lent and given back

abbrev pub lent : ℕ → List ℕ → List ℕ → List ℕ
lent n slots back = take n slots ++ (back ++ drop (length slots - n) (drop n slots))

module _ (n : ℕ) (slots back : List ℕ) (h : n ≤ length slots) where
  pub lent_front : take n (lent n slots back) ≡ take n slots
  lent_front = take_at (take n slots) (back ++ drop (length slots - n) (drop n slots)) n (length-take-le n slots h)

  pub lent_length : length back ≡ length (take (length slots - n) (drop n slots)) → length (lent n slots back) ≡ length slots
  lent_length e =
      let r : List ℕ = drop (length slots - n) (drop n slots) in
      let a : length (take n slots) ≡ n = length-take-le n slots h in
      let b : length (drop n slots) ≡ length slots - n = length-drop n slots in
      let k : length (take (length slots - n) (drop n slots)) ≡ length slots - n = length-take-le (length slots - n) (drop n slots) (omega arith) in
      let z : length r ≡ 0 = length-drop (length slots - n) (drop n slots) ∙ omega arith in
      let x : length (lent n slots back) ≡ length (take n slots) + (length back + length r) = length-append (take n slots) (back ++ r) ∙ ap (λ (y : ℕ). length (take n slots) + y) (length-append back r) in
      omega arith

  pub free_length : length (take (length slots - n) (drop n slots)) ≡ length slots - n
  free_length = length-take-le (length slots - n) (drop n slots) (omega (arith, length-drop n slots))
