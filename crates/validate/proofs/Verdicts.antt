-- What the readers of the parts say of all that stands behind the first line.
-- Assumes nothing.
use mathlib.Core.Path.{◌≡◌, refl, ap, subst, ◌∙◌}
use mathlib.Core.Bool.{Bool}
use Prim.Native.Nat.{ℕ, ◌+◌, ◌≤◌}
use native.Mathlib.Omega.{arith}
use mathlib.Core.List.{List, map}
use lib.Dec.{leb, leb→le}
use lib.ListN.{drop, replicate, length-drop}
use Rattle.language.specs.Text.{Text, all, joined, sum, member}
use Rattle.language.specs.Syntax.{Name}
use Rattle.language.specs.State.{Principal, Variable, Store}
use Rattle.language.specs.Weight.{variable_weight, assertion_weight}
use Rattle.language.specs.Encode.{delegator_text, assertion_text}
use Rattle.language.specs.Valid.{valid_variable}
use Rattle.language.specs.Former.{Form, principal_in, principal_weight_in, valid_principal_in}
use Rattle.language.proofs.Logic.Tests.{three}
use Rattle.language.proofs.StateText.Names.{principal_names, variable_names}
use Rattle.text.specs.Parts.{part}
use Rattle.store.specs.Rows.{Rows, row_names, row_in, variable_row}
use Rattle.store.proofs.Holders.{rows_in, variables_rows}
use Rattle.store.proofs.Answers.{names_in, variable_names_lem}
use Rattle.record_fields.specs.Sections.{Fails, light_all, any_text}
use Rattle.records.proofs.Variables.{text_of}
use Rattle.principal_lines.specs.Principals.{off_principal, good_principals}
use Rattle.principal_lines.specs.Listed.{Listed}
use Rattle.frame.specs.Edges.{total, is_zero}
use Rattle.frame.proofs.Limits.{zero_bytes}
use Rattle.references.specs.Known.{Delegating}
use Rattle.assertion_lines.specs.Assertions.{known_names, off_assertion, good_assertions, Granted}
use Rattle.validate.specs.Shared.{off_variable, good_variables}
use Rattle.validate.specs.Body.{body_text, fine_body, Stands}
use Rattle.validate.proofs.Whole.{store_of, weight_parts, rest_here, whole_reads, no_principals, no_delegator, no_variables, no_assertions, behind_zero}

abbrev pub Principals : Form → Text → ℕ → List ℕ → ℕ → ℕ → ℕ → Type 0
Principals f t at slots e n w = Listed (λ (k : Principal). k.name) (principal_in f) (valid_principal_in f) good_principals (principal_weight_in f) off_principal t at 0 slots e n w

abbrev pub Values : Text → ℕ → ℕ → List ℕ → ℕ → ℕ → ℕ → Type 0
Values t at w slots e n v = Listed (λ (v : Variable). v.name) text_of valid_variable good_variables variable_weight off_variable t at w slots e n v

-- names of rows are names of records
pub principals_names : (f : Form) (ks : List Principal) (P : List Name → Type 0) → P (row_names (map (row_in f) ks)) → P (principal_names ks)
principals_names f ks P h = subst P (names_in f ks) h

pub variables_names : (vs : List Variable) (P : List Name → Type 0) → P (row_names (map variable_row vs)) → P (variable_names vs)
variables_names vs P h = subst P (variable_names_lem vs) h

module _ (f : Form) (t : Text) (o : Bool) (e₁ : ℕ) where
  -- no store's text stands there
  abbrev Nothing : Type 0
  Nothing = Fails (body_text f) (fine_body f o) is_zero t e₁

  pub bad_principals : Fails (joined (principal_in f)) (light_all (valid_principal_in f) good_principals (principal_weight_in f) 0) off_principal t e₁ → Nothing
  bad_principals never s q F Z D = no_principals f t e₁ o s q F Z D never

  module _ (slots-p : List ℕ) (e₂ n w₁ : ℕ) (P : Principals f t e₁ slots-p e₂ n w₁) where
    pub rows_of_principals : Rows (map (row_in f) P.records.rows) (part t e₁ e₂) n slots-p
    rows_of_principals = rows_in f P.records.rows (part t e₁ e₂) n slots-p P.held

    pub principals_light : w₁ ≤ 8192
    principals_light =
        let w : ℕ = 0 + sum (principal_weight_in f) P.records.rows in
        let (a, g, l) = three (all (valid_principal_in f) P.records.rows) (good_principals P.records.rows) (leb w 8192) P.records.reads.is_fine in
        let k : w ≤ 8192 = leb→le w 8192 l in
        omega (arith, P.records.weighed)

    pub bad_delegator : Fails delegator_text (λ x. member x (row_names (map (row_in f) P.records.rows))) any_text t e₂ → Nothing
    bad_delegator never s q F Z D =
        let never' : Fails delegator_text (λ x. member x (principal_names P.records.rows)) any_text t e₂ = principals_names f P.records.rows (λ ns. Fails delegator_text (λ x. member x ns) any_text t e₂) never in
        no_delegator f t e₁ o s q F Z D P.records.rows e₂ P.records.reads never'

    module _ (k e₃ : ℕ) (D' : Delegating (row_names (map (row_in f) P.records.rows)) t e₂ k e₃) where
      B : Delegating (principal_names P.records.rows) t e₂ k e₃
      B = principals_names f P.records.rows (λ ns. Delegating ns t e₂ k e₃) D'

      pub bad_variables : Fails (joined text_of) (light_all valid_variable good_variables variable_weight w₁) off_variable t e₃ → Nothing
      bad_variables never s q F Z D = no_variables f t e₁ o s q F Z D P.records.rows e₂ P.records.reads B.name e₃ B.reads w₁ P.records.weighed never

      module _ (slots_v : List ℕ) (e₄ m w₂ : ℕ) (W : Values t e₃ w₁ slots_v e₄ m w₂) where
        pub values_rows : Rows (map variable_row W.records.rows) (part t e₃ e₄) m slots_v
        values_rows = variables_rows W.records.rows (part t e₃ e₄) m slots_v W.held

        pub values_light : w₂ ≤ 8192
        values_light =
            let (a, g, l) = three (all valid_variable W.records.rows) (good_variables W.records.rows) (leb (w₁ + sum variable_weight W.records.rows) 8192) W.records.reads.is_fine in
            let k : w₁ + sum variable_weight W.records.rows ≤ 8192 = leb→le (w₁ + sum variable_weight W.records.rows) 8192 l in
            omega (arith, W.records.weighed)

        pub bad_assertions : Fails (joined assertion_text) (light_all (known_names (row_names (map (row_in f) P.records.rows)) (row_names (map variable_row W.records.rows))) good_assertions assertion_weight w₂) off_assertion t e₄ → Nothing
        bad_assertions never s q F Z D =
            let never' : Fails (joined assertion_text) (light_all (known_names (principal_names P.records.rows) (variable_names W.records.rows)) good_assertions assertion_weight w₂) off_assertion t e₄ =
            principals_names f P.records.rows (λ ps. Fails (joined assertion_text) (light_all (known_names ps (variable_names W.records.rows)) good_assertions assertion_weight w₂) off_assertion t e₄)
            (variables_names W.records.rows (λ xs. Fails (joined assertion_text) (light_all (known_names (row_names (map (row_in f) P.records.rows)) xs) good_assertions assertion_weight w₂) off_assertion t e₄) never) in
            no_assertions f t e₁ o s q F Z D P.records.rows e₂ P.records.reads B.name e₃ B.reads w₁ P.records.weighed W.records.rows e₄ W.records.reads w₂ W.records.weighed never'

        module _ (assertions : List ℕ) (e₅ a w₃ : ℕ) (C' : Granted (row_names (map (row_in f) P.records.rows)) (row_names (map variable_row W.records.rows)) t e₄ w₂ assertions e₅ a w₃) where
          C : Granted (principal_names P.records.rows) (variable_names W.records.rows) t e₄ w₂ assertions e₅ a w₃
          C =
              principals_names f P.records.rows (λ ps. Granted ps (variable_names W.records.rows) t e₄ w₂ assertions e₅ a w₃)
              (variables_names W.records.rows (λ xs. Granted (row_names (map (row_in f) P.records.rows)) xs t e₄ w₂ assertions e₅ a w₃) C')

          pub bad_behind : (total (drop e₅ t) ≡ 0 → ⊥) → Nothing
          bad_behind never s q F Z D =
              never (behind_zero f t e₁ o s q F Z D P.records.rows e₂ P.records.reads B.name e₃ B.reads w₁ P.records.weighed W.records.rows e₄ W.records.reads w₂ W.records.weighed C.records.rows e₅ C.records.reads)

          pub all_good : total (drop e₅ t) ≡ 0
              → Stands f t e₁ o slots-p slots_v assertions (record { «open» = o; principals_from = e₁; principals_to = e₂; principals = n; delegator = k; vars_from = e₃; vars_to = e₄; vars = m; asserted = a; weight = w₃; used = e₅ })
          all_good z =
              let s : Store = store_of o P.records.rows B.name W.records.rows C.records.rows in
              record {
                state = s;
                reads = whole_reads f t o P.records.rows B.name W.records.rows C.records.rows e₁ e₂ e₃ e₄ e₅ w₁ w₂ P.records.reads B.reads P.records.weighed W.records.reads W.records.weighed C.records.reads;
                represents = record {
                  is_open = refl;
                  principals_order = P.records.reads.low;
                  principals_within = P.records.reads.high;
                  principals = P.held;
                  delegator = B.number;
                  vars_order = W.records.reads.low;
                  vars_within = W.records.reads.high;
                  variables = W.held;
                  assertions = record { within = C.within; are = C.numbers };
                  weighed = omega (arith, P.records.weighed, W.records.weighed, C.records.weighed, weight_parts f s);
                  used_within = C.records.reads.high;
                  rest_zero = zero_bytes (drop e₅ t) z ∙ ap (λ (n : ℕ). replicate n 0) (length-drop e₅ t);
                };
                rest_order = omega (arith, B.reads.low, W.records.reads.low, C.records.reads.low);
                rest = rest_here f t o P.records.rows B.name W.records.rows C.records.rows e₁ e₂ e₃ e₄ e₅ w₁ w₂ P.records.reads B.reads P.records.weighed W.records.reads W.records.weighed C.records.reads;
              }
