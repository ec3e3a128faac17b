-- The parts behind the first line of a state text, one after the other, are those of a valid store; and where one of them does not stand,
-- no store is there.
-- Assumes nothing.
use mathlib.Core.Path.{◌≡◌, refl, sym, ap, subst, ◌∙◌}
use Prim.Native.Nat.{ℕ, suc, zero, ◌+◌, ◌≤◌}
use native.Mathlib.Omega.{arith}
use mathlib.Core.Bool.{Bool, true, false, ◌&&◌}
use mathlib.Core.List.{List, [], ◌∷◌, ◌++◌, append_assoc}
use lib.Dec.{T, leb, leb→le, le→leb, eqb→eq}
use lib.ListN.{length, drop, replicate}
use Rattle.language.specs.Text.{Text, all, joined, sum, member, distinct, present}
use Rattle.language.specs.Syntax.{Name}
use Rattle.language.specs.State.{Principal, Variable, Assertion, Store, named, value_in}
use Rattle.language.specs.Weight.{limit, variable_weight, assertion_weight}
use Rattle.language.specs.Encode.{delegator_text, variables_text, assertion_text, assertions_text}
use Rattle.language.specs.Valid.{valid_principal, valid_order, valid_variable, valid_assertion, well_formed}
use Rattle.language.specs.Former.{Form, current, former, uncounted, principal_in, principal_weight_in, valid_principal_in, weight_in}
use Rattle.language.proofs.Logic.Tests.{both, and, three, and_three, four, all_map}
use Rattle.language.proofs.StateText.Shape.{Shape, shape, formed}
use Rattle.language.proofs.StateText.Names.{principal_names, variable_names, is_named, named_is, is_valued, valued_is}
use Rattle.record_fields.specs.Sections.{Reads, Fails, light_all, any_text}
use Rattle.records.proofs.Variables.{text_of}
use Rattle.principal_lines.specs.Principals.{off_principal, good_principals}
use Rattle.frame.specs.Edges.{total, is_zero}
use Rattle.frame.proofs.Limits.{zero_bytes}
use Rattle.assertion_lines.specs.Assertions.{known_names, off_assertion, good_assertions}
use Rattle.validate.specs.Shared.{off_variable, good_variables}
use Rattle.validate.specs.Checked.{rest_text}
use Rattle.validate.specs.Body.{body_text, same_flag, fine_body}

-- what may follow: an assertion begins with A, a variable with V, and the bytes after the text are 0
zeros_off : (n : ℕ) → T (off_variable (replicate n 0)) × T (off_assertion (replicate n 0))
zeros_off zero = (tt, tt)
zeros_off (suc n) = (tt, tt)

assertions_off : (l : List Assertion) (q : Text) → T (off_variable q) → T (off_variable (assertions_text l ++ q))
assertions_off [] q h = h
assertions_off (a ∷ l) q h = tt

pub flag_same : (a b : Bool) → T (same_flag a b) → b ≡ a
flag_same true true h = refl
flag_same true false h = absurd h
flag_same false true h = absurd h
flag_same false false h = refl

pub same_flag_lem : (a : Bool) → T (same_flag a a)
same_flag_lem true = tt
same_flag_lem false = tt

pub weight_parts : (f : Form) (s : Store) → weight_in f s ≡ sum (principal_weight_in f) s.principals + sum variable_weight s.variables + sum assertion_weight s.assertions
weight_parts current s = refl
weight_parts former s = refl

-- a principal that is valid in either form is valid
valid_anyway : (f : Form) (k : Principal) → T (valid_principal_in f k) → T (valid_principal k)
valid_anyway current k h = h
valid_anyway former k h = (both (valid_principal k) (uncounted k) h).0

body_joined : (f : Form) (s : Store) (q : Text) → body_text f s ++ q ≡ joined (principal_in f) s.principals ++ (delegator_text s.delegator ++ (variables_text s.variables ++ (assertions_text s.assertions ++ q)))
body_joined f s q =
    let a : Text = joined (principal_in f) s.principals in
    let b : Text = delegator_text s.delegator in
    let c : Text = variables_text s.variables in
    let d : Text = assertions_text s.assertions in
    append_assoc a (b ++ (c ++ d)) q ∙ ap (λ (x : Text). a ++ x) (append_assoc b (c ++ d) q ∙ ap (λ (x : Text). b ++ x) (append_assoc c d q))

module _ (f : Form) (t : Text) (from : ℕ) (o : Bool) (s : Store) (q : Text) (F : T (fine_body f o s)) (Z : T (is_zero q)) (D : drop from t ≡ body_text f s ++ q) where
  checked : T (same_flag o s.is_open) × Shape s × T (all (valid_principal_in f) s.principals) × (weight_in f s ≤ 8192)
  checked =
      let (a, b, c, d) = four (same_flag o s.is_open) (well_formed s) (all (valid_principal_in f) s.principals) (leb (weight_in f s) limit) F in
      (a, shape s b, c, leb→le (weight_in f s) 8192 d)

  off : T (off_variable q) × T (off_assertion q)
  off = subst (λ (x : Text). T (off_variable x) × T (off_assertion x)) (sym (zero_bytes q (eqb→eq (total q) 0 Z))) (zeros_off (length q))

  pub same_open : s.is_open ≡ o
  same_open = flag_same o s.is_open checked.0

  from_body : drop from t ≡ joined (principal_in f) s.principals ++ (delegator_text s.delegator ++ (variables_text s.variables ++ (assertions_text s.assertions ++ q)))
  from_body = D ∙ body_joined f s q

  principals_fine : T (light_all (valid_principal_in f) good_principals (principal_weight_in f) 0 s.principals)
  principals_fine =
      let (b, g, v, w) = checked in
      let l : 0 + sum (principal_weight_in f) s.principals ≤ 8192 = omega (arith, weight_parts f s) in
      and_three (all (valid_principal_in f) s.principals) (good_principals s.principals) (leb (0 + sum (principal_weight_in f) s.principals) 8192) v
      (and (valid_order s.principals) (distinct (principal_names s.principals)) g.order g.principals_distinct)
      (le→leb (0 + sum (principal_weight_in f) s.principals) 8192 l)

  pub no_principals : Fails (joined (principal_in f)) (light_all (valid_principal_in f) good_principals (principal_weight_in f) 0) off_principal t from → ⊥
  no_principals never = never s.principals _ principals_fine tt from_body

  module _ (ks : List Principal) (e₂ : ℕ) (R₂ : Reads (joined (principal_in f)) (light_all (valid_principal_in f) good_principals (principal_weight_in f) 0) off_principal t from ks e₂) where
    pub same_principals : (s.principals ≡ ks) × (delegator_text s.delegator ++ (variables_text s.variables ++ (assertions_text s.assertions ++ q)) ≡ drop e₂ t)
    same_principals = R₂.only s.principals _ principals_fine tt from_body

    known : T (member s.delegator (principal_names ks))
    known = subst (λ (l : List Principal). T (member s.delegator (principal_names l))) same_principals.0 (named_is s.delegator s.principals checked.1.delegator_known)

    pub no_delegator : Fails delegator_text (λ x. member x (principal_names ks)) any_text t e₂ → ⊥
    no_delegator never = never s.delegator _ known tt (sym same_principals.1)

    module _ (d : Name) (e₃ : ℕ) (R₃ : Reads delegator_text (λ x. member x (principal_names ks)) any_text t e₂ d e₃) where
      pub same_delegator : (s.delegator ≡ d) × (variables_text s.variables ++ (assertions_text s.assertions ++ q) ≡ drop e₃ t)
      same_delegator = R₃.only s.delegator _ known tt (sym same_principals.1)

      module _ (w₁ : ℕ) (is₁ : w₁ ≡ 0 + sum (principal_weight_in f) ks) where
        variables_fine : T (light_all valid_variable good_variables variable_weight w₁ s.variables)
        variables_fine =
            let (b, g, v, w) = checked in
            let p : sum (principal_weight_in f) s.principals ≡ sum (principal_weight_in f) ks = ap (sum (principal_weight_in f)) same_principals.0 in
            let l : w₁ + sum variable_weight s.variables ≤ 8192 = omega (arith, weight_parts f s) in
            and_three (all valid_variable s.variables) (good_variables s.variables) (leb (w₁ + sum variable_weight s.variables) 8192) g.variables_valid g.variables_distinct
            (le→leb (w₁ + sum variable_weight s.variables) 8192 l)

        pub no_variables : Fails (joined text_of) (light_all valid_variable good_variables variable_weight w₁) off_variable t e₃ → ⊥
        no_variables never = never s.variables _ variables_fine (assertions_off s.assertions q off.0) (sym same_delegator.1)

        module _ (vs : List Variable) (e₄ : ℕ) (R₄ : Reads (joined text_of) (light_all valid_variable good_variables variable_weight w₁) off_variable t e₃ vs e₄) where
          pub same_variables : (s.variables ≡ vs) × (assertions_text s.assertions ++ q ≡ drop e₄ t)
          same_variables = R₄.only s.variables _ variables_fine (assertions_off s.assertions q off.0) (sym same_delegator.1)

          module _ (w₂ : ℕ) (is₂ : w₂ ≡ w₁ + sum variable_weight vs) where
            assertions_fine : T (light_all (known_names (principal_names ks) (variable_names vs)) good_assertions assertion_weight w₂ s.assertions)
            assertions_fine =
                let (b, g, v, w) = checked in
                let p : sum (principal_weight_in f) s.principals ≡ sum (principal_weight_in f) ks = ap (sum (principal_weight_in f)) same_principals.0 in
                let x : sum variable_weight s.variables ≡ sum variable_weight vs = ap (sum variable_weight) same_variables.0 in
                let l : w₂ + sum assertion_weight s.assertions ≤ 8192 = omega (arith, weight_parts f s) in
                and_three (all (known_names (principal_names ks) (variable_names vs)) s.assertions) (good_assertions s.assertions) (leb (w₂ + sum assertion_weight s.assertions) 8192)
                (all_map (valid_assertion s) (known_names (principal_names ks) (variable_names vs)) one s.assertions g.assertions_valid) g.assertions_unrepeated
                (le→leb (w₂ + sum assertion_weight s.assertions) 8192 l)
              where
                one : (a : Assertion) → T (valid_assertion s a) → T (known_names (principal_names ks) (variable_names vs) a)
                one a h =
                    let (x, q, p) = three (present (value_in s.variables a.variable)) (present (named s.principals a.from)) (present (named s.principals a.to)) h in
                    and_three (member a.variable (variable_names vs)) (member a.from (principal_names ks)) (member a.to (principal_names ks))
                    (subst (λ (l : List Variable). T (member a.variable (variable_names l))) same_variables.0 (valued_is a.variable s.variables x))
                    (subst (λ (l : List Principal). T (member a.from (principal_names l))) same_principals.0 (named_is a.from s.principals q))
                    (subst (λ (l : List Principal). T (member a.to (principal_names l))) same_principals.0 (named_is a.to s.principals p))

            pub no_assertions : Fails (joined assertion_text) (light_all (known_names (principal_names ks) (variable_names vs)) good_assertions assertion_weight w₂) off_assertion t e₄ → ⊥
            no_assertions never = never s.assertions _ assertions_fine off.1 (sym same_variables.1)

            module _ (l : List Assertion) (e₅ : ℕ) (R₅ : Reads (joined assertion_text) (light_all (known_names (principal_names ks) (variable_names vs)) good_assertions assertion_weight w₂) off_assertion t e₄ l e₅) where
              pub same_assertions : (s.assertions ≡ l) × (q ≡ drop e₅ t)
              same_assertions = R₅.only s.assertions _ assertions_fine off.1 (sym same_variables.1)

              -- the bytes behind are 0
              pub behind_zero : total (drop e₅ t) ≡ 0
              behind_zero = ap total (sym same_assertions.1) ∙ eqb→eq (total q) 0 Z

-- ---- and back

-- the store whose parts were read
abbrev pub store_of : Bool → List Principal → Name → List Variable → List Assertion → Store
store_of o ks d vs l = record { is_open = o; principals = ks; delegator = d; variables = vs; assertions = l }

module _ (f : Form) (t : Text) (o : Bool) (ks : List Principal) (d : Name) (vs : List Variable) (l : List Assertion) (e₁ e₂ e₃ e₄ e₅ w₁ w₂ : ℕ)
    (R₂ : Reads (joined (principal_in f)) (light_all (valid_principal_in f) good_principals (principal_weight_in f) 0) off_principal t e₁ ks e₂)
    (R₃ : Reads delegator_text (λ x. member x (principal_names ks)) any_text t e₂ d e₃)
    (is₁ : w₁ ≡ 0 + sum (principal_weight_in f) ks)
    (R₄ : Reads (joined text_of) (light_all valid_variable good_variables variable_weight w₁) off_variable t e₃ vs e₄)
    (is₂ : w₂ ≡ w₁ + sum variable_weight vs)
    (R₅ : Reads (joined assertion_text) (light_all (known_names (principal_names ks) (variable_names vs)) good_assertions assertion_weight w₂) off_assertion t e₄ l e₅) where
  pub rest_here : drop e₂ t ≡ rest_text (store_of o ks d vs l) ++ drop e₅ t
  rest_here =
      let b : Text = delegator_text d in
      let c : Text = variables_text vs in
      let a : Text = assertions_text l in
      R₃.here ∙ ap (λ (x : Text). b ++ x) (R₄.here ∙ ap (λ (x : Text). c ++ x) R₅.here) ∙ sym (append_assoc b (c ++ a) (drop e₅ t) ∙ ap (λ (x : Text). b ++ x) (append_assoc c a (drop e₅ t)))

  body_here : drop e₁ t ≡ body_text f (store_of o ks d vs l) ++ drop e₅ t
  body_here = R₂.here ∙ ap (λ (x : Text). joined (principal_in f) ks ++ x) rest_here ∙ sym (append_assoc (joined (principal_in f) ks) (rest_text (store_of o ks d vs l)) (drop e₅ t))

  whole_shape : Shape (store_of o ks d vs l)
  whole_shape =
      let (a, g, w) = three (all (valid_principal_in f) ks) (good_principals ks) (leb (0 + sum (principal_weight_in f) ks) 8192) R₂.is_fine in
      let (i, x) = both (valid_order ks) (distinct (principal_names ks)) g in
      let (b, y, v) = three (all valid_variable vs) (good_variables vs) (leb (w₁ + sum variable_weight vs) 8192) R₄.is_fine in
      let (c, z, u) = three (all (known_names (principal_names ks) (variable_names vs)) l) (good_assertions l) (leb (w₂ + sum assertion_weight l) 8192) R₅.is_fine in
      record {
        order = i;
        principals_valid = all_map (valid_principal_in f) valid_principal (valid_anyway f) ks a;
        principals_distinct = x;
        delegator_known = is_named d ks R₃.is_fine;
        variables_valid = b;
        variables_distinct = y;
        assertions_valid = all_map (known_names (principal_names ks) (variable_names vs)) (valid_assertion (store_of o ks d vs l)) one l c;
        assertions_unrepeated = z;
      }
    where
      one : (a : Assertion) → T (known_names (principal_names ks) (variable_names vs) a) → T (valid_assertion (store_of o ks d vs l) a)
      one a k =
          let (x, q, p) = three (member a.variable (variable_names vs)) (member a.from (principal_names ks)) (member a.to (principal_names ks)) k in
          and_three (present (value_in vs a.variable)) (present (named ks a.from)) (present (named ks a.to)) (is_valued a.variable vs x) (is_named a.from ks q) (is_named a.to ks p)

  body_fine : T (fine_body f o (store_of o ks d vs l))
  body_fine =
      let s : Store = store_of o ks d vs l in
      let (a, g, x) = three (all (valid_principal_in f) ks) (good_principals ks) (leb (0 + sum (principal_weight_in f) ks) 8192) R₂.is_fine in
      let (c, z, u) = three (all (known_names (principal_names ks) (variable_names vs)) l) (good_assertions l) (leb (w₂ + sum assertion_weight l) 8192) R₅.is_fine in
      let w : w₂ + sum assertion_weight l ≤ 8192 = leb→le (w₂ + sum assertion_weight l) 8192 u in
      let k : weight_in f s ≤ 8192 = omega (arith, weight_parts f s) in
      and (same_flag o o && well_formed s && all (valid_principal_in f) ks) (leb (weight_in f s) limit)
      (and_three (same_flag o o) (well_formed s) (all (valid_principal_in f) ks) (same_flag_lem o) (formed s whole_shape) a) (le→leb (weight_in f s) 8192 k)

  pub whole_reads : Reads (body_text f) (fine_body f o) is_zero t e₁ (store_of o ks d vs l) e₅
  whole_reads = record {
    low = omega (arith, R₂.low, R₃.low, R₄.low, R₅.low);
    high = R₅.high;
    is_fine = body_fine;
    here = body_here;
    only = λ s q F Z D.
        let p = same_principals f t e₁ o s q F Z D ks e₂ R₂ in
        let b = same_delegator f t e₁ o s q F Z D ks e₂ R₂ d e₃ R₃ in
        let v = same_variables f t e₁ o s q F Z D ks e₂ R₂ d e₃ R₃ w₁ is₁ vs e₄ R₄ in
        let a = same_assertions f t e₁ o s q F Z D ks e₂ R₂ d e₃ R₃ w₁ is₁ vs e₄ R₄ w₂ is₂ l e₅ R₅ in
        let i = same_open f t e₁ o s q F Z D in
        (λ j. record { is_open = i j; principals = p.0 j; delegator = b.0 j; variables = v.0 j; assertions = a.0 j }, a.1);
  }
