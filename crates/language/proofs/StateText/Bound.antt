-- The text of a valid state fits the buffer: it has at most five bytes for each of its weight, and 260 more; in the former lines, 271 more.
use mathlib.Core.Path.{◌≡◌, refl, sym, ap, subst, ◌∙◌}
use Prim.Native.Nat.{ℕ, ◌+◌, ◌*◌, ◌-◌, ◌≤◌}
use native.Mathlib.Omega.{arith}
use mathlib.Core.Bool.{Bool, true, false, ◌||◌}
use mathlib.Core.Option.{Option, none, some}
use mathlib.Core.List.{List, [], ◌∷◌, ◌++◌}
use lib.ListN.{length, replicate, length-append, length-replicate}
use lib.Dec.{T, eqb, eqb_refl, leb, leb→le, lit≤}
use Rattle.language.specs.Text.{Text, bytes, when◌then◌else◌, ◌≟◌, all, sum, joined, decimal}
use Rattle.language.specs.Syntax.{Name, Right, read, write, append, delegate}
use Rattle.language.specs.State.{Field, Element, string, fields, Value, single, list, Principal, Variable, Assertion, Store, last_count, admin, anyone}
use Rattle.language.specs.Weight.{limit, element_weight, value_weight, name_weight, password_weight, principal_weight, variable_weight, assertion_weight, store_weight}
use Rattle.language.specs.Encode.{line_of, field_text, element_text, variable_text, principal_text, principal_line, letter, assertion_text, head_text, principals_text, delegator_text, variables_text, assertions_text, state_text, buffer_size, padded}
use Rattle.language.specs.Identifiers.{is_name}
use Rattle.language.specs.Valid.{valid_value, valid_password, valid_principal, valid_variable, well_formed, valid_store}
use Rattle.language.specs.Former.{former_head, former_line, former_principal, former_text, former_principal_weight, valid_former, FormerHolds}
use Rattle.language.proofs.Logic.Tests.{both, three, ==→≡}
use Rattle.language.proofs.StateText.Names.{principal_name}
use Rattle.language.proofs.StateText.Shape.{Shape, shape, spelled, assertions_spelled}
use Rattle.language.proofs.StateText.Clean.{name_length, digits_length}
use Rattle.language.proofs.StateText.Formers.{former_shape}

-- each field, and a tab or a newline after it
line_length_lem : (t : Text) (fs : List Text) → length (line_of (t ∷ fs)) ≡ sum (λ u. length u + 1) (t ∷ fs)
line_length_lem t [] = length-append t _ ∙ omega arith
line_length_lem t (u ∷ fs) =
    let h : length (line_of (u ∷ fs)) ≡ sum (λ u. length u + 1) (u ∷ fs) = line_length_lem u fs in
    length-append t _ ∙ omega arith

-- k bytes at most for each of the weight of one, so for that of all
pub joined_bound : {A : Type 0} (k : ℕ) (text : A → Text) (weight : A → ℕ) (fine : A → Bool)
    → ((a : A) → T (fine a) → length (text a) ≤ k * weight a) → (l : List A) → T (all fine l) → length (joined text l) ≤ k * sum weight l
joined_bound k text weight fine one [] h = omega arith
joined_bound k text weight fine one (a ∷ l) h =
    let (h₁, h₂) = both (fine a) (all fine l) h in
    let m : length (text a) ≤ k * weight a = one a h₁ in
    let n : length (joined text l) ≤ k * sum weight l = joined_bound k text weight fine one l h₂ in
    omega (arith, m, n, length-append (text a) (joined text l))

-- ---- values

any_all : {A : Type 0} (l : List A) → T (all (λ a. true) l)
any_all [] = tt
any_all (a ∷ l) = any_all l

fields_bound : (fs : List Field) → length (joined field_text fs) ≤ 4 * sum (λ f. 1 + length f.label + length f.text) fs
fields_bound fs = joined_bound 4 field_text _ (λ f. true) (λ f h. one f) fs (any_all fs)
  where
    one : (f : Field) → length (field_text f) ≤ 4 * (1 + length f.label + length f.text)
    one f = omega (arith, line_length_lem (bytes "F") (f.label ∷ f.text ∷ []))

element_bound : (e : Element) → length (element_text e) ≤ 4 * (1 + element_weight e)
element_bound (string t) = omega (arith, line_length_lem (bytes "S") (t ∷ []))
element_bound (fields fs) = omega (arith, length-append (line_of (bytes "R" ∷ [])) (joined field_text fs), fields_bound fs)

variable_bound : (v : Variable) → T (valid_variable v) → length (variable_text v.name v.value) ≤ 4 * variable_weight v
variable_bound v h =
    let (x, k) = both (is_name v.name) (valid_value v.value) h in
    go v.value (name_length v.name x).0
  where
    x : Name
    x = v.name

    go : (u : Value) → 1 ≤ length x → length (variable_text x u) ≤ 4 * (1 + length x + value_weight u)
    go (single (string t)) l = omega (arith, line_length_lem (bytes "V") (x ∷ bytes "S" ∷ t ∷ []))
    go (single (fields fs)) l =
        omega (arith, line_length_lem (bytes "V") (x ∷ bytes "R" ∷ []), length-append (line_of (bytes "V" ∷ x ∷ bytes "R" ∷ [])) (joined field_text fs), fields_bound fs)
    go (list es) l =
        omega (
          arith,
          line_length_lem (bytes "V") (x ∷ bytes "L" ∷ []),
          length-append (line_of (bytes "V" ∷ x ∷ bytes "L" ∷ [])) (joined element_text es),
          joined_bound 4 element_text (λ e. 1 + element_weight e) (λ e. true) (λ e h. element_bound e) es (any_all es),
        )

-- ---- names

-- admin and anyone count 1, and have five letters and six
name_bound : (p : Name) → T (is_name p) → (1 ≤ name_weight p) × (length p ≤ name_weight p + 5)
name_bound p h = go (p ≟ admin) (p ≟ anyone) (==→≡ p admin) (==→≡ p anyone) (name_length p h).0
  where
    go : (b c : Bool) → (T b → p ≡ admin) → (T c → p ≡ anyone) → 1 ≤ length p
        → (1 ≤ (when b || c then 1 else length p)) × (length p ≤ (when b || c then 1 else length p) + 5)
    go true c f g l = (lit≤ tt, subst (λ y. length y ≤ 6) (sym (f tt)) (lit≤ tt))
    go false true f g l = (lit≤ tt, subst (λ y. length y ≤ 6) (sym (g tt)) (lit≤ tt))
    go false false f g l = (l, omega arith)

principal_bound : (k : Principal) → T (valid_principal k) → length (principal_text k) ≤ 5 * principal_weight k
principal_bound k h =
    go k.password (name_bound k.name (three (is_name k.name) (valid_password k.password) (leb k.count last_count) h).0)
  where
    go : (o : Option Text) → (1 ≤ name_weight k.name) × (length k.name ≤ name_weight k.name + 5)
        → length (principal_line k.name o k.count) ≤ 5 * (11 + name_weight k.name + password_weight o)
    go none (l, m) = omega (arith, line_length_lem (bytes "N") (k.name ∷ decimal k.count ∷ []), digits_length 9 k.count)
    go (some t) (l, m) = omega (arith, line_length_lem (bytes "P") (k.name ∷ t ∷ decimal k.count ∷ []), digits_length 9 k.count)

letter_length : (r : Right) → length (letter r) ≡ 1
letter_length read = refl
letter_length write = refl
letter_length append = refl
letter_length delegate = refl

assertion_bound : (a : Assertion) → T (spelled a) → length (assertion_text a) ≤ 5 * assertion_weight a
assertion_bound a h =
    let (x, q, p) = three (is_name a.variable) (is_name a.from) (is_name a.to) h in
    let x₁ : 1 ≤ length a.variable = (name_length a.variable x).0 in
    let q₁ = name_bound a.from q in
    let p₁ = name_bound a.to p in
    omega (arith, x₁, q₁.0, q₁.1, p₁.0, p₁.1, letter_length a.right, line_length_lem (bytes "A") (a.variable ∷ a.from ∷ letter a.right ∷ a.to ∷ []))

-- the texts of principals and of variables, for the buffers of a run
pub principals_bound : (ks : List Principal) → T (all valid_principal ks) → length (principals_text ks) ≤ 5 * sum principal_weight ks
principals_bound ks h = joined_bound 5 _ _ valid_principal principal_bound ks h

pub variables_bound : (vs : List Variable) → T (all valid_variable vs) → length (variables_text vs) ≤ 4 * sum variable_weight vs
variables_bound vs h = joined_bound 4 _ _ valid_variable variable_bound vs h

-- ---- the state

head_bound : (b : Bool) → length (head_text b) ≤ 2
head_bound true = lit≤ tt
head_bound false = lit≤ tt

five_length : (a b c d e : Text) → length ((((a ++ b) ++ c) ++ d) ++ e) ≡ length a + length b + length c + length d + length e
five_length a b c d e = simp length-append

-- the lines behind the principals
rest_bound : (t : Store) → Shape t
    → length (delegator_text t.delegator) + length (variables_text t.variables) + length (assertions_text t.assertions)
    ≤ 258 + 5 * (sum variable_weight t.variables + sum assertion_weight t.assertions)
rest_bound t g =
    let d : length t.delegator ≤ 255 = (name_length t.delegator (principal_name t.delegator t.principals g.principals_valid g.delegator_known)).1 in
    let vs : length (variables_text t.variables) ≤ 4 * sum variable_weight t.variables = variables_bound t.variables g.variables_valid in
    let ls : length (assertions_text t.assertions) ≤ 5 * sum assertion_weight t.assertions = joined_bound 5 assertion_text assertion_weight spelled assertion_bound t.assertions (assertions_spelled t g) in
    omega (arith, d, vs, ls, line_length_lem (bytes "D") (t.delegator ∷ []))

-- at most 5 * 8,192 + 260 bytes
pub state_bound : (t : Store) → T (valid_store t) → length (state_text t) ≤ 41220
state_bound t v =
    let (w, l) = both (well_formed t) (leb (store_weight t) limit) v in
    let g = shape t w in
    omega (
      arith,
      leb→le (store_weight t) limit l,
      head_bound t.is_open,
      principals_bound t.principals g.principals_valid,
      rest_bound t g,
      five_length (head_text t.is_open) (principals_text t.principals) (delegator_text t.delegator) (variables_text t.variables) (assertions_text t.assertions),
    )

-- ---- the former lines

former_principal_bound : (k : Principal) → T (valid_principal k) → length (former_principal k) ≤ 5 * former_principal_weight k
former_principal_bound k h =
    go k.password (name_bound k.name (three (is_name k.name) (valid_password k.password) (leb k.count last_count) h).0)
  where
    go : (o : Option Text) → (1 ≤ name_weight k.name) × (length k.name ≤ name_weight k.name + 5)
        → length (former_line k.name o) ≤ 5 * (1 + name_weight k.name + password_weight o)
    go none (l, m) = omega (arith, line_length_lem (bytes "N") (k.name ∷ []))
    go (some t) (l, m) = omega (arith, line_length_lem (bytes "P") (k.name ∷ t ∷ []))

former_head_bound : (b : Bool) (n : ℕ) → length (former_head b n) ≤ 13
former_head_bound true n = omega (arith, line_length_lem (bytes "O") (decimal n ∷ []), digits_length 9 n)
former_head_bound false n = omega (arith, line_length_lem (bytes "C") (decimal n ∷ []), digits_length 9 n)

pub former_bound : (n : ℕ) (t : Store) → T (valid_former n t) → length (former_text n t) ≤ 41231
former_bound n t v =
    let f = former_shape n t v in
    let g = f.shaped in
    omega (
      arith,
      f.light,
      former_head_bound t.is_open n,
      joined_bound 5 former_principal former_principal_weight valid_principal former_principal_bound t.principals g.principals_valid,
      rest_bound t g,
      five_length (former_head t.is_open n) (joined former_principal t.principals) (delegator_text t.delegator) (variables_text t.variables) (assertions_text t.assertions),
    )

pub padded_length : (t : Text) → length t ≤ buffer_size → length (padded t) ≡ buffer_size
padded_length t h =
    let z : Text = replicate (buffer_size - length t) 0 in
    let e : length z ≡ buffer_size - length t = length-replicate (buffer_size - length t) 0 in
    omega (arith, e, length-append t z)

pub former_sized : {buffer : Text} {n : ℕ} {s : Store} → FormerHolds buffer n s → T (eqb (length buffer) buffer_size)
former_sized {buffer} {n} {s} h =
    let e : length buffer ≡ buffer_size = ap length h.is_text_lem ∙ padded_length (former_text n s) (omega (arith, former_bound n s h.is_valid)) in
    subst (λ k. T (eqb k buffer_size)) (sym e) (eqb_refl buffer_size)
