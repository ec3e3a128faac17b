-- The decoder reads back what the encoder wrote.
use mathlib.Core.Path.{◌≡◌, refl, sym, ap, subst, ◌∙◌}
use mathlib.Core.Logic.{◌↔◌}
use Prim.Native.Nat.{ℕ, zero, suc, ◌-◌}
use mathlib.Core.Bool.{Bool, true, false, ◌&&◌}
use mathlib.Core.Option.{Option, none, some}
use mathlib.Core.List.{List, [], ◌∷◌, ◌++◌, map, append_assoc}
use lib.ListN.{length, replicate}
use lib.Dec.{T, leb, leb→le, ltb}
use Rattle.language.specs.Text.{Text, bytes, parts, ◌>>=◌, ◌>>◌, given, ◌≟◌, all, distinct, joined, decimal}
use Rattle.language.specs.Syntax.{Right, read, write, append, delegate}
use Rattle.language.specs.State.{Field, Element, string, fields, Value, single, list, Principal, Variable, Assertion, Store, last_count}
use Rattle.language.specs.Weight.{store_weight, limit}
use Rattle.language.specs.Encode.{newline, head_text, principals_text, delegator_text, variables_text, assertions_text, field_text, element_text, variable_text, principal_text, principal_line, letter, assertion_text, state_text, line_of, buffer_size, padded}
use Rattle.language.specs.Identifiers.{is_name, is_string}
use Rattle.language.specs.Valid.{valid_field, valid_fields, valid_element, valid_value, valid_variable, valid_password, valid_principal, well_formed, valid_store}
use Rattle.language.specs.Decode.{Holds, right_of, Below, nothing_below, number, with_assertion, with_principal, read_lines, decode}
use Rattle.language.proofs.Logic.Lists.{six_joined}
use Rattle.language.proofs.Logic.Tests.{both, and, three, ==→≡, ==_refl}
use Rattle.language.proofs.Logic.Outcomes.{Where, anything, bind_where, given_where}
use Rattle.language.proofs.StateText.Names.{principal_name}
use Rattle.language.proofs.StateText.Shape.{Shape, shape, spelled, assertions_spelled}
use Rattle.language.proofs.StateText.Lines.{is_clean, Free, parts_free, Reads, reads_line, reads_joined}
use Rattle.language.proofs.StateText.Clean.{string_clean, name_clean, digits_clean, decimal_number}

-- ---- the assertions

right_letter : (r : Right) → right_of (letter r) ≡ some r
right_letter read = refl
right_letter write = refl
right_letter append = refl
right_letter delegate = refl

letter_clean : (r : Right) → T (is_clean (letter r))
letter_clean read = tt
letter_clean write = tt
letter_clean append = tt
letter_clean delegate = tt

-- what the lines from some variable or assertion on say
abbrev below : List Field → List Element → List Variable → List Assertion → Below
below fs es vs l = record { loose = fs; elements = es; count = 0; store = record { is_open = false; principals = []; delegator = []; variables = vs; assertions = l } }

reads_assertion : (a : Assertion) (l : List Assertion) (rest : Text) → T (spelled a)
    → Reads rest (below [] [] [] l) → Reads (assertion_text a ++ rest) (below [] [] [] (a ∷ l))
reads_assertion a l rest h r =
    let (x, q, p) = three (is_name a.variable) (is_name a.from) (is_name a.to) h in
    reads_line (bytes "A") (a.variable ∷ a.from ∷ letter a.right ∷ a.to ∷ []) rest
    (and (is_clean a.variable) _ (name_clean a.variable x) (and (is_clean a.from) _ (name_clean a.from q)
    (and (is_clean (letter a.right)) _ (letter_clean a.right) (and (is_clean a.to) true (name_clean a.to p) tt))))
    r
    (ap (λ o. o >>= λ r. some (with_assertion (below [] [] [] l) (record { variable = a.variable; from = a.from; right = r; to = a.to }))) (right_letter a.right))

-- ---- the variables

reads_field : (es : List Element) (vs : List Variable) (m : List Assertion) (f : Field) (fs : List Field) (rest : Text) → T (valid_field f)
    → Reads rest (below fs es vs m) → Reads (field_text f ++ rest) (below (f ∷ fs) es vs m)
reads_field es vs l f fs rest h r =
    let (l, t) = both (is_name f.label) (is_string f.text) h in
    reads_line (bytes "F") (f.label ∷ f.text ∷ []) rest
    (and (is_clean f.label) _ (name_clean f.label l) (and (is_clean f.text) true (string_clean f.text t) tt)) r refl

reads_fields : (es : List Element) (vs : List Variable) (m : List Assertion) (fs : List Field) (rest : Text) → T (valid_fields fs)
    → Reads rest (below [] es vs m) → Reads (joined field_text fs ++ rest) (below fs es vs m)
reads_fields es vs m fs rest h =
    let (h₁, d) = both (ltb 0 (length fs) && all valid_field fs) (distinct (map (λ f. f.label) fs)) h in
    reads_joined field_text valid_field (λ l. below l es vs m) (reads_field es vs m) fs rest (both (ltb 0 (length fs)) (all valid_field fs) h₁).1

reads_element : (vs : List Variable) (m : List Assertion) (e : Element) (es : List Element) (rest : Text) → T (valid_element e)
    → Reads rest (below [] es vs m) → Reads (element_text e ++ rest) (below [] (e ∷ es) vs m)
reads_element vs m (string t) es rest h r = reads_line (bytes "S") (t ∷ []) rest (and (is_clean t) true (string_clean t h) tt) r refl
reads_element vs m (fields fs) es rest h r =
    ap (λ y. read_lines (parts newline y)) (append_assoc (line_of (bytes "R" ∷ [])) (joined field_text fs) rest)
    ∙ reads_line (bytes "R") [] (joined field_text fs ++ rest) tt (reads_fields es vs m fs rest h r) refl

reads_variable : (m : List Assertion) (v : Variable) (vs : List Variable) (rest : Text) → T (valid_variable v)
    → Reads rest (below [] [] vs m) → Reads (variable_text v.name v.value ++ rest) (below [] [] (v ∷ vs) m)
reads_variable m v vs rest h r =
    let (x, k) = both (is_name v.name) (valid_value v.value) h in
    go v.value (name_clean v.name x) k
  where
    go : (u : Value) → T (is_clean v.name) → T (valid_value u)
        → Reads (variable_text v.name u ++ rest) (below [] [] (record { name = v.name; value = u } ∷ vs) m)
    go (single (string t)) x k =
        reads_line (bytes "V") (v.name ∷ bytes "S" ∷ t ∷ []) rest (and (is_clean v.name) _ x (and (is_clean t) true (string_clean t k) tt)) r refl
    go (single (fields fs)) x k =
        ap (λ y. read_lines (parts newline y)) (append_assoc (line_of (bytes "V" ∷ v.name ∷ bytes "R" ∷ [])) (joined field_text fs) rest)
        ∙ reads_line (bytes "V") (v.name ∷ bytes "R" ∷ []) (joined field_text fs ++ rest) (and (is_clean v.name) _ x tt) (reads_fields [] vs m fs rest k r) refl
    go (list es) x k =
        ap (λ y. read_lines (parts newline y)) (append_assoc (line_of (bytes "V" ∷ v.name ∷ bytes "L" ∷ [])) (joined element_text es) rest)
        ∙ reads_line (bytes "V") (v.name ∷ bytes "L" ∷ []) (joined element_text es ++ rest) (and (is_clean v.name) _ x tt)
        (reads_joined element_text valid_element (λ l. below [] l vs m) (reads_element vs m) es rest k r) refl

-- ---- the principals, and the whole

-- what the lines from some principal on say
abbrev pub from_principals : Store → List Principal → Below
from_principals s ks = record { loose = []; elements = []; count = 0; store = record { is_open = false; principals = ks; delegator = s.delegator; variables = s.variables; assertions = s.assertions } }

reads_principal : (s : Store) (k : Principal) (ks : List Principal) (rest : Text) → T (valid_principal k)
    → Reads rest (from_principals s ks) → Reads (principal_text k ++ rest) (from_principals s (k ∷ ks))
reads_principal s k ks rest h r =
    let (p, t, c) = three (is_name k.name) (valid_password k.password) (leb k.count last_count) h in
    let e : number 0 (decimal k.count) ≡ k.count = decimal_number k.count (leb→le k.count last_count c) in
    go k.password (name_clean k.name p) t e
  where
    go : (o : Option Text) → T (is_clean k.name) → T (valid_password o) → number 0 (decimal k.count) ≡ k.count
        → Reads (principal_line k.name o k.count ++ rest) (from_principals s (record { name = k.name; password = o; count = k.count } ∷ ks))
    go none p t e =
        reads_line (bytes "N") (k.name ∷ decimal k.count ∷ []) rest (and (is_clean k.name) _ p (and (is_clean (decimal k.count)) true (digits_clean 9 k.count) tt)) r
        (ap (λ c. some (with_principal (from_principals s ks) k.name none c)) e)
    go (some u) p t e =
        reads_line (bytes "P") (k.name ∷ u ∷ decimal k.count ∷ []) rest (and (is_clean k.name) _ p (and (is_clean u) _ (string_clean u t) (and (is_clean (decimal k.count)) true (digits_clean 9 k.count) tt))) r
        (ap (λ c. some (with_principal (from_principals s ks) k.name (some u) c)) e)

-- the lines behind the principals
pub reads_rest : (t : Store) → Shape t → (rest : Text) → Reads rest nothing_below
    → Reads (delegator_text t.delegator ++ (variables_text t.variables ++ (assertions_text t.assertions ++ rest))) (from_principals t [])
reads_rest t g rest r =
    let v = variables_text t.variables in
    let a = assertions_text t.assertions in
    reads_line (bytes "D") (t.delegator ∷ []) (v ++ (a ++ rest)) (and (is_clean t.delegator) true delegator_clean tt)
    (reads_joined (λ v. variable_text v.name v.value) valid_variable (λ l. below [] [] l t.assertions) (reads_variable t.assertions) t.variables (a ++ rest) g.variables_valid
    (reads_joined assertion_text spelled (λ l. below [] [] [] l) reads_assertion t.assertions rest (assertions_spelled t g) r))
    refl
  where
    delegator_clean : T (is_clean t.delegator)
    delegator_clean = name_clean t.delegator (principal_name t.delegator t.principals g.principals_valid g.delegator_known)

-- what the lines of a whole text say
abbrev pub whole : ℕ → Store → Below
whole n s = record { loose = []; elements = []; count = n; store = s }

reads_head : (b : Bool) (s : Store) (rest : Text) → Reads rest (from_principals s s.principals)
    → Reads (head_text b ++ rest) (whole 0 (record { is_open = b; principals = s.principals; delegator = s.delegator; variables = s.variables; assertions = s.assertions }))
reads_head true s rest r = reads_line (bytes "O") [] rest tt r refl
reads_head false s rest r = reads_line (bytes "C") [] rest tt r refl

reads_state : (t : Store) → Shape t → (rest : Text) → Reads rest nothing_below → Reads (state_text t ++ rest) (whole 0 t)
reads_state t g rest r =
    let h = head_text t.is_open in
    let k = principals_text t.principals in
    let d = delegator_text t.delegator in
    let v = variables_text t.variables in
    let a = assertions_text t.assertions in
    ap (λ y. read_lines (parts newline y)) (six_joined h k d v a rest)
    ∙ reads_head t.is_open t (k ++ (d ++ (v ++ (a ++ rest))))
    (reads_joined principal_text valid_principal (from_principals t) (reads_principal t) t.principals (d ++ (v ++ (a ++ rest))) g.principals_valid (reads_rest t g rest r))

-- ---- the buffer

zeros_free : (n : ℕ) → Free newline (replicate n 0)
zeros_free zero = tt
zeros_free (suc n) = zeros_free n

pub reads_zeros : (n : ℕ) → Reads (replicate n 0) nothing_below
reads_zeros n = ap read_lines (parts_free newline (replicate n 0) (zeros_free n))

pub given_true : (b : Bool) (o : Option Store) → T b → (given b >> o) ≡ o
given_true true o t = refl
given_true false o t = absurd t

pub decodes : (s : Store) → T (valid_store s) → decode (padded (state_text s)) ≡ some s
decodes s h =
    let (w, l) = both (well_formed s) (leb (store_weight s) limit) h in
    let e = reads_state s (shape s w) (replicate (buffer_size - length (state_text s)) 0) (reads_zeros (buffer_size - length (state_text s))) in
    ap (λ o. o >>= λ b. given (valid_store b.store && (padded (state_text b.store) ≟ buffer)) >> some b.store) e
    ∙ given_true (valid_store s && (padded (state_text s) ≟ buffer)) (some s) (and (valid_store s) (padded (state_text s) ≟ buffer) h (==_refl buffer))
  where
    buffer : Text
    buffer = padded (state_text s)

-- and reads nothing else: one state has one text
pub decode_holds : (buffer : Text) (s : Store) → (decode buffer ≡ some s) ↔ Holds buffer s
decode_holds buffer s = (λ e. subst (Where (Holds buffer)) e (decode_sound buffer), λ h. ap decode h.is_text_lem ∙ decodes s h.is_valid)
  where
    decode_sound : (buffer : Text) → Where (Holds buffer) (decode buffer)
    decode_sound buffer =
        bind_where (λ b. Unit {0}) (Holds buffer) (read_lines (parts newline buffer)) _ (anything (read_lines (parts newline buffer))) (λ b u.
        given_where (Holds buffer) (valid_store b.store && (padded (state_text b.store) ≟ buffer)) (some b.store) (λ t.
        let (v, e) = both (valid_store b.store) (padded (state_text b.store) ≟ buffer) t in
        record { is_valid = v; is_text_lem = sym (==→≡ (padded (state_text b.store)) buffer e) }))

-- and one text one state
pub one_state : {buffer : Text} {s t : Store} → Holds buffer s → Holds buffer t → s ≡ t
one_state {buffer} {s} {t} h k =
    let e : decode buffer ≡ some s = (decode_holds buffer s).1 h in
    let f : decode buffer ≡ some t = (decode_holds buffer t).1 k in
    cc
