-- The decoder reads back what was written in the former lines.
use mathlib.Core.Path.{◌≡◌, sym, ap, subst, ◌∙◌}
use mathlib.Core.Logic.{◌↔◌}
use Prim.Native.Nat.{ℕ, ◌-◌, ◌≤◌}
use mathlib.Core.Bool.{Bool, true, false, ◌&&◌}
use mathlib.Core.Option.{Option, none, some}
use mathlib.Core.List.{List, [], ◌∷◌, ◌++◌}
use lib.ListN.{length, replicate}
use lib.Dec.{T, eqb→eq, leb, leb→le}
use Rattle.language.specs.Text.{Text, bytes, parts, ◌>>=◌, ◌>>◌, given, ◌≟◌, all, joined, decimal}
use Rattle.language.specs.State.{Principal, Store, last_count}
use Rattle.language.specs.Weight.{limit}
use Rattle.language.specs.Encode.{newline, delegator_text, variables_text, assertions_text, buffer_size, padded}
use Rattle.language.specs.Identifiers.{is_name}
use Rattle.language.specs.Valid.{valid_password, valid_principal, well_formed}
use Rattle.language.specs.Decode.{nothing_below, with_head, read_lines}
use Rattle.language.specs.Former.{former_head, former_line, former_principal, former_text, former_weight, uncounted, valid_uncounted, valid_former, FormerHolds, decode_former}
use Rattle.language.proofs.Logic.Lists.{six_joined}
use Rattle.language.proofs.Logic.Tests.{both, and, three, ==→≡, ==_refl}
use Rattle.language.proofs.Logic.Outcomes.{Where, anything, bind_where, given_where}
use Rattle.language.proofs.StateText.Shape.{Shape, shape}
use Rattle.language.proofs.StateText.Lines.{is_clean, Reads, reads_line, reads_joined}
use Rattle.language.proofs.StateText.Clean.{string_clean, name_clean, digits_clean, decimal_number}
use Rattle.language.proofs.StateText.RoundTrip.{from_principals, whole, reads_rest, reads_zeros, given_true}

-- ---- the parts of what is valid

pub record FormerShape (n : ℕ) (s : Store) : Type 0 where
  pub small : n ≤ last_count
  pub shaped : Shape s
  pub uncounted_all : T (all uncounted s.principals)
  pub light : former_weight s ≤ limit

pub former_shape : (n : ℕ) (s : Store) → T (valid_former n s) → FormerShape n s
former_shape n s h =
    let (a, l) = both (leb n last_count && well_formed s && all uncounted s.principals) (leb (former_weight s) limit) h in
    let (c, w, u) = three (leb n last_count) (well_formed s) (all uncounted s.principals) a in
    record { small = leb→le n last_count c; shaped = shape s w; uncounted_all = u; light = leb→le (former_weight s) limit l }

-- ---- the lines

pub all_uncounted : (ks : List Principal) → T (all valid_principal ks) → T (all uncounted ks) → T (all valid_uncounted ks)
all_uncounted [] h u = tt
all_uncounted (k ∷ ks) h u =
    let (a, b) = both (valid_principal k) (all valid_principal ks) h in
    let (c, d) = both (uncounted k) (all uncounted ks) u in
    and (valid_uncounted k) (all valid_uncounted ks) (and (valid_principal k) (uncounted k) a c) (all_uncounted ks b d)

reads_principal : (s : Store) (k : Principal) (ks : List Principal) (rest : Text) → T (valid_uncounted k)
    → Reads rest (from_principals s ks) → Reads (former_principal k ++ rest) (from_principals s (k ∷ ks))
reads_principal s k ks rest h r =
    let (v, u) = both (valid_principal k) (uncounted k) h in
    let (p, t, c) = three (is_name k.name) (valid_password k.password) (leb k.count last_count) v in
    go k.password k.count (name_clean k.name p) t (eqb→eq k.count 0 u)
  where
    go : (o : Option Text) (n : ℕ) → T (is_clean k.name) → T (valid_password o) → n ≡ 0
        → Reads (former_line k.name o ++ rest) (from_principals s (record { name = k.name; password = o; count = n } ∷ ks))
    go none n p t e =
        reads_line (bytes "N") (k.name ∷ []) rest (and (is_clean k.name) true p tt) r
        (ap (λ m. some (from_principals s (record { name = k.name; password = none; count = m } ∷ ks))) (sym e))
    go (some u) n p t e =
        reads_line (bytes "P") (k.name ∷ u ∷ []) rest (and (is_clean k.name) _ p (and (is_clean u) true (string_clean u t) tt)) r
        (ap (λ m. some (from_principals s (record { name = k.name; password = some u; count = m } ∷ ks))) (sym e))

reads_head : (b : Bool) (n : ℕ) (s : Store) (rest : Text) → n ≤ last_count → Reads rest (from_principals s s.principals)
    → Reads (former_head b n ++ rest) (whole n (record { is_open = b; principals = s.principals; delegator = s.delegator; variables = s.variables; assertions = s.assertions }))
reads_head true n s rest h r =
    reads_line (bytes "O") (decimal n ∷ []) rest (and (is_clean (decimal n)) true (digits_clean 9 n) tt) r
    (ap (λ c. some (with_head (from_principals s s.principals) true c)) (decimal_number n h))
reads_head false n s rest h r =
    reads_line (bytes "C") (decimal n ∷ []) rest (and (is_clean (decimal n)) true (digits_clean 9 n) tt) r
    (ap (λ c. some (with_head (from_principals s s.principals) false c)) (decimal_number n h))

reads_former : (n : ℕ) (t : Store) → FormerShape n t → (rest : Text) → Reads rest nothing_below → Reads (former_text n t ++ rest) (whole n t)
reads_former n t f rest r =
    let g = f.shaped in
    let h = former_head t.is_open n in
    let k = joined former_principal t.principals in
    let d = delegator_text t.delegator in
    let v = variables_text t.variables in
    let a = assertions_text t.assertions in
    ap (λ y. read_lines (parts newline y)) (six_joined h k d v a rest)
    ∙ reads_head t.is_open n t (k ++ (d ++ (v ++ (a ++ rest)))) f.small
    (reads_joined former_principal valid_uncounted (from_principals t) (reads_principal t) t.principals (d ++ (v ++ (a ++ rest)))
    (all_uncounted t.principals g.principals_valid f.uncounted_all) (reads_rest t g rest r))

-- ---- the buffer

decodes : (n : ℕ) (s : Store) → T (valid_former n s) → decode_former (padded (former_text n s)) ≡ some s
decodes n s h =
    let e = reads_former n s (former_shape n s h) (replicate (buffer_size - length (former_text n s)) 0) (reads_zeros (buffer_size - length (former_text n s))) in
    ap (λ o. o >>= λ b. given (valid_former b.count b.store && (padded (former_text b.count b.store) ≟ buffer)) >> some b.store) e
    ∙ given_true (valid_former n s && (padded (former_text n s) ≟ buffer)) (some s) (and (valid_former n s) (padded (former_text n s) ≟ buffer) h (==_refl buffer))
  where
    buffer : Text
    buffer = padded (former_text n s)

-- a store is decoded exactly where the buffer is its text in the former lines, whatever the count in the first
pub decode_former_lem : (buffer : Text) (s : Store) → (decode_former buffer ≡ some s) ↔ ((n : ℕ) × FormerHolds buffer n s)
decode_former_lem buffer s = (
  λ e. subst (Where (λ s. (n : ℕ) × FormerHolds buffer n s)) e (sound buffer),
  λ h. ap decode_former h.1.is_text_lem ∙ decodes h.0 s h.1.is_valid,
)
  where
    sound : (buffer : Text) → Where (λ s. (n : ℕ) × FormerHolds buffer n s) (decode_former buffer)
    sound buffer =
        bind_where (λ b. Unit {0}) (λ s. (n : ℕ) × FormerHolds buffer n s) (read_lines (parts newline buffer)) _ (anything (read_lines (parts newline buffer))) (λ b u.
        given_where (λ s. (n : ℕ) × FormerHolds buffer n s) (valid_former b.count b.store && (padded (former_text b.count b.store) ≟ buffer)) (some b.store) (λ t.
        let (v, e) = both (valid_former b.count b.store) (padded (former_text b.count b.store) ≟ buffer) t in
        (b.count, record { is_valid = v; is_text_lem = sym (==→≡ (padded (former_text b.count b.store)) buffer e) })))
