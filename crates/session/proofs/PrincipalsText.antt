-- The principals' text is short: a line has at most four bytes more than it weighs, and weighs 12 or more; nine more on both names that
-- count 1. So it has at most four bytes for every three of its weight.
-- Assumes nothing.
use mathlib.Core.Path.{◌≡◌, refl, ap, subst}
use Prim.Native.Nat.{ℕ, ◌+◌, ◌*◌, ◌≤◌}
use native.Mathlib.Omega.{arith}
use mathlib.Core.Bool.{Bool, true, false, ◌&&◌, not}
use mathlib.Core.Option.{Option, none, some}
use mathlib.Core.List.{List, [], ◌∷◌, ◌++◌, map}
use lib.Dec.{T, T_not, leb}
use lib.ListN.{length, length-append}
use Rattle.language.specs.Text.{Text, ◌≟◌, all, sum, member, distinct, decimal}
use Rattle.language.specs.Syntax.{Name}
use Rattle.language.specs.State.{Principal, last_count, admin, anyone}
use Rattle.language.specs.Identifiers.{is_name}
use Rattle.language.specs.Weight.{name_weight, password_weight, principal_weight}
use Rattle.language.specs.Encode.{principal_line, principal_text, principals_text}
use Rattle.language.specs.Valid.{has_password, valid_password, valid_principal, valid_order}
use Rattle.language.proofs.Logic.Tests.{both, three, left_of_lem, right_of, ==→≡, ==_sym}
use Rattle.language.proofs.StateText.Clean.{name_length, digits_length}
use Rattle.store.proofs.NameWeights.{weighs_all}

abbrev names : List Principal → List Name
names ks = map (λ k. k.name) ks

-- a letter, a name, a password, a count of ten digits at most, and a byte after each
text_length : (p : Name) (o : Option Text) (n : ℕ) → length (principal_line p o n) ≤ 15 + length p + password_weight o
text_length p none n = omega (arith, length-append p (9 ∷ (decimal n ++ 10 ∷ [])), length-append (decimal n) (10 ∷ []), digits_length 9 n)
text_length p (some t) n =
    omega (
      arith,
      length-append p (9 ∷ (t ++ 9 ∷ (decimal n ++ 10 ∷ []))),
      length-append t (9 ∷ (decimal n ++ 10 ∷ [])),
      length-append (decimal n) (10 ∷ []),
      digits_length 9 n,
    )

longer : (k : Principal) (ks : List Principal) → length (principals_text (k ∷ ks)) ≤ 15 + length k.name + password_weight k.password + length (principals_text ks)
longer k ks = omega (arith, length-append (principal_text k) (principals_text ks), text_length k.name k.password k.count)

-- ---- the others

other : (x y : Name) (ns : List Name) → ¬ T (member x (y ∷ ns)) → (y ≟ x) ≡ false
other x y ns h = go (y ≟ x) (==_sym y x)
  where
    go : (b : Bool) → (T b → T (x ≟ y)) → b ≡ false
    go true f = absurd (h (left_of_lem (x ≟ y) (member x ns) (f tt)))
    go false f = refl

others : (ks : List Principal) → T (all valid_principal ks) → ¬ T (member admin (names ks)) → ¬ T (member anyone (names ks))
    → 3 * length (principals_text ks) ≤ 4 * sum principal_weight ks
others [] h a b = omega arith
others (k ∷ ks) h a b =
    let (v, r) = both (valid_principal k) (all valid_principal ks) h in
    let n : 1 ≤ length k.name = (name_length k.name (three (is_name k.name) (valid_password k.password) (leb k.count last_count) v).0).0 in
    let w : name_weight k.name ≡ length k.name = weighs_all k.name (other admin k.name (names ks) a) (other anyone k.name (names ks) b) in
    let m : 3 * length (principals_text ks) ≤ 4 * sum principal_weight ks =
    others ks r (λ t. a (right_of (admin ≟ k.name) (member admin (names ks)) t)) (λ t. b (right_of (anyone ≟ k.name) (member anyone (names ks)) t)) in
    omega (arith, longer k ks)

-- ---- with admin and anyone

pub principals_text_lem : (ks : List Principal) → T (valid_order ks) → T (all valid_principal ks) → T (distinct (names ks))
    → 3 * length (principals_text ks) ≤ 4 * sum principal_weight ks + 27
principals_text_lem [] o h d = absurd o
principals_text_lem (k ∷ []) o h d = absurd o
principals_text_lem (k ∷ l ∷ ks) o h d =
    let (f, z) = both ((k.name ≟ admin) && has_password k && (l.name ≟ anyone)) (all has_password ks) o in
    let (a, w, b) = three (k.name ≟ admin) (has_password k) (l.name ≟ anyone) f in
    let e : k.name ≡ admin = ==→≡ k.name admin a in
    let g : l.name ≡ anyone = ==→≡ l.name anyone b in
    let (v, r) = both (valid_principal k) (all valid_principal (l ∷ ks)) h in
    let (u, q) = both (valid_principal l) (all valid_principal ks) r in
    let (x, y) = both (not (member k.name (names (l ∷ ks)))) (distinct (names (l ∷ ks))) d in
    let (s, t) = both (not (member l.name (names ks))) (distinct (names ks)) y in
    let no-admin : ¬ T (member admin (names ks)) =
    λ i. subst (λ (n : Name). ¬ T (member n (names (l ∷ ks)))) e (T_not (member k.name (names (l ∷ ks))) x) (right_of (admin ≟ l.name) (member admin (names ks)) i) in
    let no-anyone : ¬ T (member anyone (names ks)) = subst (λ (n : Name). ¬ T (member n (names ks))) g (T_not (member l.name (names ks)) s) in
    let m : 3 * length (principals_text ks) ≤ 4 * sum principal_weight ks = others ks q no-admin no-anyone in
    let first : (length k.name ≡ 5) × (name_weight k.name ≡ 1) = (ap length e, ap name_weight e) in
    let second : (length l.name ≡ 6) × (name_weight l.name ≡ 1) = (ap length g, ap name_weight g) in
    omega (arith, longer k (l ∷ ks), longer l ks, first.0, first.1, second.0, second.1)
