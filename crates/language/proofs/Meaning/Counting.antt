-- A completed program counts for its sender: nothing else of a store changes, and it stays valid.
use mathlib.Core.Path.{◌≡◌, refl, sym, ap, subst}
use Prim.Native.Nat.{ℕ, ◌+◌, ◌≤◌}
use native.Mathlib.Omega.{arith}
use mathlib.Core.Bool.{Bool, true, false, ◌&&◌}
use mathlib.Core.List.{List, [], ◌∷◌, map}
use lib.Dec.{T, leb, leb→le, le→leb, ltb, ltb→lt}
use Rattle.language.specs.Text.{when◌then◌else◌, ◌≟◌, all, sum, member, distinct, present}
use Rattle.language.specs.Syntax.{Name}
use Rattle.language.specs.State.{Principal, Store, last_count, admin, anyone, named}
use Rattle.language.specs.Weight.{limit, principal_weight, store_weight}
use Rattle.language.specs.Valid.{has_password, valid_password, valid_principal, valid_order, well_formed, valid_store}
use Rattle.language.specs.Identifiers.{is_name}
use Rattle.language.specs.Run.{counted, counts, tally}
use Rattle.language.proofs.Logic.Tests.{both, and, three, and_three, four, map_all}
use Rattle.language.proofs.StateText.Names.{principal_names, is_named, named_is}
use Rattle.language.proofs.StateText.Shape.{Shape, shape, formed}
use Rattle.language.proofs.Meaning.Stores.{principals_shape}

-- a count that may be raised, or not
either_fits : (b : Bool) (m n : ℕ) → (T b → m ≤ last_count) → n ≤ last_count → T (leb (when b then m else n) last_count)
either_fits true m n h k = le→leb m last_count (h tt)
either_fits false m n h k = le→leb n last_count k

counted_fits : (n : ℕ) → T (leb n last_count) → T (leb (counted n) last_count)
counted_fits n h = either_fits (ltb n last_count) _ n (λ t. omega (arith, ltb→lt n last_count t)) (leb→le n last_count h)

counts_valid : (p : Name) (k : Principal) → T (valid_principal k) → T (valid_principal (counts p k))
counts_valid p k h =
    let (n, w, c) = three (is_name k.name) (valid_password k.password) (leb k.count last_count) h in
    and_three (is_name k.name) (valid_password k.password) (leb (counts p k).count last_count) n w
    (either_fits (k.name ≟ p) _ _ (λ t. leb→le (counted k.count) last_count (counted_fits k.count c)) (leb→le k.count last_count c))

counts_names : (p : Name) (ks : List Principal) → principal_names (map (counts p) ks) ≡ principal_names ks
counts_names p [] = refl
counts_names p (k ∷ ks) = ap (λ n. k.name ∷ n) (counts_names p ks)

counts_keeps : (p : Name) (ks : List Principal) (q : Name) → T (present (named ks q)) → T (present (named (map (counts p) ks) q))
counts_keeps p ks q h = is_named q (map (counts p) ks) (subst (λ l. T (member q l)) (sym (counts_names p ks)) (named_is q ks h))

counts_order : (p : Name) (ks : List Principal) → T (valid_order ks) → T (valid_order (map (counts p) ks))
counts_order p [] o = o
counts_order p (a ∷ []) o = o
counts_order p (a ∷ b ∷ ks) o =
    let (n, h, m, r) = four (a.name ≟ admin) (has_password a) (b.name ≟ anyone) (all has_password ks) o in
    and ((a.name ≟ admin) && has_password a && (b.name ≟ anyone)) (all has_password (map (counts p) ks))
    (and_three (a.name ≟ admin) (has_password a) (b.name ≟ anyone) n h m) (map_all has_password has_password (counts p) (λ k t. t) ks r)

counts_weight : (p : Name) (ks : List Principal) → sum principal_weight (map (counts p) ks) ≡ sum principal_weight ks
counts_weight p [] = refl
counts_weight p (k ∷ ks) = ap (λ n. principal_weight k + n) (counts_weight p ks)

pub counts_store : (p : Name) (s : Store) → T (valid_store s) → T (valid_store (tally p s))
counts_store p s v =
    let (w, l) = both (well_formed s) (leb (store_weight s) limit) v in
    let t : Store = tally p s in
    let g = shape s w in
    let h : Shape (tally p s) =
    principals_shape s g (map (counts p) s.principals) (counts_order p s.principals g.order)
    (map_all valid_principal valid_principal (counts p) (counts_valid p) s.principals g.principals_valid)
    (subst (λ n. T (distinct n)) (sym (counts_names p s.principals)) g.principals_distinct) (counts_keeps p s.principals) in
    and (well_formed t) (leb (store_weight t) limit) (formed t h)
    (le→leb (store_weight t) limit (omega (arith, counts_weight p s.principals, leb→le (store_weight s) limit l)))
