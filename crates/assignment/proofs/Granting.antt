-- What the maker of a variable is granted: its weight and its numbers.
-- Assumes nothing.
use mathlib.Core.Path.{◌≡◌, refl, sym, ap, subst, ◌∙◌}
use mathlib.Core.Bool.{Bool, true, false, ◌&&◌, ◌||◌}
use mathlib.Core.Option.{Option, none}
use mathlib.Core.List.{List, [], ◌∷◌, ◌++◌, map, append_assoc, append-nil}
use Prim.Native.Nat.{ℕ, suc, ◌+◌, ◌*◌, ◌≤◌, ◌<◌}
use native.Mathlib.Numerals.{add-one}
use native.Mathlib.Nat.{le_of_suc-le-suc}
use native.Mathlib.Omega.{arith}
use borrow.Author.Tests.{eq-eqb, ne_eqb}
use lib.Dec.{T, eqb, eqb-suc-zero}
use lib.ListN.{length, take, set, get_or, length-map, length-set, get_or-map}
use lib.Seq.{take-suc-set}
use Rattle.language.specs.Text.{Text, when◌then◌else◌, ◌≟◌, all, sum, member, present}
use Rattle.language.specs.Syntax.{Name, Right, read, write, append, delegate, rights, same}
use Rattle.language.specs.State.{Value, Principal, Assertion, Store, admin, anyone, named, value_in, same_assertion, stands, enter}
use Rattle.language.specs.Weight.{name_weight, assertion_weight}
use Rattle.language.specs.Valid.{has_password, valid_order, valid_assertion}
use Rattle.language.specs.Commands.{entering}
use Rattle.language.proofs.Logic.Tests.{both, and, three, and_three, ==→≡, ==_refl, ==_sym, true_of, same_test}
use Rattle.language.proofs.StateText.Names.{named_is, valued_is}
use Rattle.store.specs.Held.{Principals}
use Rattle.store.specs.Rows.{Row, no_row, row_at, principal_row, position}
use Rattle.store.proofs.Answers.{principal_names_lem, position_name}
use Rattle.edits.specs.Changes.{principal_names, variable_names}
use Rattle.language.proofs.Logic.Lists.{map_append, any_last}
use Rattle.named_rights.specs.Numbers.{code, principals_of, variables, numbered}
use Rattle.assertion.specs.Packed.{pack}
use Rattle.assertion_list.specs.Known.{known}
use Rattle.assertion_list.proofs.Images.{numbers_last}
use Rattle.assignment.specs.Grants.{grant_weight, grant_numbers}

-- ---- the first two principals

same_name : (k a p : Name) → T (k ≟ a) → (k ≟ p) ≡ (p ≟ a)
same_name k a p h = subst (λ (z : Name). (k ≟ p) ≡ (p ≟ z)) (==→≡ k a h) (same_test (k ≟ p) (p ≟ k) (==_sym k p) (==_sym p k))

-- admin comes first
pub first_is : (ks : List Principal) (p : Name) → T (valid_order ks) → eqb (position (principal_names ks) p) 0 ≡ (p ≟ admin)
first_is [] p o = absurd o
first_is (k ∷ []) p o = absurd o
first_is (k ∷ l ∷ ks) p o =
    let (h, r) = both ((k.name ≟ admin) && has_password k && (l.name ≟ anyone)) (all has_password ks) o in
    go (k.name ≟ p) (same_name k.name admin p (three (k.name ≟ admin) (has_password k) (l.name ≟ anyone) h).0)
  where
    m : ℕ
    m = position (principal_names (l ∷ ks)) p

    go : (b : Bool) → b ≡ (p ≟ admin) → eqb (when b then 0 else suc m) 0 ≡ (p ≟ admin)
    go true e = e
    go false e = eqb-suc-zero m ∙ e

-- what stands between a record's first two bytes and its name's end
pub name_at : (ks : List Principal) (t : Text) (count : ℕ) (slots : List ℕ) → Principals ks t count slots → (p : Name) (k : ℕ) → k < count → k ≡ position (principal_names ks) p
    → (row_at (map principal_row ks) k).name ≡ p
name_at ks t count slots H p k h n =
    let c : length (map principal_row ks) ≡ length ks = length-map ks principal_row in
    let d : length (principal_names ks) ≡ length ks = length-map ks (λ (q : Principal). q.name) in
    sym (get_or-map (λ (r : Row). r.name) (map principal_row ks) k no_row) ∙ ap (λ (ns : List Name). get_or ns k []) (principal_names_lem ks)
    ∙ ap (λ (m : ℕ). get_or (principal_names ks) m []) n ∙ position_name (principal_names ks) p (omega (arith, n, H.counted, d))

pub admin_first : (ks : List Principal) → T (valid_order ks) → position (principal_names ks) admin ≡ 0
admin_first [] o = absurd o
admin_first (k ∷ []) o = absurd o
admin_first (k ∷ l ∷ ks) o =
    let (h, r) = both ((k.name ≟ admin) && has_password k && (l.name ≟ anyone)) (all has_password ks) o in
    ap (λ (b : Bool). when◌then◌else◌ {A = ℕ} b 0 (suc (position (principal_names (l ∷ ks)) admin)))
    (true_of (k.name ≟ admin) (three (k.name ≟ admin) (has_password k) (l.name ≟ anyone) h).0)

-- ---- the assertions

module _ (x p : Name) where
  abbrev pub granting : Right → Assertion
  granting r = record { variable = x; from = admin; right = r; to = p }

  abbrev pub grants : List Assertion
  grants = when p ≟ admin then [] else map granting rights

  pub grants_weight : sum assertion_weight grants ≡ grant_weight (length x) p
  grants_weight = go (p ≟ admin)
    where
      go : (b : Bool) → sum assertion_weight (when b then [] else map granting rights) ≡ (when b then 0 else 4 * (length x + 2 + name_weight p))
      go true = refl
      go false = let q : name_weight admin ≡ 1 = refl in omega (arith, q)

  -- none of them stands
  third_false : (a b c : Bool) → (a && b && false && c) ≡ false
  third_false true true c = refl
  third_false true false c = refl
  third_false false b c = refl

  stands_last : (l : List Assertion) (a b : Assertion) → stands (l ++ (a ∷ [])) b ≡ (stands l b || same_assertion b a)
  stands_last l a b = any_last (same_assertion b) l a

  other_right : (l : List Assertion) (r q : Right) → stands l (granting r) ≡ false → same r q ≡ false → stands (l ++ (granting q ∷ [])) (granting r) ≡ false
  other_right l r q e f =
      stands_last l (granting q) (granting r)
      ∙ (λ i. e i || ((x ≟ x) && (admin ≟ admin) && f i && (p ≟ p))) ∙ third_false (x ≟ x) (admin ≟ admin) (p ≟ p)

  entered : (l : List Assertion) (a : Assertion) → stands l a ≡ false → enter l a ≡ l ++ (a ∷ [])
  entered l a e = ap (λ (b : Bool). when◌then◌else◌ {A = List Assertion} b l (l ++ (a ∷ []))) e

  pub grants_entered : (l : List Assertion) → ((r : Right) → stands l (granting r) ≡ false) → entering l grants ≡ l ++ grants
  grants_entered l f = go (p ≟ admin)
    where
      l₁ : List Assertion
      l₁ = l ++ (granting read ∷ [])

      l₂ : List Assertion
      l₂ = l₁ ++ (granting write ∷ [])

      l₃ : List Assertion
      l₃ = l₂ ++ (granting append ∷ [])

      go : (b : Bool) → entering l (when b then [] else map granting rights) ≡ l ++ (when b then [] else map granting rights)
      go true = sym (append-nil l)
      go false =
          let one = entered l (granting read) (f read) in
          let two = entered l₁ (granting write) (other_right l write read (f write) refl) in
          let three' = entered l₂ (granting append) (other_right l₁ append write (other_right l append read (f append) refl) refl) in
          let four' = entered l₃ (granting delegate) (other_right l₂ delegate append (other_right l₁ delegate write (other_right l delegate read (f delegate) refl) refl) refl) in
          ap (λ (z : List Assertion). enter (enter (enter z (granting write)) (granting append)) (granting delegate)) one
          ∙ ap (λ (z : List Assertion). enter (enter z (granting append)) (granting delegate)) two ∙ ap (λ (z : List Assertion). enter z (granting delegate)) three' ∙ four'
          ∙ joined_up
        where
          joined_up : l₃ ++ (granting delegate ∷ []) ≡ l ++ map granting rights
          joined_up = simp append_assoc

-- an assertion on a variable that does not exist does not stand
pub none_stands : (s : Store) (x : Name) (b : Assertion) (l : List Assertion) → value_in s.variables x ≡ none → b.variable ≡ x → T (all (valid_assertion s) l) → stands l b ≡ false
none_stands s x b [] e v h = refl
none_stands s x b (a ∷ l) e v h =
    let (h₁, h₂) = both (valid_assertion s a) (all (valid_assertion s) l) h in
    let (k, q, p) = three (present (value_in s.variables a.variable)) (present (named s.principals a.from)) (present (named s.principals a.to)) h₁ in
    λ i. go (b.variable ≟ a.variable) (b.from ≟ a.from) (same b.right a.right) (b.to ≟ a.to)
    (λ t. subst (λ (o : Option Value). T (present o)) (ap (value_in s.variables) (sym (==→≡ b.variable a.variable t) ∙ v) ∙ e) k) i
    || none_stands s x b l e v h₂ i
  where
    go : (c d f g : Bool) → (T c → ⊥) → (c && d && f && g) ≡ false
    go true d f g n = absurd (n tt)
    go false d f g n = refl

-- ---- the numbers

-- every name in the assertions exists
pub all_known : (s : Store) (l : List Assertion) → T (all (valid_assertion s) l) → T (all (known (principal_names s.principals) (variable_names s.variables)) l)
all_known s [] h = tt
all_known s (a ∷ l) h =
    let (h₁, h₂) = both (valid_assertion s a) (all (valid_assertion s) l) h in
    let (k, q, p) = three (present (value_in s.variables a.variable)) (present (named s.principals a.from)) (present (named s.principals a.to)) h₁ in
    and (known (principal_names s.principals) (variable_names s.variables) a) _
    (and_three (member a.variable (variable_names s.variables)) (member a.from (principal_names s.principals)) (member a.to (principal_names s.principals))
    (valued_is a.variable s.variables k) (named_is a.from s.principals q) (named_is a.to s.principals p)) (all_known s l h₂)

-- the place of a name that comes last
pub position_end : (l : List Name) (x : Name) → length l ≤ position l x → position (l ++ (x ∷ [])) x ≡ length l
position_end [] x h = ap (λ (b : Bool). when◌then◌else◌ {A = ℕ} b 0 1) (true_of (x ≟ x) (==_refl x))
position_end (y ∷ l) x h = go (y ≟ x) h (position_end l x)
  where
    go : (b : Bool) → suc (length l) ≤ (when b then 0 else suc (position l x)) → (length l ≤ position l x → position (l ++ (x ∷ [])) x ≡ length l)
        → (when b then 0 else suc (position (l ++ (x ∷ [])) x)) ≡ suc (length l)
    go true h f = absurd (omega (arith, h))
    go false h f = ap suc (f (le_of_suc-le-suc h))

-- four numbers stored one after the other
stored : (l : List ℕ) (i a : ℕ) → i < length l → take (i + 1) (set l i a) ≡ take i l ++ (a ∷ [])
stored l i a h = ap (λ (n : ℕ). take n (set l i a)) (add-one i) ∙ take-suc-set l i a h

stored_four : (l : List ℕ) (n a b c d : ℕ) → n + 4 ≤ length l
    → take (n + 4) (set (set (set (set l n a) (n + 1) b) (n + 2) c) (n + 3) d) ≡ take n l ++ (a ∷ b ∷ c ∷ d ∷ [])
stored_four l n a b c d h =
    let l₁ : List ℕ = set l n a in
    let l₂ : List ℕ = set l₁ (n + 1) b in
    let l₃ : List ℕ = set l₂ (n + 2) c in
    let k₁ : length l₁ ≡ length l = length-set l n a in
    let k₂ : length l₂ ≡ length l₁ = length-set l₁ (n + 1) b in
    let k₃ : length l₃ ≡ length l₂ = length-set l₂ (n + 2) c in
    let q₂ : n + 2 ≡ n + 1 + 1 = omega arith in
    let q₃ : n + 3 ≡ n + 2 + 1 = omega arith in
    let q₄ : n + 4 ≡ n + 3 + 1 = omega arith in
    let e₁ : take (n + 1) l₁ ≡ take n l ++ (a ∷ []) = stored l n a (omega arith) in
    let e₂ : take (n + 2) l₂ ≡ take (n + 1) l₁ ++ (b ∷ []) = ap (λ (m : ℕ). take m l₂) q₂ ∙ stored l₁ (n + 1) b (omega (arith, k₁)) in
    let e₃ : take (n + 3) l₃ ≡ take (n + 2) l₂ ++ (c ∷ []) = ap (λ (m : ℕ). take m l₃) q₃ ∙ stored l₂ (n + 2) c (omega (arith, k₁, k₂)) in
    let e₄ : take (n + 4) (set l₃ (n + 3) d) ≡ take (n + 3) l₃ ++ (d ∷ []) = ap (λ (m : ℕ). take m (set l₃ (n + 3) d)) q₄ ∙ stored l₃ (n + 3) d (omega (arith, k₁, k₂, k₃)) in
    e₄ ∙ ap (λ (z : List ℕ). z ++ (d ∷ [])) (e₃ ∙ ap (λ (z : List ℕ). z ++ (c ∷ [])) (e₂ ∙ ap (λ (z : List ℕ). z ++ (b ∷ [])) e₁)) ∙ four_last (take n l)
  where
    four_last : (z : List ℕ) → (((z ++ (a ∷ [])) ++ (b ∷ [])) ++ (c ∷ [])) ++ (d ∷ []) ≡ z ++ (a ∷ b ∷ c ∷ d ∷ [])
    four_last z = simp append_assoc

module _ (s : Store) (o : T (valid_order s.principals)) (h : T (all (valid_assertion s) s.assertions)) (x p : Name) (k sender : ℕ)
    (new : length (variables s) ≤ position (variables s) x) (kn : k ≡ length (variables s))
    (sn : sender ≡ position (principals_of s) p) where
  number : (r : Right) → numbered (principals_of s) (variables s ++ (x ∷ [])) (granting x p r) ≡ pack k 0 (code r) sender
  number r = λ i. pack ((position_end (variables s) x new ∙ sym kn) i) (admin_first s.principals o i) (code r) (sym sn i)

  grants_numbers : map (numbered (principals_of s) (variables s ++ (x ∷ []))) (grants x p) ≡ grant_numbers k sender
  grants_numbers = go (p ≟ admin) (eqb sender 0) (sym (ap (λ (n : ℕ). eqb n 0) sn ∙ first_is s.principals p o))
    where
      go : (b c : Bool) → b ≡ c → map (numbered (principals_of s) (variables s ++ (x ∷ []))) (when b then [] else map (granting x p) rights)
          ≡ (when c then [] else pack k 0 0 sender ∷ pack k 0 1 sender ∷ pack k 0 2 sender ∷ pack k 0 3 sender ∷ [])
      go true c e = ap (λ (d : Bool). when◌then◌else◌ {A = List ℕ} d [] (pack k 0 0 sender ∷ pack k 0 1 sender ∷ pack k 0 2 sender ∷ pack k 0 3 sender ∷ [])) e
      go false c e = (λ i. number read i ∷ number write i ∷ number append i ∷ number delegate i ∷ [])
          ∙ ap (λ (d : Bool). when◌then◌else◌ {A = List ℕ} d [] (pack k 0 0 sender ∷ pack k 0 1 sender ∷ pack k 0 2 sender ∷ pack k 0 3 sender ∷ [])) e

  -- all assertions, with the new variable last
  pub all_numbers : map (numbered (principals_of s) (variables s ++ (x ∷ []))) (s.assertions ++ grants x p) ≡ map (numbered (principals_of s) (variables s)) s.assertions ++ grant_numbers k sender
  all_numbers =
      map_append (numbered (principals_of s) (variables s ++ (x ∷ []))) s.assertions (grants x p)
      ∙ (λ i. (ap (λ (qs : List Name). map (numbered qs (variables s ++ (x ∷ []))) s.assertions) (sym (append-nil (principals_of s)))
      ∙ numbers_last (principals_of s) [] (variables s) (x ∷ []) s.assertions (all_known s s.assertions h)) i ++ grants_numbers i)

-- ---- what the code answers

module _ (ks : List Principal) (p : Name) (o : T (valid_order ks)) (n sender : ℕ) where
  pub no_grants : sender ≡ position (principal_names ks) p → sender ≡ 0 → 0 ≡ grant_weight n p
  no_grants e z =
      ap (λ (b : Bool). when◌then◌else◌ {A = ℕ} b 0 (4 * (n + 2 + name_weight p)))
      (sym (eq-eqb sender 0 z) ∙ ap (λ (m : ℕ). eqb m 0) e ∙ first_is ks p o)

  pub some_grants : (w : ℕ) → sender ≡ position (principal_names ks) p → (sender ≡ 0 → ⊥) → w ≡ name_weight p → 4 * (n + 2 + w) ≡ grant_weight n p
  some_grants w e z h =
      ap (λ (m : ℕ). 4 * (n + 2 + m)) h
      ∙ ap (λ (b : Bool). when◌then◌else◌ {A = ℕ} b 0 (4 * (n + 2 + name_weight p))) (sym (ne_eqb sender 0 z) ∙ ap (λ (m : ℕ). eqb m 0) e ∙ first_is ks p o)

module _ (l : List ℕ) (n variable sender : ℕ) where
  pub no_numbers : sender ≡ 0 → take n l ≡ take n l ++ grant_numbers variable sender
  no_numbers z = sym (append-nil (take n l)) ∙ ap (λ (b : Bool). take n l ++ (when b then [] else pack variable 0 0 sender ∷ pack variable 0 1 sender ∷ pack variable 0 2 sender ∷ pack variable 0 3 sender ∷ [])) (sym (eq-eqb sender 0 z))

  pub some_numbers : (a b c d : ℕ) → (sender ≡ 0 → ⊥) → n + 4 ≤ length l → a ≡ pack variable 0 0 sender → b ≡ pack variable 0 1 sender → c ≡ pack variable 0 2 sender
      → d ≡ pack variable 0 3 sender → take (n + 4) (set (set (set (set l n a) (n + 1) b) (n + 2) c) (n + 3) d) ≡ take n l ++ grant_numbers variable sender
  some_numbers a b c d z h ea eb ec ed =
      stored_four l n a b c d h ∙ (λ i. take n l ++ (ea i ∷ eb i ∷ ec i ∷ ed i ∷ []))
      ∙ ap (λ (b : Bool). take n l ++ (when b then [] else pack variable 0 0 sender ∷ pack variable 0 1 sender ∷ pack variable 0 2 sender ∷ pack variable 0 3 sender ∷ [])) (sym (ne_eqb sender 0 z))
