-- A chain of names is a chain of numbers of the same length, and back; so the search by numbers answers for names.
use mathlib.Core.Path.{◌≡◌, refl, sym, ap, subst, ◌∙◌}
use mathlib.Core.Logic.{inl, inr}
use Prim.Native.Nat.{ℕ, ◌<◌}
use native.Mathlib.Nat.{le_antisymm}
use native.Mathlib.Omega.{arith}
use mathlib.Core.Bool.{◌&&◌}
use mathlib.Core.Option.{Option, none, some}
use mathlib.Core.List.Memᴰ
use mathlib.Core.List.{List, [], ◌∷◌, map, Memᴰ}
use lib.Dec.{T}
use lib.ListN.{length, take}
use Rattle.language.specs.Text.{◌≟◌, all, member, present}
use Rattle.language.specs.Syntax.{Name, Right}
use Rattle.language.specs.State.{Principal, Assertion, Store, admin, anyone, named, value_in, same_assertion, stands}
use Rattle.language.specs.Valid.{has_password, valid_order, valid_assertion, valid_store}
use Rattle.language.specs.Chains as C
use Rattle.language.specs.Chains.{chain_length}
use Rattle.store.specs.Rows.{position}
use Rattle.language.proofs.Logic.Tests.{both, three, one_of_lem, left_of_lem, right_of, ==→≡}
use Rattle.language.proofs.StateText.Names.{is_named, named_is, valued_is}
use Rattle.language.proofs.Meaning.Standing.{same_assertion_lem, same_self}
use Rattle.language.proofs.Rights.Search.{none_there, one_there}
use Rattle.language.proofs.Rights.Denial.{Sound}
use Rattle.language.proofs.Histories.Offences.{sound}
use Rattle.chains.specs.Chain as N
use Rattle.chains.specs.Chain.{Asked, asked, Answered}
use Rattle.assertion.specs.Packed.{fields}
use Rattle.std.specs.Prelude as Code
use Rattle.std.specs.Prelude.{Some, None}
use Rattle.assertion.proofs.Packing.{fields_pack}
use Rattle.named_rights.specs.Numbers.{code, four, numbered, principals_of, variables, Standing, Asks, length_of}
use Rattle.named_rights.proofs.Places.{position_lt, same_place, code_lt, same_code}
use Rattle.named_rights.proofs.Few.{store_shape, few_names, few_variables}

-- ---- assertions that stand

stands_in_lem : (l : List Assertion) (a : Assertion) → T (stands l a) → Memᴰ a l
stands_in_lem [] a h = absurd h
stands_in_lem (b ∷ l) a h = elim (one_of_lem (same_assertion a b) (stands l a) h) [
  | inl t ↦ Memᴰ.head (same_assertion_lem a b t)
  | inr t ↦ Memᴰ.tail (stands_in_lem l a t)
]

in_stands : (l : List Assertion) (a : Assertion) → Memᴰ a l → T (stands l a)
in_stands [] a m = absurd (Memᴰ.not-nil m)
in_stands (b ∷ l) a m = elim (Memᴰ.cases_cons m) [
  | inl e ↦ left_of_lem (same_assertion a b) (stands l a) (subst (λ c. T (same_assertion a c)) e (same_self a))
  | inr k ↦ right_of (same_assertion a b) (stands l a) (in_stands l a k)
]

-- every name in an assertion that stands exists
module _ (s : Store) (v : T (valid_store s)) where
  assertions_known : (a : Assertion) → Memᴰ a s.assertions → T (member a.variable (variables s)) × T (member a.from (principals_of s)) × T (member a.to (principals_of s))
  assertions_known = go s.assertions (store_shape s v).assertions_valid
    where
      go : (l : List Assertion) → T (all (valid_assertion s) l) → (a : Assertion) → Memᴰ a l
          → T (member a.variable (variables s)) × T (member a.from (principals_of s)) × T (member a.to (principals_of s))
      go [] h a m = absurd (Memᴰ.not-nil m)
      go (b ∷ l) h a m =
          let (h₁, h₂) = both (valid_assertion s b) (all (valid_assertion s) l) h in
          elim (Memᴰ.cases_cons m) [
            | inl e ↦ subst (λ c. T (member c.variable (variables s)) × T (member c.from (principals_of s)) × T (member c.to (principals_of s))) (sym e) (known b h₁)
            | inr k ↦ go l h₂ a k
          ]
        where
          known : (b : Assertion) → T (valid_assertion s b) → T (member b.variable (variables s)) × T (member b.from (principals_of s)) × T (member b.to (principals_of s))
          known b h =
              let (x, q, p) = three (present (value_in s.variables b.variable)) (present (named s.principals b.from)) (present (named s.principals b.to)) h in
              (valued_is b.variable s.variables x, named_is b.from s.principals q, named_is b.to s.principals p)

  -- admin has the number 0 and anyone the number 1
  pub first_two : (rest : List Name) × (principals_of s ≡ admin ∷ anyone ∷ rest)
  first_two = go s.principals (store_shape s v).order
    where
      go : (ks : List Principal) → T (valid_order ks) → (rest : List Name) × (map (λ k. k.name) ks ≡ admin ∷ anyone ∷ rest)
      go [] o = absurd o
      go (k ∷ []) o = absurd o
      go (k ∷ l ∷ ks) o =
          let (h, r) = both ((k.name ≟ admin) && has_password k && (l.name ≟ anyone)) (all has_password ks) o in
          let (a, b, c) = three (k.name ≟ admin) (has_password k) (l.name ≟ anyone) h in
          let e : k.name ≡ admin = ==→≡ k.name admin a in
          let f : l.name ≡ anyone = ==→≡ l.name anyone c in
          (map (λ k. k.name) ks, λ i. e i ∷ f i ∷ map (λ k. k.name) ks)

  admin_known : T (member admin (principals_of s))
  admin_known = subst (λ (l : List Name). T (member admin l)) (sym first_two.1) tt

  anyone_known : T (member anyone (principals_of s))
  anyone_known = subst (λ (l : List Name). T (member anyone l)) (sym first_two.1) tt

  pub admin_zero : position (principals_of s) admin ≡ 0
  admin_zero = ap (λ (l : List Name). position l admin) first_two.1

  pub anyone_one : position (principals_of s) anyone ≡ 1
  anyone_one = ap (λ (l : List Name). position l anyone) first_two.1

  some_principals : 0 < length (principals_of s)
  some_principals = subst (λ (l : List Name). 0 < length l) (sym first_two.1) (omega arith)

  -- ---- numbers and the packed form

  pub unpacked : (a : Assertion) → Memᴰ a s.assertions → fields (numbered (principals_of s) (variables s) a) ≡ four (principals_of s) (variables s) a
  unpacked a m =
      let (x, q, p) = assertions_known a m in
      fields_pack (position (variables s) a.variable) (position (principals_of s) a.from) (code a.right) (position (principals_of s) a.to)
      (omega (arith, position_lt (variables s) a.variable x, few_variables s v)) (omega (arith, position_lt (principals_of s) a.from q, few_names s v))
      (omega (arith, code_lt a.right)) (omega (arith, position_lt (principals_of s) a.to p, few_names s v))

  all_unpacked : map fields (map (numbered (principals_of s) (variables s)) s.assertions) ≡ map (four (principals_of s) (variables s)) s.assertions
  all_unpacked = go s.assertions (λ a m. unpacked a m)
    where
      go : (l : List Assertion) → ((a : Assertion) → Memᴰ a l → fields (numbered (principals_of s) (variables s) a) ≡ four (principals_of s) (variables s) a)
          → map fields (map (numbered (principals_of s) (variables s)) l) ≡ map (four (principals_of s) (variables s)) l
      go [] f = refl
      go (a ∷ l) f =
          let e = f a (Memᴰ.head refl) in
          let k = go l (λ b m. f b (Memᴰ.tail m)) in
          λ i. e i ∷ k i

  -- ---- chains

  module _ (r : Right) (x : Name) (x-known : T (member x (variables s))) where
    abbrev pub question : Asked
    question = asked (map (four (principals_of s) (variables s)) s.assertions) (length (principals_of s)) (position (variables s) x) (code r)

    to_known : (q p : Name) → T (stands s.assertions (record { variable = x; from = q; right = r; to = p })) → T (member p (principals_of s))
    to_known q p h = (assertions_known (record { variable = x; from = q; right = r; to = p }) (stands_in_lem s.assertions (record { variable = x; from = q; right = r; to = p }) h)).2

    pub by_number : {n : ℕ} {p : Name} → C.Chain s r x n p → N.Chain question n (position (principals_of s) p)
    by_number C.start = subst (λ (k : ℕ). N.Chain question 0 k) (sym admin_zero) (N.admin some_principals)
    by_number (C.along {n} {q} {p} c t) =
        N.link (by_number c) (N.assertion
        (Memᴰ.map (four (principals_of s) (variables s)) (stands_in_lem s.assertions (record { variable = x; from = q; right = r; to = p }) t))
        (position_lt (principals_of s) p (to_known q p t)))
    by_number (C.to_all {n} {p} c t) = N.link (by_number c) (N.anyone anyone_one (position_lt (principals_of s) p (named_is p s.principals t)))

    pub by_name : {n k : ℕ} → N.Chain question n k → (p : Name) → T (member p (principals_of s)) → position (principals_of s) p ≡ k → C.Chain s r x n p
    by_name (N.admin h) p m e = subst (λ (q : Name). C.Chain s r x 0 q) (same_place (principals_of s) admin p admin_known m (admin_zero ∙ sym e)) C.start
    by_name (N.link c (N.assertion i l)) p m e =
        let (a, k, f) = Memᴰ.of_map (four (principals_of s) (variables s)) s.assertions i in
        let (xk, qk, pk) = assertions_known a k in
        let same-x : a.variable ≡ x = same_place (variables s) a.variable x xk x-known (ap (λ b. b.variable) f) in
        let same-r : a.right ≡ r = same_code a.right r (ap (λ b. b.right) f) in
        let same-p : a.to ≡ p = same_place (principals_of s) a.to p pk m (ap (λ b. b.to) f ∙ sym e) in
        let q : C.Chain s r x _ a.from = by_name c a.from qk (ap (λ b. b.from) f) in
        let z : a ≡ record { variable = x; from = a.from; right = r; to = p } = λ i. record { variable = same-x i; from = a.from; right = same-r i; to = same-p i } in
        C.along q (subst (λ (b : Assertion). T (stands s.assertions b)) z (in_stands s.assertions a k))
    by_name (N.link c (N.anyone q l)) p m e = C.to_all (by_name c anyone anyone_known (anyone_one ∙ sym q)) (is_named p s.principals m)

    -- the answer by numbers is the length by names
    pub answers : (p : Name) → T (member p (principals_of s)) → (o : Code.Option ℕ) → Answered question (position (principals_of s) p) o → length_of o ≡ chain_length s r x p
    answers p m o h = go o (chain_length s r x p) refl h
      where
        g : Sound s
        g = sound s (store_shape s v)

        go : (o : Code.Option ℕ) (k : Option ℕ) → chain_length s r x p ≡ k → Answered question (position (principals_of s) p) o → length_of o ≡ k
        go (Some n) none e h = absurd (none_there s r x g.has_admin (g.has_target r x) p e n (by_name h.chain p m refl))
        go (Some n) (some k) e h =
            let f = one_there s r x g.has_admin (g.has_target r x) p k e in
            ap some (le_antisymm (h.least k (by_number f.chain)) (f.least n (by_name h.chain p m refl)))
        go None none e h = refl
        go None (some k) e h = absurd (h k (by_number (one_there s r x g.has_admin (g.has_target r x) p k e).chain))

-- the same of the numbers that a caller holds
pub says : (s : Store) (r : Right) (x p : Name) (n count variable right principal : ℕ) (assertions : List ℕ) (o : Code.Option ℕ) → T (valid_store s) → Standing s n assertions
    → Asks s r x p count variable right principal → Answered (asked (map fields (take n assertions)) count variable right) principal o → length_of o ≡ chain_length s r x p
says s r x p n count variable right principal assertions o v t k h =
    let e = ap (map fields) t.are ∙ all_unpacked s v in
    let a : asked (map fields (take n assertions)) count variable right ≡ question s v r x k.variable_known = λ i. asked (e i) (k.everyone i) (k.variable_is i) (k.right_is i) in
    let h' : Answered (question s v r x k.variable_known) principal o = subst (λ (q : Asked). Answered q principal o) a h in
    answers s v r x k.variable_known p k.principal_known o (subst (λ (j : ℕ). Answered (question s v r x k.variable_known) j o) k.principal_is h')
