-- The search by rounds finds a shortest chain, or there is none.
use mathlib.Core.Path.{◌≡◌, refl, sym, subst}
use mathlib.Core.Logic.{◌⊎◌, inl, inr}
use Prim.Native.Nat.{ℕ, zero, suc, ◌+◌, ◌≤◌, ◌<◌, suc-le-suc, ◌-◌}
use native.Mathlib.Nat.{zero-add, le_refl, le_trans, le_step, le_antisymm, le_of_suc-le-suc, not-suc-le_self, not-suc-le-zero}
use native.Mathlib.Omega.{arith}
use native.Mathlib.Decide.{dec_lt}
use mathlib.Core.Bool.{Bool, true, false, ◌||◌}
use mathlib.Core.Option.{Option, none, some, some_inj, none-ne-some, some-ne-none}
use mathlib.Core.List.{List, [], ◌∷◌, map}
use lib.ListN.{length, length-map}
use lib.Dec.{T}
use Rattle.language.specs.Text.{when◌then◌else◌, ◌≟◌, any, keep, member, present}
use Rattle.language.specs.Syntax.{Name, Right}
use Rattle.language.specs.State.{Store, Assertion, admin, anyone, stands, named}
use Rattle.language.specs.Chains.{Chain, start, along, to_all, Shortest, within_step, round, reached, chain_length}
use Rattle.language.proofs.StateText.Names.{is_named, named_is}
use Rattle.language.proofs.Logic.Tests.{one_of_lem, left_of_lem, right_of, ==→≡, ==_refl}

-- a step of the round: its condition holds of each name that it keeps
pub kept : (f : Name → Bool) (p : Name) (ps : List Name) → T (member p (keep f ps)) → T (f p) × T (member p ps)
kept f p [] h = absurd h
kept f p (q ∷ ps) h = go (f q) refl (kept f p ps) h
  where
    go : (b : Bool) → f q ≡ b → (T (member p (keep f ps)) → T (f p) × T (member p ps))
        → T (member p (when b then q ∷ keep f ps else keep f ps)) → T (f p) × T (member p (q ∷ ps))
    go true e ih t = elim (one_of_lem (p ≟ q) (member p (keep f ps)) t) [
      | inl u ↦ (subst (λ x. T (f x)) (sym (==→≡ p q u)) (subst T (sym e) tt), left_of_lem (p ≟ q) (member p ps) u)
      | inr u ↦ ((ih u).0, right_of (p ≟ q) (member p ps) (ih u).1)
    ]
    go false e ih t = ((ih t).0, right_of (p ≟ q) (member p ps) (ih t).1)

-- a member that passes a test
pub witness : (f : Name → Bool) (l : List Name) → T (any f l) → (q : Name) × T (f q) × T (member q l)
witness f [] h = absurd h
witness f (q ∷ l) h = elim (one_of_lem (f q) (any f l) h) [
  | inl t ↦ (q, t, left_of_lem (q ≟ q) (member q l) (==_refl q))
  | inr t ↦ ((witness f l t).0, (witness f l t).1, right_of ((witness f l t).0 ≟ q) (member (witness f l t).0 l) (witness f l t).2)
]

-- what has a chain of at most n steps
abbrev Near : Store → Right → Name → ℕ → Name → Type 0
Near s r x n p = (m : ℕ) × (m ≤ n) × Chain s r x m p

-- everyone whom a round marks has a chain of at most one step more
pub round_sound : (s : Store) (r : Right) (x : Name) (n : ℕ) (marked : List Name)
    → ((q : Name) → T (member q marked) → Near s r x n q)
    → (p : Name) → T (member p (round s r x marked)) → Near s r x (suc n) p
round_sound s r x n marked near p h =
    let found = kept (λ p. any (within_step s r x p) marked) p (map (λ k. k.name) s.principals) h in
    let (q, t, m) = witness (within_step s r x p) marked found.0 in
    go q (near q m) (is_named p s.principals found.1) (one_of_lem ((q ≟ p) || (q ≟ anyone)) (stands s.assertions (record { variable = x; from = q; right = r; to = p })) t)
  where
    go : (q : Name) → Near s r x n q → T (present (named s.principals p))
        → T ((q ≟ p) || (q ≟ anyone)) ⊎ T (stands s.assertions (record { variable = x; from = q; right = r; to = p }))
        → Near s r x (suc n) p
    go q (m, l, c) k (inl t) = elim (one_of_lem (q ≟ p) (q ≟ anyone) t) [
      | inl u ↦ (m, omega arith, subst (Chain s r x m) (==→≡ q p u) c)
      | inr u ↦ (suc m, omega arith, to_all (subst (Chain s r x m) (==→≡ q anyone u) c) k)
    ]
    go q (m, l, c) k (inr t) = (suc m, omega arith, along c t)

-- ---- the search finds a shortest chain

pub is_kept : (f : Name → Bool) (p : Name) (ps : List Name) → T (f p) → T (member p ps) → T (member p (keep f ps))
is_kept f p [] t h = absurd h
is_kept f p (q ∷ ps) t h = go (f q) refl (is_kept f p ps t) (one_of_lem (p ≟ q) (member p ps) h)
  where
    go : (b : Bool) → f q ≡ b → (T (member p ps) → T (member p (keep f ps)))
        → T (p ≟ q) ⊎ T (member p ps) → T (member p (when b then q ∷ keep f ps else keep f ps))
    go true e ih (inl u) = left_of_lem (p ≟ q) (member p (keep f ps)) u
    go true e ih (inr u) = right_of (p ≟ q) (member p (keep f ps)) (ih u)
    go false e ih (inl u) = absurd (subst T e (subst (λ y. T (f y)) (==→≡ p q u) t))
    go false e ih (inr u) = ih u

pub any_by : (f : Name → Bool) (q : Name) (l : List Name) → T (f q) → T (member q l) → T (any f l)
any_by f q [] t h = absurd h
any_by f q (a ∷ l) t h = elim (one_of_lem (q ≟ a) (member q l) h) [
  | inl u ↦ left_of_lem (f a) (any f l) (subst (λ y. T (f y)) (==→≡ q a u) t)
  | inr u ↦ right_of (f a) (any f l) (any_by f q l t u)
]

-- ---- a test that passes more names keeps more of them, or no new one

pub keep_le : (f g : Name → Bool) (ps : List Name) → ((p : Name) → T (f p) → T (g p)) → length (keep f ps) ≤ length (keep g ps)
keep_le f g [] h = le_refl 0
keep_le f g (p ∷ ps) h = go (f p) (g p) (h p) (keep_le f g ps h)
  where
    go : (a b : Bool) → (T a → T b) → length (keep f ps) ≤ length (keep g ps)
        → length (when a then p ∷ keep f ps else keep f ps) ≤ length (when b then p ∷ keep g ps else keep g ps)
    go true true i ih = suc-le-suc ih
    go true false i ih = absurd (i tt)
    go false true i ih = le_step ih
    go false false i ih = ih

pub grows : (f g : Name → Bool) (ps : List Name) → ((p : Name) → T (f p) → T (g p))
    → ((p : Name) → T (member p ps) → T (g p) → T (f p)) ⊎ (length (keep f ps) < length (keep g ps))
grows f g [] h = inl (λ p m t. absurd m)
grows f g (p ∷ ps) h = go (f p) (g p) refl refl (h p) (grows f g ps h)
  where
    go : (a b : Bool) → f p ≡ a → g p ≡ b → (T a → T b)
        → ((q : Name) → T (member q ps) → T (g q) → T (f q)) ⊎ (length (keep f ps) < length (keep g ps))
        → ((q : Name) → T (member q (p ∷ ps)) → T (g q) → T (f q))
        ⊎ (length (when a then p ∷ keep f ps else keep f ps) < length (when b then p ∷ keep g ps else keep g ps))
    go true true ea eb i (inl k) = inl (λ q m t. elim (one_of_lem (q ≟ p) (member q ps) m) [
      | inl u ↦ subst (λ y. T (f y)) (sym (==→≡ q p u)) (subst T (sym ea) tt)
      | inr u ↦ k q u t
    ])
    go true true ea eb i (inr k) = inr (suc-le-suc k)
    go true false ea eb i k = absurd (i tt)
    go false true ea eb i k = inr (suc-le-suc (keep_le f g ps h))
    go false false ea eb i (inl k) = inl (λ q m t. elim (one_of_lem (q ≟ p) (member q ps) m) [
      | inl u ↦ absurd (subst T eb (subst (λ y. T (g y)) (==→≡ q p u) t))
      | inr u ↦ k q u t
    ])
    go false false ea eb i (inr k) = inr k

pub keep_at_most : (f : Name → Bool) (ps : List Name) → length (keep f ps) ≤ length ps
keep_at_most f [] = le_refl 0
keep_at_most f (p ∷ ps) = go (f p) (keep_at_most f ps)
  where
    go : (a : Bool) → length (keep f ps) ≤ length ps → length (when a then p ∷ keep f ps else keep f ps) ≤ suc (length ps)
    go true ih = suc-le-suc ih
    go false ih = le_step ih

-- a test that keeps as many names as there are passes all of them
pub keeps_all : (f : Name → Bool) (ps : List Name) → length ps ≤ length (keep f ps) → (q : Name) → T (member q ps) → T (f q)
keeps_all f [] l q m = absurd m
keeps_all f (p ∷ ps) l q m = go (f p) refl (λ k u. keeps_all f ps k q u) l (one_of_lem (q ≟ p) (member q ps) m)
  where
    go : (a : Bool) → f p ≡ a → (length ps ≤ length (keep f ps) → T (member q ps) → T (f q))
        → suc (length ps) ≤ length (when a then p ∷ keep f ps else keep f ps) → T (q ≟ p) ⊎ T (member q ps) → T (f q)
    go true e ih l (inl u) = subst (λ y. T (f y)) (sym (==→≡ q p u)) (subst T (sym e) tt)
    go true e ih l (inr u) = ih (le_of_suc-le-suc l) u
    go false e ih l u = absurd (not-suc-le_self (length ps) (le_trans l (keep_at_most f ps)))

pub not_lt : {m n : ℕ} → ¬ (m < n) → n ≤ m
not_lt h = omega arith

module _ (s : Store) (r : Right) (x : Name) where
  abbrev names : List Name
  names = map (λ k. k.name) s.principals

  abbrev step_to : Name → Name → Assertion
  step_to q p = record { variable = x; from = q; right = r; to = p }

  -- whoever is marked after n rounds
  abbrev pub marks : ℕ → List Name
  marks zero = admin ∷ []
  marks (suc n) = round s r x (marks n)

  pub sound : (n : ℕ) (p : Name) → T (member p (marks n)) → Near s r x n p
  sound zero p h = elim (one_of_lem (p ≟ admin) false h) [
    | inl u ↦ (0, le_refl 0, subst (Chain s r x 0) (sym (==→≡ p admin u)) start)
    | inr u ↦ absurd u
  ]
  sound (suc n) p h = round_sound s r x n (marks n) (sound n) p h

  -- a name one step further is marked in the next round
  pub round_by : (marked : List Name) (q p : Name) → T (member q marked) → T (within_step s r x p q) → T (member p names)
      → T (member p (round s r x marked))
  round_by marked q p m t k =
      is_kept (λ y. any (within_step s r x y) marked) p names (any_by (within_step s r x p) q marked t m) k

  module _ (admin-is : T (member admin names)) (to_is : (q p : Name) → T (stands s.assertions (step_to q p)) → T (member p names)) where
    pub chain_named : {n : ℕ} {p : Name} → Chain s r x n p → T (member p names)
    chain_named start = admin-is
    chain_named (along {q = q} {p = p} c t) = to_is q p t
    chain_named (to_all {p = p} c t) = named_is p s.principals t

    pub complete : {n : ℕ} {p : Name} → Chain s r x n p → T (member p (marks n))
    complete start = left_of_lem (admin ≟ admin) false (==_refl admin)
    complete (along {n = n} {q = q} {p = p} c t) =
        round_by (marks n) q p (complete c)
        (right_of ((q ≟ p) || (q ≟ anyone)) (stands s.assertions (step_to q p)) t) (to_is q p t)
    complete (to_all {n = n} {p = p} c t) =
        round_by (marks n) anyone p (complete c)
        (left_of_lem ((anyone ≟ p) || (anyone ≟ anyone)) (stands s.assertions (step_to anyone p)) (right_of (anyone ≟ p) (anyone ≟ anyone) (==_refl anyone)))
        (named_is p s.principals t)

    -- where p is marked after n rounds and after no fewer, n is the length of a shortest chain
    pub shortest : (n : ℕ) (p : Name) → T (member p (marks n)) → ((m : ℕ) → m < n → ¬ T (member p (marks m))) → Shortest s r x n p
    shortest n p h none_before = record { chain = exact (sound n p h); least = λ m c. not_below m (none_before' m (complete c)) }
      where
        none_before' : (m : ℕ) → T (member p (marks m)) → ¬ (m < n)
        none_before' m t l = none_before m l t

        not_below : (m : ℕ) → ¬ (m < n) → n ≤ m
        not_below m k = omega arith

        exact : Near s r x n p → Chain s r x n p
        exact (m, l, c) = subst (λ y. Chain s r x y p) (le_antisymm l (not_below m (none_before' m (complete c)))) c

    pub found : (p : Name) (more used n : ℕ) → ((m : ℕ) → m < used → ¬ T (member p (marks m)))
        → reached s r x p more used (marks used) ≡ some n → Shortest s r x n p
    found p zero used n before e = go (member p (marks used)) refl e
      where
        go : (b : Bool) → member p (marks used) ≡ b → (when b then some used else none) ≡ some n → Shortest s r x n p
        go true m e = subst (λ y. Shortest s r x y p) (some_inj.0 e) (shortest used p (subst T (sym m) tt) before)
        go false m e = absurd (none-ne-some n e)
    found p (suc more) used n before e = go (member p (marks used)) refl (found p more (suc used) n) e
      where
        go : (b : Bool) → member p (marks used) ≡ b
            → (((m : ℕ) → m < suc used → ¬ T (member p (marks m))) → reached s r x p more (suc used) (marks (suc used)) ≡ some n → Shortest s r x n p)
            → (when b then some used else reached s r x p more (suc used) (marks (suc used))) ≡ some n → Shortest s r x n p
        go true m ih e = subst (λ y. Shortest s r x y p) (some_inj.0 e) (shortest used p (subst T (sym m) tt) before)
        go false m ih e = ih before_next e
          where
            before_next : (k : ℕ) → k < suc used → ¬ T (member p (marks k))
            before_next k l t = elim (dec_lt k used) [
              | yes h ↦ before k h t
              | no h ↦ subst T m (subst (λ y. T (member p (marks y))) (le_antisymm (le_of_suc-le-suc l) (not_lt h)) t)
            ]

    -- ---- and where it finds none, there is none

    missed : (p : Name) (more used n : ℕ) → n ≡ more + used → reached s r x p more used (marks used) ≡ none → ¬ T (member p (marks n))
    missed p zero used n h e t = go (member p (marks used)) (subst (λ y. T (member p (marks y))) same_round t) e
      where
        same_round : n ≡ used
        same_round = omega arith

        go : (b : Bool) → T b → (when b then some used else none) ≡ none → ⊥
        go true t e = some-ne-none used e
        go false t e = t
    missed p (suc more) used n h e t = go (member p (marks used)) (missed p more (suc used) n next_round_lem) e
      where
        next_round_lem : n ≡ more + suc used
        next_round_lem = omega arith

        go : (b : Bool) → (reached s r x p more (suc used) (marks (suc used)) ≡ none → ¬ T (member p (marks n)))
            → (when b then some used else reached s r x p more (suc used) (marks (suc used))) ≡ none → ⊥
        go true ih e = some-ne-none used e
        go false ih e = ih e t

    -- the test by which round n marks
    abbrev passes : ℕ → Name → Bool
    passes zero p = p ≟ admin
    passes (suc n) p = any (within_step s r x p) (marks n)

    passed : (n : ℕ) (p : Name) → T (member p names) → T (passes n p) → T (member p (marks n))
    passed zero p k t = left_of_lem (p ≟ admin) false t
    passed (suc n) p k t = is_kept (passes (suc n)) p names t k

    marked_named : (n : ℕ) (p : Name) → T (member p (marks n)) → T (member p names)
    marked_named n p t = chain_named (sound n p t).2

    stays : (n : ℕ) (p : Name) → T (member p (marks n)) → T (member p (marks (suc n)))
    stays n p t =
        round_by (marks n) p p t
        (left_of_lem ((p ≟ p) || (p ≟ anyone)) (stands s.assertions (step_to p p)) (left_of_lem (p ≟ p) (p ≟ anyone) (==_refl p)))
        (marked_named n p t)

    passes_on : (n : ℕ) (p : Name) → T (passes n p) → T (passes (suc n) p)
    passes_on zero p t =
        any_by (within_step s r x p) admin (marks 0)
        (left_of_lem ((admin ≟ p) || (admin ≟ anyone)) (stands s.assertions (step_to admin p))
        (left_of_lem (admin ≟ p) (admin ≟ anyone) (subst (λ y. T (y ≟ p)) (==→≡ p admin t) (==_refl p))))
        (left_of_lem (admin ≟ admin) false (==_refl admin))
    passes_on (suc n) p t =
        let (q, u, m) = witness (within_step s r x p) (marks n) t in
        any_by (within_step s r x p) q (marks (suc n)) u (stays n q m)

    -- no later round marks anyone new
    abbrev Settled : ℕ → Type 0
    Settled n = (m : ℕ) (p : Name) → T (member p (marks m)) → T (member p (marks n))

    admin_marked : (n : ℕ) → T (member admin (marks n))
    admin_marked zero = left_of_lem (admin ≟ admin) false (==_refl admin)
    admin_marked (suc n) = stays n admin (admin_marked n)

    settles : (n : ℕ) → ((p : Name) → T (member p names) → T (passes (suc n) p) → T (passes n p)) → Settled n
    settles n h zero p t = elim (one_of_lem (p ≟ admin) false t) [
      | inl u ↦ subst (λ y. T (member y (marks n))) (sym (==→≡ p admin u)) (admin_marked n)
      | inr u ↦ absurd u
    ]
    settles n h (suc m) p t =
        let (pass, k) = kept (passes (suc m)) p names t in
        let (q, u, l) = witness (within_step s r x p) (marks m) pass in
        passed n p k (h p k (any_by (within_step s r x p) q (marks n) u (settles n h m q l)))

    progress : (n : ℕ) → Settled n ⊎ (n < length (keep (passes n) names))
    progress zero = inr (inhabited (keep (passes 0) names) (is_kept (passes 0) admin names (==_refl admin) admin-is))
      where
        inhabited : (l : List Name) → T (member admin l) → 0 < length l
        inhabited [] h = absurd h
        inhabited (q ∷ l) h = omega arith
    progress (suc n) = go (progress n) (grows (passes n) (passes (suc n)) names (passes_on n))
      where
        go : Settled n ⊎ (n < length (keep (passes n) names))
            → ((p : Name) → T (member p names) → T (passes (suc n) p) → T (passes n p))
            ⊎ (length (keep (passes n) names) < length (keep (passes (suc n)) names))
            → Settled (suc n) ⊎ (suc n < length (keep (passes (suc n)) names))
        go (inl k) g = inl (λ m p t. stays n p (k m p t))
        go (inr l) (inl h) = inl (λ m p t. stays n p (settles n h m p t))
        go (inr l) (inr g) = inr (omega arith)

    enough : (n : ℕ) → length names ≤ suc n → Settled n
    enough n h m p t = go (progress n)
      where
        go : Settled n ⊎ (n < length (keep (passes n) names)) → T (member p (marks n))
        go (inl k) = k m p t
        go (inr l) = passed n p (marked_named m p t) (keeps_all (passes n) names (le_trans h l) p (marked_named m p t))

    pub none_there : (p : Name) → chain_length s r x p ≡ none → (n : ℕ) → ¬ Chain s r x n p
    none_there p e n c =
        missed p (length s.principals - 1) 0 (length s.principals - 1) (omega arith) e
        (enough (length s.principals - 1) (subst (λ y. y ≤ suc (length s.principals - 1)) (sym (length-map s.principals (λ k. k.name))) (omega arith)) n p (complete c))

    pub one_there : (p : Name) (n : ℕ) → chain_length s r x p ≡ some n → Shortest s r x n p
    one_there p n e = found p (length s.principals - 1) 0 n (λ m l. absurd (not-suc-le-zero l)) e

-- never more rounds than the principals less one
pub few_rounds : (s : Store) (r : Right) (x p : Name) (n : ℕ) → chain_length s r x p ≡ some n → n ≤ length s.principals - 1
few_rounds s r x p n e = subst (λ k. n ≤ k) (zero-add (length s.principals - 1)) (go (length s.principals - 1) 0 (admin ∷ []) e)
  where
    at_once : (b : Bool) (o : Option ℕ) (used more : ℕ) → (o ≡ some n → n ≤ used + more) → (when b then some used else o) ≡ some n → n ≤ used + more
    at_once true o used more f e = let k : used ≡ n = cc in omega arith
    at_once false o used more f e = f e

    go : (more used : ℕ) (marked : List Name) → reached s r x p more used marked ≡ some n → n ≤ used + more
    go zero used marked e = at_once (member p marked) none used zero (λ k. absurd (none-ne-some n k)) e
    go (suc more) used marked e =
        at_once (member p marked) (reached s r x p more (suc used) (round s r x marked)) used (suc more)
        (λ k. let h : n ≤ suc used + more = go more (suc used) (round s r x marked) k in omega arith) e
