-- Laws of the Bool tests: conjunction, comparison of texts, `all`, `any`, `distinct`; and of `do` blocks.
use mathlib.Core.Path.{◌≡◌, refl, ap₂, subst}
use mathlib.Core.Logic.{◌⊎◌, inl, inr}
use mathlib.Core.Bool.{Bool, true, false, ◌&&◌, ◌||◌, not}
use mathlib.Core.List.{List, [], ◌∷◌, ◌++◌, map}
use Prim.Native.Nat.{ℕ, zero, suc}
use lib.ListN.{take, drop}
use lib.Dec.{T, T_not, not_T, eqb, eqb→eq, eqb_refl}
use Rattle.language.specs.Text.{Text, ◌≟◌, any, all, member, distinct}
use Rattle.language.specs.Syntax.{Right, same}

-- ---- tests

pub both : (a b : Bool) → T (a && b) → T a × T b
both true b t = (tt, t)
both false b t = absurd t

pub one_of_lem : (a b : Bool) → T (a || b) → T a ⊎ T b
one_of_lem true b t = inl tt
one_of_lem false b t = inr t

pub left_of_lem : (a b : Bool) → T a → T (a || b)
left_of_lem true b t = tt
left_of_lem false b t = absurd t

pub right_of : (a b : Bool) → T b → T (a || b)
right_of true b t = tt
right_of false b t = t

-- texts that compare equal are equal
pub ==→≡ : (s t : Text) → T (s ≟ t) → s ≡ t
==→≡ [] [] h = refl
==→≡ [] (b ∷ t) h = absurd h
==→≡ (a ∷ s) [] h = absurd h
==→≡ (a ∷ s) (b ∷ t) h =
    let (h₁, h₂) = both (eqb a b) (s ≟ t) h in
    ap₂ ◌∷◌ (eqb→eq a b h₁) (==→≡ s t h₂)

pub true_of : (b : Bool) → T b → b ≡ true
true_of true t = refl
true_of false t = absurd t

pub false_of : (b : Bool) → ¬ T b → b ≡ false
false_of true h = absurd (h tt)
false_of false h = refl

-- tests that hold together are one
pub same_test : (a b : Bool) → (T a → T b) → (T b → T a) → a ≡ b
same_test true true f g = refl
same_test true false f g = absurd (f tt)
same_test false true f g = absurd (g tt)
same_test false false f g = refl

pub and_true : (b : Bool) → (b && true) ≡ b
and_true true = refl
and_true false = refl

pub and_false : (b : Bool) → (b && false) ≡ false
and_false true = refl
and_false false = refl

pub or_false : (b : Bool) → (b || false) ≡ b
or_false true = refl
or_false false = refl

pub or_true : (b : Bool) → (b || true) ≡ true
or_true true = refl
or_true false = refl

pub or_second : (a b : Bool) → b ≡ true → (a || b) ≡ true
or_second true b h = refl
or_second false b h = h

pub not_not : (b : Bool) → not (not b) ≡ b
not_not true = refl
not_not false = refl

pub and : (a b : Bool) → T a → T b → T (a && b)
and true b t u = u
and false b t u = absurd t

pub three : (a b c : Bool) → T (a && b && c) → T a × T b × T c
three a b c h =
    let (h, t) = both (a && b) c h in
    let (r, s) = both a b h in
    (r, s, t)

pub and_three : (a b c : Bool) → T a → T b → T c → T (a && b && c)
and_three a b c r s t = and (a && b) c (and a b r s) t

pub four : (a b c d : Bool) → T (a && b && c && d) → T a × T b × T c × T d
four a b c d h =
    let (h, t) = both (a && b && c) d h in
    let (p, q, r) = three a b c h in
    (p, q, r, t)

pub ==_refl : (s : Text) → T (s ≟ s)
==_refl [] = tt
==_refl (a ∷ s) = and (eqb a a) (s ≟ s) (eqb_refl a) (==_refl s)

pub ==_sym : (s t : Text) → T (s ≟ t) → T (t ≟ s)
==_sym s t h = subst (λ u. T (u ≟ s)) (==→≡ s t h) (==_refl s)

pub same_refl : (r : Right) → T (same r r)
same_refl Right.read = tt
same_refl Right.write = tt
same_refl Right.append = tt
same_refl Right.delegate = tt

pub same→≡ : (q r : Right) → T (same q r) → q ≡ r
same→≡ Right.read Right.read h = refl
same→≡ Right.read Right.write h = absurd h
same→≡ Right.read Right.append h = absurd h
same→≡ Right.read Right.delegate h = absurd h
same→≡ Right.write Right.read h = absurd h
same→≡ Right.write Right.write h = refl
same→≡ Right.write Right.append h = absurd h
same→≡ Right.write Right.delegate h = absurd h
same→≡ Right.append Right.read h = absurd h
same→≡ Right.append Right.write h = absurd h
same→≡ Right.append Right.append h = refl
same→≡ Right.append Right.delegate h = absurd h
same→≡ Right.delegate Right.read h = absurd h
same→≡ Right.delegate Right.write h = absurd h
same→≡ Right.delegate Right.append h = absurd h
same→≡ Right.delegate Right.delegate h = refl

-- ---- lists

pub all_map : {A : Type 0} (f g : A → Bool) → ((a : A) → T (f a) → T (g a)) → (l : List A) → T (all f l) → T (all g l)
all_map f g h [] k = tt
all_map f g h (a ∷ l) k =
    let (k₁, k₂) = both (f a) (all f l) k in
    and (g a) (all g l) (h a k₁) (all_map f g h l k₂)

pub map_all : {A : Type 0} (f g : A → Bool) (m : A → A) → ((a : A) → T (f a) → T (g (m a))) → (l : List A) → T (all f l) → T (all g (map m l))
map_all f g m h [] k = tt
map_all f g m h (a ∷ l) k =
    let (k₁, k₂) = both (f a) (all f l) k in
    and (g (m a)) (all g (map m l)) (h a k₁) (map_all f g m h l k₂)

pub all_append : {A : Type 0} (f : A → Bool) (l m : List A) → T (all f l) → T (all f m) → T (all f (l ++ m))
all_append f [] m h k = k
all_append f (a ∷ l) m h k =
    let (h₁, h₂) = both (f a) (all f l) h in
    and (f a) (all f (l ++ m)) h₁ (all_append f l m h₂ k)

pub all_take : {A : Type 0} (f : A → Bool) (n : ℕ) (l : List A) → T (all f l) → T (all f (take n l))
all_take f zero l h = tt
all_take f (suc n) [] h = tt
all_take f (suc n) (a ∷ l) h =
    let (h₁, h₂) = both (f a) (all f l) h in
    and (f a) (all f (take n l)) h₁ (all_take f n l h₂)

pub all_drop : {A : Type 0} (f : A → Bool) (n : ℕ) (l : List A) → T (all f l) → T (all f (drop n l))
all_drop f zero l h = h
all_drop f (suc n) [] h = tt
all_drop f (suc n) (a ∷ l) h = all_drop f n l (both (f a) (all f l) h).1

pub any_append : {A : Type 0} (f : A → Bool) (l m : List A) → T (any f (l ++ m)) → T (any f l) ⊎ T (any f m)
any_append f [] m h = inr h
any_append f (a ∷ l) m h = elim (one_of_lem (f a) (any f (l ++ m)) h) [
  | inl t ↦ inl (left_of_lem (f a) (any f l) t)
  | inr t ↦ elim (any_append f l m t) [
    | inl u ↦ inl (right_of (f a) (any f l) u)
    | inr u ↦ inr u
  ]
]

pub any_left : {A : Type 0} (f : A → Bool) (l m : List A) → T (any f l) → T (any f (l ++ m))
any_left f [] m h = absurd h
any_left f (a ∷ l) m h = elim (one_of_lem (f a) (any f l) h) [
  | inl t ↦ left_of_lem (f a) (any f (l ++ m)) t
  | inr t ↦ right_of (f a) (any f (l ++ m)) (any_left f l m t)
]

pub any_right_lem : {A : Type 0} (f : A → Bool) (l m : List A) → T (any f m) → T (any f (l ++ m))
any_right_lem f [] m h = h
any_right_lem f (a ∷ l) m h = right_of (f a) (any f (l ++ m)) (any_right_lem f l m h)

-- a name that is new, put last
pub distinct_last : (l : List Text) (t : Text) → T (distinct l) → ¬ T (member t l) → T (distinct (l ++ (t ∷ [])))
distinct_last [] t d n = tt
distinct_last (u ∷ l) t d n =
    let (d₁, d₂) = both (not (member u l)) (distinct l) d in
    and (not (member u (l ++ (t ∷ [])))) (distinct (l ++ (t ∷ [])))
    (not_T (member u (l ++ (t ∷ []))) (λ m. elim (any_append (λ v. u ≟ v) l (t ∷ []) m) [
      | inl k ↦ T_not (member u l) d₁ k
      | inr k ↦ n (left_of_lem (t ≟ u) (member t l) (==_sym u t (elim (one_of_lem (u ≟ t) false k) [ inl e ↦ e | inr e ↦ absurd e ])))
    ]))
    (distinct_last l t d₂ (λ m. n (right_of (t ≟ u) (member t l) m)))
