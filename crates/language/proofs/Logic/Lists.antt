-- Laws of lists that no library has: maps, tests and sums over lists joined, and over one element.
use mathlib.Core.Path.{◌≡◌, refl, ap, ◌∙◌}
use Prim.Native.Nat.{ℕ, zero, suc, ◌+◌, ◌≤◌, ◌<◌}
use native.Mathlib.Omega.{arith}
use mathlib.Core.Bool.{Bool, true, false, ◌||◌}
use mathlib.Core.Option.{some}
use mathlib.Core.List.{List, [], ◌∷◌, ◌++◌, map, append_assoc}
use lib.ListN.{length, get_or}
use Rattle.language.specs.Text.{Text, when◌then◌else◌, any, keep, sum}
use Rattle.language.proofs.Logic.Tests.{or_false}

pub map_append : {A B : Type 0} (f : A → B) (l m : List A) → map f (l ++ m) ≡ map f l ++ map f m
map_append f [] m = refl
map_append f (a ∷ l) m = ap (λ k. f a ∷ k) (map_append f l m)

pub map_last : {A B : Type 0} (f : A → B) (l : List A) (a : A) → map f (l ++ (a ∷ [])) ≡ map f l ++ (f a ∷ [])
map_last f l a = map_append f l (a ∷ [])

pub any_joined : {A : Type 0} (f : A → Bool) (l m : List A) → any f (l ++ m) ≡ (any f l || any f m)
any_joined f [] m = refl
any_joined f (a ∷ l) m = go (f a) (any_joined f l m)
  where
    go : (b : Bool) → any f (l ++ m) ≡ (any f l || any f m) → (b || any f (l ++ m)) ≡ ((b || any f l) || any f m)
    go true e = refl
    go false e = e

pub any_last : {A : Type 0} (f : A → Bool) (l : List A) (a : A) → any f (l ++ (a ∷ [])) ≡ (any f l || f a)
any_last f l a = any_joined f l (a ∷ []) ∙ ap (λ b. any f l || b) (or_false (f a))

pub keep_append : {A : Type 0} (f : A → Bool) (l m : List A) → keep f (l ++ m) ≡ keep f l ++ keep f m
keep_append f [] m = refl
keep_append f (a ∷ l) m = go (f a) (keep_append f l m)
  where
    go : (b : Bool) → keep f (l ++ m) ≡ keep f l ++ keep f m → (when b then a ∷ keep f (l ++ m) else keep f (l ++ m)) ≡ (when b then a ∷ keep f l else keep f l) ++ keep f m
    go true e = ap (λ k. a ∷ k) e
    go false e = e

pub sum_append : {A : Type 0} (f : A → ℕ) (l m : List A) → sum f (l ++ m) ≡ sum f l + sum f m
sum_append f [] m = omega arith
sum_append f (a ∷ l) m = let h : sum f (l ++ m) ≡ sum f l + sum f m = sum_append f l m in omega arith

-- one of the terms is at most the sum
pub sum_at : {A : Type 0} (f : A → ℕ) (l : List A) (k : ℕ) (d : A) → k < length l → f (get_or l k d) ≤ sum f l
sum_at f [] k d h = absurd (omega arith)
sum_at f (a ∷ l) zero d h = omega arith
sum_at f (a ∷ l) (suc k) d h = let i : f (get_or l k d) ≤ sum f l = sum_at f l k d (omega arith) in omega arith

pub some_same : {A : Type 0} {a b : A} → some a ≡ some b → a ≡ b
some_same e = cc

-- six texts, parenthesised from the left and from the right
pub six_joined : (a b c d e f : Text) → ((((a ++ b) ++ c) ++ d) ++ e) ++ f ≡ a ++ (b ++ (c ++ (d ++ (e ++ f))))
six_joined a b c d e f = simp append_assoc

pub five_joined : (a b c d e : Text) → (((a ++ b) ++ c) ++ d) ++ e ≡ a ++ (b ++ (c ++ (d ++ e)))
five_joined a b c d e = simp append_assoc
