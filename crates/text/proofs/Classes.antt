-- A function of a byte, from what the arms of a `match` on it tell. The compiler sorts the arms' patterns into intervals and single numbers:
-- at each interval, and at the single numbers, a test is computed for every number.
-- Assumes nothing.
use mathlib.Core.Path.{◌≡◌, refl, sym, ap, ◌∙◌, subst}
use mathlib.Core.Logic.{⊎_elim}
use mathlib.Core.List.{List, [], ◌∷◌}
use mathlib.Core.Bool.{Bool, true, false, ◌&&◌, ◌||◌}
use Prim.Native.Nat.{ℕ, zero, suc, ◌+◌, ◌-◌, ◌≤◌, ◌<◌}
use native.Mathlib.Omega.{arith}
use native.Mathlib.Nat.{add-zero, add-suc, suc-add}
use lib.Dec.{T, eqb, eqb→eq}
use types.Run.{OneOf, hit}
use mir.Val.{has_key}
use Rattle.language.specs.Bytes.{Class, letter, digit, space, newline, foreign, mark}

-- the test passes at n numbers from lo
abbrev pub every : (ℕ → Bool) → ℕ → ℕ → Bool
every f lo zero = true
every f lo (suc n) = f lo && every f (suc lo) n

and_left : (a b : Bool) → T (a && b) → T a
and_left true b t = tt
and_left false b t = t

and_right : (a b : Bool) → T (a && b) → T b
and_right true b t = t
and_right false b t = absurd t

pub every_at : (f : ℕ → Bool) (lo n k : ℕ) → T (every f lo n) → k < n → T (f (lo + k))
every_at f lo zero k t h = absurd (omega arith)
every_at f lo (suc n) zero t h = rw (add-zero lo) (and_left (f lo) (every f (suc lo) n) t)
every_at f lo (suc n) (suc k) t h =
    rw (add-suc lo k, ← suc-add lo k)
    (every_at f (suc lo) n k (and_right (f lo) (every f (suc lo) n) t) (omega arith))

-- the test passes at each of an arm's single numbers
abbrev pub each_key : (ℕ → Bool) → List ℕ → Bool
each_key f [] = true
each_key f (x ∷ xs) = f x && each_key f xs

key : (f : ℕ → Bool) (ks : List ℕ) (b : ℕ) → T (each_key f ks) → OneOf ks b → T (f b)
key f [] b t o = absurd o
key f (x ∷ []) b t o = rw o (and_left (f x) true t)
key f (x ∷ y ∷ ys) b t o =
    ⊎_elim
    (λ (e : b ≡ x). rw e (and_left (f x) (each_key f (y ∷ ys)) t))
    (λ r. key f (y ∷ ys) b (and_right (f x) (each_key f (y ∷ ys)) t) r)
    o

or_miss : (a b : Bool) → (T a → ⊥) → T (a || b) → T b
or_miss true b n t = absurd (n tt)
or_miss false b n t = t

-- `same` is a test that tells equal values
module _ {A : Type 0} (same : A → A → Bool) (sound : (a b : A) → T (same a b) → a ≡ b) (k g : ℕ → A) where
  -- k and g agree at x, or x is one of the numbers of other arms
  abbrev pub agree : List ℕ → ℕ → Bool
  agree ks x = has_key ks x || same (k x) (g x)

  pub in_interval :
      (lo n : ℕ) (ks : List ℕ)
      → T (every (agree ks) lo n)
      → (b : ℕ)
      → lo ≤ b
      → b < lo + n
      → (OneOf ks b → ⊥)
      → k b ≡ g b
  in_interval lo n ks t b h l miss =
      let e : lo + (b - lo) ≡ b = omega arith in
      let u : T (agree ks (lo + (b - lo))) = every_at (agree ks) lo n (b - lo) t (omega arith) in
      let v : T (agree ks b) = subst (λ (x : ℕ). T (agree ks x)) e u in
      sound (k b) (g b) (or_miss (has_key ks b) _ (λ y. miss (hit ks b y)) v)

  pub at_keys : (ks : List ℕ) → T (each_key (agree []) ks) → (b : ℕ) → OneOf ks b → k b ≡ g b
  at_keys ks t b o = sound (k b) (g b) (key (agree []) ks b t o)

-- ---- a test for classes: each has a number
abbrev pub number : Class → ℕ
number letter = 0
number digit = 1
number space = 2
number newline = 3
number foreign = 4
number (mark b) = suc (suc (suc (suc (suc b))))

abbrev pub class_of : ℕ → Class
class_of zero = letter
class_of (suc zero) = digit
class_of (suc (suc zero)) = space
class_of (suc (suc (suc zero))) = newline
class_of (suc (suc (suc (suc zero)))) = foreign
class_of (suc (suc (suc (suc (suc b))))) = mark b

back : (c : Class) → class_of (number c) ≡ c
back letter = refl
back digit = refl
back space = refl
back newline = refl
back foreign = refl
back (mark b) = refl

abbrev pub same_class : Class → Class → Bool
same_class a b = eqb (number a) (number b)

pub same_class_lem : (a b : Class) → T (same_class a b) → a ≡ b
same_class_lem a b t = sym (back a) ∙ ap class_of (eqb→eq (number a) (number b) t) ∙ back b

-- ---- a test for Bools
abbrev pub same_bool : Bool → Bool → Bool
same_bool true true = true
same_bool true false = false
same_bool false true = false
same_bool false false = true

pub same_bool_lem : (a b : Bool) → T (same_bool a b) → a ≡ b
same_bool_lem true true t = refl
same_bool_lem true false t = absurd t
same_bool_lem false true t = absurd t
same_bool_lem false false t = refl
