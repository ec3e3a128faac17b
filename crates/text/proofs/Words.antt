-- Laws of `==`, `parts` and `member`.
-- Assumes nothing.
use mathlib.Core.Path.{◌≡◌, refl, sym, ap, ◌∙◌}
use mathlib.Core.List.{List, [], ◌∷◌}
use mathlib.Core.Bool.{Bool, true, false, not, ◌&&◌}
use Prim.Native.Nat.{ℕ, ◌+◌, ◌-◌, ◌≤◌}
use native.Mathlib.Omega.{arith}
use native.Mathlib.Numerals.{add-one}
use lib.Dec.{eqb, leb}
use lib.ListN.{length, take, drop, drop_of_length-le}
use lib.Seq.{drop-cons, drop-drop}
use borrow.Author.Tests.{eqb-true, leb-true, leb-false, le-leb}
use Rattle.text.proofs.Runs.{take_run, drop_run}
use Rattle.language.specs.Text.{when◌then◌else◌, front, past, ◌≟◌, parts, to_first}
use Rattle.text.specs.Meaning.{is_not}

-- ---- equal texts
pub same_true : (a b : List ℕ) → (a ≟ b) ≡ true → a ≡ b
same_true [] [] e = refl
same_true [] (y ∷ ys) e = cc
same_true (x ∷ xs) [] e = cc
same_true (x ∷ xs) (y ∷ ys) e = go (eqb x y) refl e (same_true xs ys)
  where
    go : (t : Bool) → eqb x y ≡ t → (t && (xs ≟ ys)) ≡ true → ((xs ≟ ys) ≡ true → xs ≡ ys) → x ∷ xs ≡ y ∷ ys
    go true q e ih = rw (eqb-true x y q, ih e)
    go false q e ih = cc

-- ---- parts: the first one is the run up to the first separator
abbrev pub next : ℕ → List ℕ → List (List ℕ)
next c [] = []
next c (y ∷ ys) = parts c ys

pub split_run : (c : ℕ) (xs : List ℕ) → parts c xs ≡ front (is_not c) xs ∷ next c (past (is_not c) xs)
split_run c [] = refl
split_run c (x ∷ xs) = go (eqb x c) (split_run c xs)
  where
    go : (t : Bool) → parts c xs ≡ front (is_not c) xs ∷ next c (past (is_not c) xs)
        → (when t then [] ∷ parts c xs else to_first x (parts c xs))
        ≡ (when not t then x ∷ front (is_not c) xs else []) ∷ next c (when not t then past (is_not c) xs else x ∷ xs)
    go true e = refl
    go false e = ap (to_first x) e

-- the parts from place p on; none past the end
abbrev pub parts_from : ℕ → ℕ → List ℕ → List (List ℕ)
parts_from c p xs = when leb p (length xs) then parts c (drop p xs) else []

next_parts : (c e : ℕ) (xs : List ℕ) → next c (drop e xs) ≡ parts_from c (e + 1) xs
next_parts c e xs = go (leb (e + 1) (length xs)) refl
  where
    go : (t : Bool) → leb (e + 1) (length xs) ≡ t → next c (drop e xs) ≡ (when t then parts c (drop (e + 1) xs) else [])
    go true q = rw (add-one, drop-cons xs e 0 (omega (arith, leb-true (e + 1) (length xs) q)))
    go false q = rw (drop_of_length-le xs {i = e} (omega (arith, leb-false (e + 1) (length xs) q)))

pub parts_step :
    (c p e : ℕ) (xs : List ℕ)
    → p ≤ length xs
    → e ≡ p + length (front (is_not c) (drop p xs))
    → parts_from c p xs ≡ take (e - p) (drop p xs) ∷ parts_from c (e + 1) xs
parts_step c p e xs h q =
    let r : ℕ = length (front (is_not c) (drop p xs)) in
    let size : e - p ≡ r = omega arith in
    let first : take (e - p) (drop p xs) ≡ front (is_not c) (drop p xs) =
    ap (λ (n : ℕ). take n (drop p xs)) size ∙ take_run (is_not c) (drop p xs) in
    let rest : past (is_not c) (drop p xs) ≡ drop e xs =
    sym (drop_run (is_not c) (drop p xs)) ∙ drop-drop r p xs ∙ ap (λ (n : ℕ). drop n xs) (sym q) in
    rw (le-leb p (length xs) h, split_run c (drop p xs), first, rest, next_parts c e xs)
