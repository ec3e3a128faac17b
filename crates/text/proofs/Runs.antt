-- Laws of `front` and `past`: runs at the front of a text.
-- Assumes nothing.
use mathlib.Core.Path.{◌≡◌, refl, sym, ap, ◌∙◌}
use mathlib.Core.List.{List, [], ◌∷◌}
use mathlib.Core.Bool.{Bool, true, false}
use Prim.Native.Nat.{ℕ, suc, ◌+◌, ◌-◌, ◌≤◌, ◌<◌}
use native.Mathlib.Omega.{arith}
use native.Mathlib.Numerals.{add-one}
use lib.ListN.{length, get_or, take, drop, drop_of_length-le}
use lib.Seq.{drop-cons, drop-drop, take-length}
use Rattle.std.proofs.Common.{Option, Some, None, not, cond, ltb, length-drop}
use Rattle.std.specs.List.{position, position_or_len}
use Rattle.std.proofs.lemmas.List.Recursion.{is_position_or_len}
use borrow.Author.Tests.{ltb-false}
use Rattle.language.specs.Text.{when◌then◌else◌, front, past}

module _ (p : ℕ → Bool) (xs : List ℕ) (i : ℕ) where
  pub run_on : i < length xs → p (get_or xs i 0) ≡ true → front p (drop i xs) ≡ get_or xs i 0 ∷ front p (drop (i + 1) xs)
  run_on h e = rw (add-one, drop-cons xs i 0 h, e)

  pub run_stop : i < length xs → p (get_or xs i 0) ≡ false → front p (drop i xs) ≡ []
  run_stop h e = rw (drop-cons xs i 0 h, e)

  pub run_none : length xs ≤ i → front p (drop i xs) ≡ []
  run_none h = rw (drop_of_length-le xs {i = i} h)

-- a run is the front of its list, and `past` what follows it
pub run_le : (p : ℕ → Bool) (xs : List ℕ) → length (front p xs) ≤ length xs
run_le p [] = omega arith
run_le p (x ∷ xs) = go (p x) (run_le p xs)
  where
    go : (t : Bool) → length (front p xs) ≤ length xs → length (when t then x ∷ front p xs else []) ≤ suc (length xs)
    go true h = omega arith
    go false h = omega arith

pub take_run : (p : ℕ → Bool) (xs : List ℕ) → take (length (front p xs)) xs ≡ front p xs
take_run p [] = refl
take_run p (x ∷ xs) = go (p x) (take_run p xs)
  where
    go : (t : Bool) → take (length (front p xs)) xs ≡ front p xs → take (length (when t then x ∷ front p xs else [])) (x ∷ xs) ≡ (when t then x ∷ front p xs else [])
    go true e = ap (λ (l : List ℕ). x ∷ l) e
    go false e = refl

pub drop_run : (p : ℕ → Bool) (xs : List ℕ) → drop (length (front p xs)) xs ≡ past p xs
drop_run p [] = refl
drop_run p (x ∷ xs) = go (p x) (drop_run p xs)
  where
    go : (t : Bool) → drop (length (front p xs)) xs ≡ past p xs → drop (length (when t then x ∷ front p xs else [])) (x ∷ xs) ≡ (when t then past p xs else x ∷ xs)
    go true e = e
    go false e = refl

-- a run from place i up to place e, and what follows it
module _ (p : ℕ → Bool) (xs : List ℕ) (i e : ℕ) (at_end : e ≡ i + length (front p (drop i xs))) where
  pub run_part : take (e - i) (drop i xs) ≡ front p (drop i xs)
  run_part =
      let q : e - i ≡ length (front p (drop i xs)) = omega arith in
      rw q (take_run p (drop i xs))

  pub past_run : past p (drop i xs) ≡ drop e xs
  past_run = sym (drop_run p (drop i xs)) ∙ drop-drop (length (front p (drop i xs))) i xs ∙ ap (λ (n : ℕ). drop n xs) (sym at_end)

-- a run ends at the first byte that does not pass, or at the end of its list
stop_at : (p : ℕ → Bool) (xs : List ℕ) → length (front p xs) ≡ position_or_len (λ b. not (p b)) xs
stop_at p xs = is_position_or_len (λ l. length (front p l)) (λ b. not (p b)) refl (λ x l. go x l (p x)) xs
  where
    go : (x : ℕ) (l : List ℕ) (t : Bool) → length (when t then x ∷ front p l else []) ≡ cond (not t) 0 (1 + length (front p l))
    go x l true = omega arith
    go x l false = refl

-- what `position` answers from a place on
module _ (p : ℕ → Bool) (t : List ℕ) (at : ℕ) (r : Option ℕ) (answer : r ≡ position (λ b. not (p b)) (take (length t - at) (drop at t))) where
  found : r ≡ position (λ b. not (p b)) (drop at t)
  found = answer ∙ ap (position (λ b. not (p b))) (ap (λ (n : ℕ). take n (drop at t)) (sym (length-drop at t)) ∙ take-length (drop at t))

  pub run_found : (i : ℕ) → r ≡ Some i → i ≡ length (front p (drop at t))
  run_found i e = go (ltb (position_or_len (λ b. not (p b)) (drop at t)) (length (drop at t))) (sym found ∙ e)
    where
      go : (q : Bool) → cond q (Some (position_or_len (λ b. not (p b)) (drop at t))) None ≡ Some i → i ≡ length (front p (drop at t))
      go true e = rw stop_at cc
      go false e = cc

  pub run_whole : at ≤ length t → r ≡ None → length t ≡ at + length (front p (drop at t))
  run_whole h e = go (ltb (position_or_len (λ b. not (p b)) (drop at t)) (length (drop at t))) refl (sym found ∙ e)
    where
      go : (q : Bool) → ltb (position_or_len (λ b. not (p b)) (drop at t)) (length (drop at t)) ≡ q → cond q (Some (position_or_len (λ b. not (p b)) (drop at t))) None ≡ None → length t ≡ at + length (front p (drop at t))
      go true k e = cc
      go false k e = omega (arith, ltb-false _ _ k, stop_at p (drop at t), run_le p (drop at t), length-drop at t)
