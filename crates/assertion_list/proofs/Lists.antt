-- Numbers entered in and withdrawn from the front of a list.
-- Assumes nothing.
use mathlib.Core.Path.{◌≡◌, refl, sym, ap, ◌∙◌}
use mathlib.Core.Bool.{true, false}
use mathlib.Core.List.{List, [], ◌∷◌, ◌++◌, append_assoc}
use Prim.Native.Nat.{ℕ, zero, suc, ◌+◌, ◌-◌, ◌≤◌, ◌<◌}
use native.Mathlib.Nat.{not-suc-le-zero, le_of_suc-le-suc}
use native.Mathlib.Numerals.{add-one}
use native.Mathlib.Omega.{arith}
use borrow.Author.Tests.{eq-eqb, ne_eqb}
use lib.ListN.{length, get_or, set, take, drop, length-append, length-drop}
use lib.Seq.{take-suc-set, drop-drop, get_or-take, take-take, take_at, drop_at, take-add, length-take-le}
use Rattle.std.specs.List.{copy_within}
use Rattle.assertion_list.specs.Asserting.{stands_in, enter_number, withdraw_number}
use Rattle.assertion_list.specs.Shapes.{FirstAt, closed}

-- ---- entering

pub enter_stands : (l : List ℕ) (a : ℕ) → stands_in l a ≡ true → l ≡ enter_number l a
enter_stands l a e = rw e

pub enter_new : (l : List ℕ) (n a : ℕ) → n < length l → stands_in (take n l) a ≡ false → take (n + 1) (set l n a) ≡ enter_number (take n l) a
enter_new l n a h e = rw (e, add-one) (take-suc-set l n a h)

-- ---- withdrawing

pub withdraw_none : (l : List ℕ) (a : ℕ) → ((j : ℕ) → j < length l → get_or l j 0 ≡ a → ⊥) → l ≡ withdraw_number l a
withdraw_none [] a n = refl
withdraw_none (b ∷ l) a n = rw (ne_eqb a b (λ e. n 0 (omega arith) (sym e))) (ap (λ (x : List ℕ). b ∷ x) (withdraw_none l a (λ j h. n (suc j) (omega arith))))

pub withdraw_at : (l : List ℕ) (k a : ℕ) → k < length l → ((j : ℕ) → j < k → get_or l j 0 ≡ a → ⊥) → get_or l k 0 ≡ a
    → take k l ++ drop (suc k) l ≡ withdraw_number l a
withdraw_at [] k a h n e = absurd (not-suc-le-zero h)
withdraw_at (b ∷ l) zero a h n e = rw (eq-eqb a b (sym e))
withdraw_at (b ∷ l) (suc k) a h n e =
    rw (ne_eqb a b (λ q. n 0 (omega arith) (sym q))) (ap (λ (x : List ℕ). b ∷ x) (withdraw_at l k a (le_of_suc-le-suc h) (λ j i. n (suc j) (omega arith)) e))

-- ---- closing up

part_take : (l : List ℕ) (s e : ℕ) → s ≤ e → s ≤ length l → take (e - s) (drop s l) ≡ drop s (take e l)
part_take l s e h k =
    let q : e ≡ s + (e - s) = omega arith in
    sym (ap (λ (n : ℕ). drop s (take n l)) q ∙ ap (drop s) (take-add s (e - s) l) ∙ drop_at (take s l) (take (e - s) (drop s l)) s (length-take-le s l k))

pub closed_is : (l : List ℕ) (k n : ℕ) → k < n → copy_within l (k + 1) n k ≡ closed l k n
closed_is l k n h =
    append_assoc (take k l) (take (n - (k + 1)) (drop (k + 1) l)) (drop (k + (n - (k + 1))) l)
    ∙ ap (λ (m : ℕ). take k l ++ (take (n - (k + 1)) (drop (k + 1) l) ++ drop m l)) (let q : k + (n - (k + 1)) ≡ n - 1 = omega arith in q)

-- what is left of the front of the list, and of the rest
module _ (l : List ℕ) (k n : ℕ) (h : k < n) (m : n ≤ length l) where
  front_is : closed l k n ≡ (take k l ++ take (n - (k + 1)) (drop (k + 1) l)) ++ drop (n - 1) l
  front_is = sym (append_assoc (take k l) (take (n - (k + 1)) (drop (k + 1) l)) (drop (n - 1) l))

  front_size : length (take k l ++ take (n - (k + 1)) (drop (k + 1) l)) ≡ n - 1
  front_size =
      omega (
        arith,
        length-append (take k l) (take (n - (k + 1)) (drop (k + 1) l)),
        length-take-le k l (omega arith),
        length-take-le (n - (k + 1)) (drop (k + 1) l) (omega (arith, length-drop (k + 1) l)),
      )

  pub closed_front : take (n - 1) (closed l k n) ≡ take k (take n l) ++ drop (suc k) (take n l)
  closed_front =
      ap (take (n - 1)) front_is ∙ take_at (take k l ++ take (n - (k + 1)) (drop (k + 1) l)) (drop (n - 1) l) (n - 1) front_size
      ∙ (λ i. sym (take-take k n l (let q : k ≤ n = omega arith in q)) i ++ part_take l (k + 1) n (let q : k + 1 ≤ n = omega arith in q) (let q : k + 1 ≤ length l = omega arith in q) i)
      ∙ ap (λ (j : ℕ). take k (take n l) ++ drop j (take n l)) (add-one k)

  pub closed_rest : drop n (closed l k n) ≡ drop n l
  closed_rest =
      let e : n ≡ n - 1 + 1 = omega arith in
      ap (λ (j : ℕ). drop j (closed l k n)) e ∙ sym (drop-drop 1 (n - 1) (closed l k n))
      ∙ ap (drop 1) (ap (drop (n - 1)) front_is ∙ drop_at (take k l ++ take (n - (k + 1)) (drop (k + 1) l)) (drop (n - 1) l) (n - 1) front_size)
      ∙ drop-drop 1 (n - 1) l ∙ ap (λ (j : ℕ). drop j l) (sym e)

pub withdrawn_at : (l new : List ℕ) (k n a : ℕ) → n ≤ length l → FirstAt l n a k → k < n → new ≡ closed l k n → take (n - 1) new ≡ withdraw_number (take n l) a
withdrawn_at l new k n a m F h e =
    let z : length (take n l) ≡ n = length-take-le n l m in
    ap (take (n - 1)) e ∙ closed_front l k n h m
    ∙ withdraw_at (take n l) k a (omega arith) (λ j i q. F.none_before j i (sym (get_or-take n l j 0 (omega arith)) ∙ q)) (get_or-take n l k 0 h ∙ F.hit h)

pub withdrawn_none : (l : List ℕ) (k n a : ℕ) → n ≤ length l → FirstAt l n a k → k ≡ n → take n l ≡ withdraw_number (take n l) a
withdrawn_none l k n a m F e =
    let z : length (take n l) ≡ n = length-take-le n l m in
    withdraw_none (take n l) a (λ j i q. F.none_before j (omega arith) (sym (get_or-take n l j 0 (omega arith)) ∙ q))
