-- Entering and withdrawing numbers is the image of entering and withdrawing assertions, where the numbers tell the assertions apart.
-- Assumes nothing.
use mathlib.Core.Path.{◌≡◌, refl, sym, ap, subst, ◌∙◌}
use mathlib.Core.Bool.{Bool, true, false, ◌||◌}
use mathlib.Core.List.{List, [], ◌∷◌, ◌++◌, map}
use Prim.Native.Nat.{ℕ, suc, ◌≤◌, ◌<◌, ◌^◌}
use native.Mathlib.Nat.{not-suc-le-zero, le_of_suc-le-suc}
use native.Mathlib.Omega.{arith}
use borrow.Author.Tests.{eq-eqb, eqb-true}
use lib.Dec.{T, eqb}
use lib.ListN.{length, get_or}
use Rattle.language.specs.Text.{when◌then◌else◌, ◌≟◌, all, member}
use Rattle.language.specs.Syntax.{Name, Right, read, write, append, delegate}
use Rattle.language.specs.State.{Assertion, same_assertion, stands, enter, withdraw}
use Rattle.named_rights.specs.Numbers.{code, numbered}
use Rattle.language.proofs.Logic.Tests.{both, three}
use Rattle.language.proofs.Meaning.Standing.{same_assertion_lem, same_self}
use Rattle.assertion.specs.Packed.{Assertion as Fields, pack, fields}
use Rattle.assertion.proofs.Packing.{fields_pack}
use Rattle.store.specs.Rows.{position}
use Rattle.store.proofs.Answers.{position_name}
use Rattle.assertion_list.specs.Asserting.{stands_in, enter_number, withdraw_number}
use Rattle.assertion_list.specs.Known.{known}
use Rattle.named_rights.proofs.Places.{position_lt, same_code}

-- ---- by any numbering

module _ (f : Assertion → ℕ) (a : Assertion) where
  -- the numbers tell the assertion a apart from those of the list
  abbrev pub Apart : List Assertion → Type 0
  Apart [] = Unit {0}
  Apart (b ∷ l) = (same_assertion a b ≡ eqb (f a) (f b)) × Apart l

  pub stands_image : (l : List Assertion) → Apart l → stands l a ≡ stands_in (map f l) (f a)
  stands_image [] h = refl
  stands_image (b ∷ l) h = λ i. h.0 i || stands_image l h.1 i

  map_last : (l : List Assertion) → map f (l ++ (a ∷ [])) ≡ map f l ++ (f a ∷ [])
  map_last [] = refl
  map_last (b ∷ l) = ap (λ (x : List ℕ). f b ∷ x) (map_last l)

  pub enter_image : (l : List Assertion) → Apart l → map f (enter l a) ≡ enter_number (map f l) (f a)
  enter_image l h = go (stands l a) (stands_in (map f l) (f a)) (stands_image l h)
    where
      go : (b c : Bool) → b ≡ c → map f (when b then l else l ++ (a ∷ [])) ≡ (when c then map f l else map f l ++ (f a ∷ []))
      go true c e = ap (λ (b : Bool). when b then map f l else map f l ++ (f a ∷ [])) e
      go false c e = map_last l ∙ ap (λ (b : Bool). when b then map f l else map f l ++ (f a ∷ [])) e

  pub withdraw_image : (l : List Assertion) → Apart l → map f (withdraw l a) ≡ withdraw_number (map f l) (f a)
  withdraw_image [] h = refl
  withdraw_image (b ∷ l) h = go (same_assertion a b) (eqb (f a) (f b)) h.0 (withdraw_image l h.1)
    where
      go : (c d : Bool) → c ≡ d → map f (withdraw l a) ≡ withdraw_number (map f l) (f a)
          → map f (when c then l else b ∷ withdraw l a) ≡ (when d then map f l else f b ∷ withdraw_number (map f l) (f a))
      go true d e r = ap (λ (x : Bool). when x then map f l else f b ∷ withdraw_number (map f l) (f a)) e
      go false d e r = ap (λ (x : List ℕ). f b ∷ x) r ∙ ap (λ (x : Bool). when x then map f l else f b ∷ withdraw_number (map f l) (f a)) e

-- ---- by the places of names

-- equal places of a name that is there: equal names
pub position_apart : (l : List Name) (x y : Name) → position l x < length l → position l x ≡ position l y → x ≡ y
position_apart l x y h e = sym (position_name l x h) ∙ ap (λ (n : ℕ). get_or l n []) e ∙ position_name l y (omega arith)

code_small : (r : Right) → code r < 2 ^ 16
code_small read = omega arith
code_small write = omega arith
code_small append = omega arith
code_small delegate = omega arith

module _ (ps xs : List Name) (ps_few : length ps ≤ 2 ^ 16) (xs_few : length xs ≤ 2 ^ 16) where
  -- an assertion's four places are below the lengths
  places : (a : Assertion) → T (known ps xs a) → (position xs a.variable < length xs) × (position ps a.from < length ps) × (position ps a.to < length ps)
  places a h =
      let (v, f, t) = three (member a.variable xs) (member a.from ps) (member a.to ps) h in
      (position_lt xs a.variable v, position_lt ps a.from f, position_lt ps a.to t)

  fields_number : (a : Assertion) → T (known ps xs a)
      → fields (numbered ps xs a) ≡ record { variable = position xs a.variable; from = position ps a.from; right = code a.right; to = position ps a.to }
  fields_number a h =
      let (v, f, t) = places a h in
      fields_pack (position xs a.variable) (position ps a.from) (code a.right) (position ps a.to) (omega arith) (omega arith) (code_small a.right) (omega arith)

  pub number_apart : (a b : Assertion) → T (known ps xs a) → T (known ps xs b) → numbered ps xs a ≡ numbered ps xs b → a ≡ b
  number_apart a b h k e =
      let (v, f, t) = places a h in
      let q : ◌≡◌ {A = Fields} (record { variable = position xs a.variable; from = position ps a.from; right = code a.right; to = position ps a.to })
      (record { variable = position xs b.variable; from = position ps b.from; right = code b.right; to = position ps b.to }) =
      sym (fields_number a h) ∙ ap fields e ∙ fields_number b k in
      let ev : a.variable ≡ b.variable = position_apart xs a.variable b.variable v (ap (λ (x : Fields). x.variable) q) in
      let ef : a.from ≡ b.from = position_apart ps a.from b.from f (ap (λ (x : Fields). x.from) q) in
      let er : a.right ≡ b.right = same_code a.right b.right (ap (λ (x : Fields). x.right) q) in
      let et : a.to ≡ b.to = position_apart ps a.to b.to t (ap (λ (x : Fields). x.to) q) in
      λ i. record { variable = ev i; from = ef i; right = er i; to = et i }

  same_number : (a b : Assertion) → T (known ps xs a) → T (known ps xs b) → same_assertion a b ≡ eqb (numbered ps xs a) (numbered ps xs b)
  same_number a b h k = go (same_assertion a b) (eqb (numbered ps xs a) (numbered ps xs b)) (λ t. eq-eqb _ _ (ap (numbered ps xs) (same_assertion_lem a b t)))
      (λ t. subst (λ (x : Assertion). T (same_assertion a x)) (number_apart a b h k (eqb-true _ _ t)) (same_self a))
    where
      go : (c d : Bool) → (T c → d ≡ true) → (d ≡ true → T c) → c ≡ d
      go true d f g = sym (f tt)
      go false true f g = absurd (g refl)
      go false false f g = refl

  pub numbers_apart : (a : Assertion) (l : List Assertion) → T (known ps xs a) → T (all (known ps xs) l) → Apart (numbered ps xs) a l
  numbers_apart a [] h k = tt
  numbers_apart a (b ∷ l) h k =
      let (k₁, k₂) = both (known ps xs b) (all (known ps xs) l) k in
      (same_number a b h k₁, numbers_apart a l h k₂)

  -- entering and withdrawing, by the numbers of names that exist
  pub enter_numbers : (l : List Assertion) (a : Assertion) → T (all (known ps xs) l) → T (known ps xs a)
      → map (numbered ps xs) (enter l a) ≡ enter_number (map (numbered ps xs) l) (numbered ps xs a)
  enter_numbers l a h k = enter_image (numbered ps xs) a l (numbers_apart a l k h)

  pub withdraw_numbers : (l : List Assertion) (a : Assertion) → T (all (known ps xs) l) → T (known ps xs a)
      → map (numbered ps xs) (withdraw l a) ≡ withdraw_number (map (numbered ps xs) l) (numbered ps xs a)
  withdraw_numbers l a h k = withdraw_image (numbered ps xs) a l (numbers_apart a l k h)

-- ---- names added last keep the numbers

pub position_last : (l m : List Name) (x : Name) → position l x < length l → position (l ++ m) x ≡ position l x
position_last [] m x h = absurd (not-suc-le-zero h)
position_last (y ∷ l) m x h = go (y ≟ x) h (position_last l m x)
  where
    go : (b : Bool) → (when b then 0 else suc (position l x)) < suc (length l) → (position l x < length l → position (l ++ m) x ≡ position l x)
        → (when b then 0 else suc (position (l ++ m) x)) ≡ (when b then 0 else suc (position l x))
    go true h f = refl
    go false h f = ap suc (f (le_of_suc-le-suc h))

module _ (ps qs xs ys : List Name) where
  number_last : (a : Assertion) → T (known ps xs a) → numbered (ps ++ qs) (xs ++ ys) a ≡ numbered ps xs a
  number_last a h =
      let (v, f, t) = three (member a.variable xs) (member a.from ps) (member a.to ps) h in
      let ev = position_last xs ys a.variable (position_lt xs a.variable v) in
      let ef = position_last ps qs a.from (position_lt ps a.from f) in
      let et = position_last ps qs a.to (position_lt ps a.to t) in
      λ i. pack (ev i) (ef i) (code a.right) (et i)

  pub numbers_last : (l : List Assertion) → T (all (known ps xs) l) → map (numbered (ps ++ qs) (xs ++ ys)) l ≡ map (numbered ps xs) l
  numbers_last [] h = refl
  numbers_last (a ∷ l) h =
      let (h₁, h₂) = both (known ps xs a) (all (known ps xs) l) h in
      λ i. number_last a h₁ i ∷ numbers_last l h₂ i
