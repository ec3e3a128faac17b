-- The marks of everyone by numbers are the lengths of everyone's chains by names: the i-th principal has the number i.
use mathlib.Core.Path.{◌≡◌, refl, sym, subst, ◌∙◌}
use Prim.Native.Nat.{ℕ, suc, ◌<◌}
use native.Mathlib.Omega.{arith}
use mathlib.Core.List.{List, [], ◌∷◌, map}
use lib.Dec.{T}
use lib.ListN.{length, get_or, take}
use Rattle.language.specs.Syntax.{Name, Right}
use Rattle.language.specs.State.{Store}
use Rattle.language.specs.Valid.{valid_store}
use Rattle.language.specs.Chains.{chain_length}
use Rattle.chains.specs.Chain.{Asked, asked}
use Rattle.chains.specs.Rounds.{Everyone, answer_of}
use Rattle.assertion.specs.Packed.{fields}
use Rattle.named_rights.specs.Numbers.{principals_of, Standing, Asks, AsksAll, length_marked}
use Rattle.named_rights.proofs.Places.{member_at, position_own}
use Rattle.named_rights.proofs.Few.{store_shape}
use Rattle.named_rights.proofs.Chains.{says}

-- two lists whose elements say the same, one by one
same_said : {A B C : Type 0} (f : A → C) (g : B → C) (a : A) (b : B) (l : List A) (m : List B) → length l ≡ length m
    → ((i : ℕ) → i < length l → f (get_or l i a) ≡ g (get_or m i b)) → map f l ≡ map g m
same_said f g a b [] [] e h = refl
same_said f g a b [] (y ∷ m) e h = absurd (omega arith)
same_said f g a b (x ∷ l) [] e h = absurd (omega arith)
same_said f g a b (x ∷ l) (y ∷ m) e h =
    let first : f x ≡ g y = h 0 (omega arith) in
    let rest = same_said f g a b l m (omega arith) (λ i lt. h (suc i) (omega arith)) in
    λ j. first j ∷ rest j

-- what everyone's marks say of a store
module _ (s : Store) (r : Right) (x : Name) (n count variable right : ℕ) (assertions : List ℕ) (v : T (valid_store s)) (t : Standing s n assertions) (q : AsksAll s r x count variable right) where
  -- the i-th principal is asked about by its number
  asks_each : (i : ℕ) → i < count → Asks s r x (get_or (principals_of s) i []) count variable right i
  asks_each i lt = record {
    everyone = q.everyone;
    variable_known = q.variable_known;
    variable_is = q.variable_is;
    right_is = q.right_is;
    principal_known = member_at (principals_of s) i (omega (arith, q.everyone));
    principal_is = sym (position_own (principals_of s) i (store_shape s v).principals_distinct (omega (arith, q.everyone)));
  }

  -- the marks l, by the numbers `held` and for the right k
  pub says_all : (l held : List ℕ) (k : ℕ) → Everyone (asked (map fields held) count variable k) l → held ≡ take n assertions → k ≡ right → map length_marked l ≡ map (chain_length s r x) (principals_of s)
  says_all l held k h these same =
      let a : asked (map fields held) count variable k ≡ asked (map fields (take n assertions)) count variable right = λ i. asked (map fields (these i)) count variable (same i) in
      let e : Everyone (asked (map fields (take n assertions)) count variable right) l = subst (λ (b : Asked). Everyone b l) a h in
      same_said length_marked (chain_length s r x) 0 [] l (principals_of s) (e.size ∙ q.everyone)
      (λ i lt. says s r x (get_or (principals_of s) i []) n count variable right i assertions (answer_of (get_or l i 0)) v t (asks_each i (omega (arith, e.size))) (e.answers i (omega (arith, e.size))))
