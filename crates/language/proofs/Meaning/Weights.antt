-- What each change of a store does to its weight.
use mathlib.Core.Path.{◌≡◌, refl, sym, ap, subst}
use Prim.Native.Nat.{ℕ, ◌+◌}
use native.Mathlib.Omega.{arith}
use mathlib.Core.Bool.{Bool, true, false, ◌||◌, not}
use mathlib.Core.Option.{none, some}
use mathlib.Core.List.{List, [], ◌∷◌, ◌++◌, map}
use lib.ListN.{length}
use lib.Dec.{T, T_not}
use Rattle.language.specs.Text.{Text, when◌then◌else◌, ◌≟◌, sum, member, distinct}
use Rattle.language.specs.Syntax.{Name}
use Rattle.language.specs.State.{Value, Principal, Variable, Assertion, named, value_in, put, same_assertion, stands, enter, withdraw}
use Rattle.language.specs.Weight.{value_weight, password_weight, principal_weight, variable_weight, assertion_weight}
use Rattle.language.specs.Commands.{changed}
use Rattle.language.proofs.Logic.Tests.{both, left_of_lem, ==→≡, ==_refl}
use Rattle.language.proofs.Logic.Lists.{sum_append}
use Rattle.language.proofs.Meaning.Standing.{same_assertion_lem}
use Rattle.language.proofs.StateText.Names.{principal_names}

-- ---- variables

-- a new value in an old variable's place
pub put_old : (x : Name) (u v : Value) (vs : List Variable) → value_in vs x ≡ some u
    → sum variable_weight (put x v vs) + value_weight u ≡ sum variable_weight vs + value_weight v
put_old x u v [] e = let z : ◌≡◌ {A = ℕ} 0 1 = cc in omega arith
put_old x u v (w ∷ vs) e = go (w.name ≟ x) e (put_old x u v vs)
  where
    go : (b : Bool) → (when b then some w.value else value_in vs x) ≡ some u
        → (value_in vs x ≡ some u → sum variable_weight (put x v vs) + value_weight u ≡ sum variable_weight vs + value_weight v)
        → sum variable_weight (when b then record { name = w.name; value = v } ∷ vs else w ∷ put x v vs) + value_weight u ≡ sum variable_weight (w ∷ vs) + value_weight v
    go true e ih = let k : w.value ≡ u = cc in omega (arith, ap value_weight k)
    go false e ih = omega (arith, ih e)

-- a variable more
pub put_new : (x : Name) (v : Value) (vs : List Variable) → value_in vs x ≡ none
    → sum variable_weight (put x v vs) ≡ sum variable_weight vs + (1 + length x + value_weight v)
put_new x v [] e = omega arith
put_new x v (w ∷ vs) e = go (w.name ≟ x) e (put_new x v vs)
  where
    go : (b : Bool) → (when b then some w.value else value_in vs x) ≡ none
        → (value_in vs x ≡ none → sum variable_weight (put x v vs) ≡ sum variable_weight vs + (1 + length x + value_weight v))
        → sum variable_weight (when b then record { name = w.name; value = v } ∷ vs else w ∷ put x v vs) ≡ sum variable_weight (w ∷ vs) + (1 + length x + value_weight v)
    go true e ih = let z : ◌≡◌ {A = ℕ} 0 1 = cc in omega arith
    go false e ih = omega (arith, ih e)

-- ---- assertions

pub enter_weight : (l : List Assertion) (a : Assertion) → sum assertion_weight (enter l a) ≡ sum assertion_weight l + (when stands l a then 0 else assertion_weight a)
enter_weight l a = go (stands l a)
  where
    go : (b : Bool) → sum assertion_weight (when b then l else l ++ (a ∷ [])) ≡ sum assertion_weight l + (when b then 0 else assertion_weight a)
    go true = omega arith
    go false = omega (arith, sum_append assertion_weight l (a ∷ []))

pub withdraw_weight : (l : List Assertion) (a : Assertion) → T (stands l a) → sum assertion_weight (withdraw l a) + assertion_weight a ≡ sum assertion_weight l
withdraw_weight [] a h = absurd h
withdraw_weight (b ∷ l) a h = go (same_assertion a b) (same_assertion_lem a b) h (withdraw_weight l a)
  where
    go : (c : Bool) → (T c → a ≡ b) → T (c || stands l a) → (T (stands l a) → sum assertion_weight (withdraw l a) + assertion_weight a ≡ sum assertion_weight l)
        → sum assertion_weight (when c then l else b ∷ withdraw l a) + assertion_weight a ≡ sum assertion_weight (b ∷ l)
    go true e t ih = omega (arith, ap assertion_weight (e tt))
    go false e t ih = omega (arith, ih t)

-- ---- principals

-- a principal of another name is left as it was
changed_other : (p : Name) (t : Text) (ks : List Principal) → ¬ T (member p (principal_names ks)) → sum principal_weight (map (changed p t) ks) ≡ sum principal_weight ks
changed_other p t [] n = refl
changed_other p t (k ∷ ks) n =
    go (k.name ≟ p) (λ h. n (left_of_lem (p ≟ k.name) (member p (principal_names ks)) (subst (λ q. T (p ≟ q)) (sym (==→≡ k.name p h)) (==_refl p))))
    (changed_other p t ks (λ m. n (right (p ≟ k.name) m)))
  where
    right : (b : Bool) → T (member p (principal_names ks)) → T (b || member p (principal_names ks))
    right true m = tt
    right false m = m

    go : (b : Bool) → ¬ T b → sum principal_weight (map (changed p t) ks) ≡ sum principal_weight ks
        → principal_weight (record { name = k.name; password = when b then some t else k.password; count = k.count }) + sum principal_weight (map (changed p t) ks) ≡ sum principal_weight (k ∷ ks)
    go true f e = absurd (f tt)
    go false f e = omega (arith, e)

pub password_weight_lem : (p : Name) (t : Text) (k : Principal) (ks : List Principal) → T (distinct (principal_names ks)) → named ks p ≡ some k
    → sum principal_weight (map (changed p t) ks) + password_weight k.password ≡ sum principal_weight ks + length t
password_weight_lem p t k [] d e = let z : ◌≡◌ {A = ℕ} 0 1 = cc in omega arith
password_weight_lem p t k (l ∷ ks) d e =
    let (d₁, d₂) = both (not (member l.name (principal_names ks))) (distinct (principal_names ks)) d in
    go (l.name ≟ p) (==→≡ l.name p) (T_not (member l.name (principal_names ks)) d₁) e (password_weight_lem p t k ks d₂)
  where
    go : (b : Bool) → (T b → l.name ≡ p) → ¬ T (member l.name (principal_names ks)) → (when b then some l else named ks p) ≡ some k
        → (named ks p ≡ some k → sum principal_weight (map (changed p t) ks) + password_weight k.password ≡ sum principal_weight ks + length t)
        → principal_weight (record { name = l.name; password = when b then some t else l.password; count = l.count }) + sum principal_weight (map (changed p t) ks) + password_weight k.password
        ≡ sum principal_weight (l ∷ ks) + length t
    go true f n e ih =
        let i : l ≡ k = cc in
        let w : password_weight l.password ≡ password_weight k.password = ap (λ q. password_weight q.password) i in
        let o : sum principal_weight (map (changed p t) ks) ≡ sum principal_weight ks = changed_other p t ks (subst (λ q. ¬ T (member q (principal_names ks))) (f tt) n) in
        omega arith
    go false f n e ih = omega (arith, ih e)
