-- What records weigh at least, so that a state has few of them; and admin and anyone, whom every state has.
use Prim.Native.Nat.{ℕ, ◌*◌, ◌≤◌}
use native.Mathlib.Omega.{arith}
use mathlib.Core.Bool.{Bool, true, false, ◌||◌}
use mathlib.Core.List.{List, [], ◌∷◌}
use lib.Dec.{T, leb}
use lib.ListN.{length}
use Rattle.language.specs.Text.{when◌then◌else◌, ◌≟◌, all, sum}
use Rattle.language.specs.Syntax.{Name}
use Rattle.language.specs.Identifiers.{is_name}
use Rattle.language.specs.State.{Principal, Variable, Assertion, last_count, admin, anyone}
use Rattle.language.specs.Weight.{name_weight, principal_weight, variable_weight, assertion_weight}
use Rattle.language.specs.Valid.{valid_principal, valid_password, valid_variable, valid_value, valid_order}
use Rattle.language.proofs.Logic.Tests.{both, three}
use Rattle.language.proofs.StateText.Clean.{name_length}
use Rattle.language.proofs.StateText.Shape.{spelled}

-- each weighs k at least, so n of them weigh k * n
at_least : {A : Type 0} (k : ℕ) (fine : A → Bool) (weight : A → ℕ) → ((a : A) → T (fine a) → k ≤ weight a)
    → (l : List A) → T (all fine l) → k * length l ≤ sum weight l
at_least k fine weight f [] h = omega arith
at_least k fine weight f (a ∷ l) h =
    let (h₁, h₂) = both (fine a) (all fine l) h in
    omega (arith, f a h₁, at_least k fine weight f l h₂)

pub name_weighs : (p : Name) → T (is_name p) → 1 ≤ name_weight p
name_weighs p h = go ((p ≟ admin) || (p ≟ anyone)) (name_length p h).0
  where
    go : (b : Bool) → 1 ≤ length p → 1 ≤ (when b then 1 else length p)
    go true l = omega arith
    go false l = l

pub principals_weigh : (ks : List Principal) → T (all valid_principal ks) → 12 * length ks ≤ sum principal_weight ks
principals_weigh =
    at_least 12 valid_principal principal_weight
    (λ k h. omega (arith, name_weighs k.name (three (is_name k.name) (valid_password k.password) (leb k.count last_count) h).0))

pub variables_weigh : (vs : List Variable) → T (all valid_variable vs) → 2 * length vs ≤ sum variable_weight vs
variables_weigh =
    at_least 2 valid_variable variable_weight (λ w h. omega (arith, (name_length w.name (both (is_name w.name) (valid_value w.value) h).0).0))

pub assertions_weigh : (l : List Assertion) → T (all spelled l) → 4 * length l ≤ sum assertion_weight l
assertions_weigh =
    at_least 4 spelled assertion_weight (λ a h.
    let (x, q, p) = three (is_name a.variable) (is_name a.from) (is_name a.to) h in
    omega (arith, (name_length a.variable x).0, name_weighs a.from q, name_weighs a.to p))

-- admin and anyone
pub two_principals : (ks : List Principal) → T (valid_order ks) → 2 ≤ length ks
two_principals [] h = absurd h
two_principals (k ∷ []) h = absurd h
two_principals (k ∷ l ∷ ks) h = omega arith
