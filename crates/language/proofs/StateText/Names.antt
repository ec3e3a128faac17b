-- A name is found in a list of principals or variables exactly where it is one of their names; and then it is an identifier.
use mathlib.Core.Path.{sym, subst}
use mathlib.Core.Logic.{inl, inr}
use mathlib.Core.Bool.{Bool, true, false, ◌||◌}
use mathlib.Core.Option.{some}
use mathlib.Core.List.{List, [], ◌∷◌, map}
use lib.Dec.{T, leb}
use Rattle.language.specs.Text.{when◌then◌else◌, ◌≟◌, all, member, present}
use Rattle.language.specs.Syntax.{Name}
use Rattle.language.specs.State.{Principal, Variable, last_count, named, value_in}
use Rattle.language.specs.Identifiers.{is_name}
use Rattle.language.specs.Valid.{valid_principal, valid_password, valid_variable, valid_value}
use Rattle.language.proofs.Logic.Tests.{both, and, three, one_of_lem, left_of_lem, right_of, ==→≡, ==_refl, ==_sym}

abbrev pub principal_names : List Principal → List Name
principal_names = map (λ k. k.name)

abbrev pub variable_names : List Variable → List Name
variable_names = map (λ v. v.name)

pub is_named : (p : Name) (ks : List Principal) → T (member p (map (λ k. k.name) ks)) → T (present (named ks p))
is_named p [] h = absurd h
is_named p (k ∷ ks) h = go (k.name ≟ p) (p ≟ k.name) (λ t. subst (λ q. T (q ≟ p)) (==→≡ p k.name t) (==_refl p)) (is_named p ks) h
  where
    go : (b c : Bool) → (T c → T b) → (T (member p (map (λ k. k.name) ks)) → T (present (named ks p)))
        → T (c || member p (map (λ k. k.name) ks)) → T (present (when b then some k else named ks p))
    go true c f ih t = tt
    go false true f ih t = absurd (f tt)
    go false false f ih t = ih t

pub named_is : (p : Name) (ks : List Principal) → T (present (named ks p)) → T (member p (map (λ k. k.name) ks))
named_is p [] h = absurd h
named_is p (k ∷ ks) h = go (k.name ≟ p) (λ t. subst (λ q. T (p ≟ q)) (sym (==→≡ k.name p t)) (==_refl p)) (named_is p ks) h
  where
    go : (b : Bool) → (T b → T (p ≟ k.name)) → (T (present (named ks p)) → T (member p (map (λ k. k.name) ks)))
        → T (present (when b then some k else named ks p)) → T ((p ≟ k.name) || member p (map (λ k. k.name) ks))
    go true f ih t = left_of_lem (p ≟ k.name) (member p (map (λ k. k.name) ks)) (f tt)
    go false f ih t = right_of (p ≟ k.name) (member p (map (λ k. k.name) ks)) (ih t)

pub is_valued : (x : Name) (vs : List Variable) → T (member x (variable_names vs)) → T (present (value_in vs x))
is_valued x [] h = absurd h
is_valued x (v ∷ vs) h = go (v.name ≟ x) (x ≟ v.name) (==_sym x v.name) (is_valued x vs) h
  where
    go : (b c : Bool) → (T c → T b) → (T (member x (variable_names vs)) → T (present (value_in vs x)))
        → T (c || member x (variable_names vs)) → T (present (when b then some v.value else value_in vs x))
    go true c f ih t = tt
    go false true f ih t = absurd (f tt)
    go false false f ih t = ih t

pub valued_is : (x : Name) (vs : List Variable) → T (present (value_in vs x)) → T (member x (variable_names vs))
valued_is x [] h = absurd h
valued_is x (v ∷ vs) h = go (v.name ≟ x) (==_sym v.name x) (valued_is x vs) h
  where
    go : (b : Bool) → (T b → T (x ≟ v.name)) → (T (present (value_in vs x)) → T (member x (variable_names vs)))
        → T (present (when b then some v.value else value_in vs x)) → T (member x (variable_names (v ∷ vs)))
    go true f ih t = left_of_lem (x ≟ v.name) (member x (variable_names vs)) (f tt)
    go false f ih t = right_of (x ≟ v.name) (member x (variable_names vs)) (ih t)

-- a member of a list has what all its members have
pub member_all : (f : Name → Bool) (x : Name) (l : List Name) → T (all f l) → T (member x l) → T (f x)
member_all f x [] h m = absurd m
member_all f x (y ∷ l) h m =
    let (h₁, h₂) = both (f y) (all f l) h in
    elim (one_of_lem (x ≟ y) (member x l) m) [
      | inl t ↦ subst (λ z. T (f z)) (sym (==→≡ x y t)) h₁
      | inr t ↦ member_all f x l h₂ t
    ]

pub principal_name : (p : Name) (ks : List Principal) → T (all valid_principal ks) → T (present (named ks p)) → T (is_name p)
principal_name p ks h t = member_all is_name p (principal_names ks) (identifiers ks h) (named_is p ks t)
  where
    identifiers : (ks : List Principal) → T (all valid_principal ks) → T (all is_name (principal_names ks))
    identifiers [] h = tt
    identifiers (k ∷ ks) h =
        let (h₁, h₂) = both (valid_principal k) (all valid_principal ks) h in
        and (is_name k.name) (all is_name (principal_names ks)) (three (is_name k.name) (valid_password k.password) (leb k.count last_count) h₁).0 (identifiers ks h₂)

pub variable_name : (x : Name) (vs : List Variable) → T (all valid_variable vs) → T (present (value_in vs x)) → T (is_name x)
variable_name x vs h t = member_all is_name x (variable_names vs) (identifiers vs h) (valued_is x vs t)
  where
    identifiers : (vs : List Variable) → T (all valid_variable vs) → T (all is_name (variable_names vs))
    identifiers [] h = tt
    identifiers (v ∷ vs) h =
        let (h₁, h₂) = both (valid_variable v) (all valid_variable vs) h in
        and (is_name v.name) (all is_name (variable_names vs)) (both (is_name v.name) (valid_value v.value) h₁).0 (identifiers vs h₂)
