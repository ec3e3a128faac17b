-- A variable put, a principal added, a password changed: the names and what is valid of each.
use mathlib.Core.Path.{◌≡◌, refl, sym, ap, subst}
use mathlib.Core.Logic.{◌⊎◌, inl, inr}
use mathlib.Core.Bool.{Bool, true, false, ◌&&◌}
use mathlib.Core.Option.{none, some}
use mathlib.Core.List.{List, [], ◌∷◌, ◌++◌, map}
use lib.Dec.{T, leb}
use Rattle.language.specs.Text.{Text, when◌then◌else◌, ◌≟◌, all, member, distinct, present}
use Rattle.language.specs.Syntax.{Name}
use Rattle.language.specs.State.{Value, Principal, Variable, last_count, admin, anyone, named, value_in, put}
use Rattle.language.specs.Identifiers.{is_name, is_string}
use Rattle.language.specs.Valid.{has_password, valid_password, valid_principal, valid_order}
use Rattle.language.specs.Commands.{changed}
use Rattle.language.proofs.Logic.Tests.{both, and, three, four, map_all, and_three, one_of_lem, ==→≡, ==_refl, ==_sym, all_append, any_left, distinct_last}
use Rattle.language.proofs.StateText.Names.{principal_names, variable_names, is_named, named_is, is_valued, valued_is}

-- ---- variables

pub put_all : (f : Variable → Bool) (x : Name) (v : Value) (vs : List Variable) → T (f (record { name = x; value = v })) → T (all f vs) → T (all f (put x v vs))
put_all f x v [] h k = and (f (record { name = x; value = v })) true h tt
put_all f x v (w ∷ vs) h k =
    let (k₁, k₂) = both (f w) (all f vs) k in
    go (w.name ≟ x) (==→≡ w.name x) k₁ k₂ (put_all f x v vs h k₂)
  where
    go : (b : Bool) → (T b → w.name ≡ x) → T (f w) → T (all f vs) → T (all f (put x v vs))
        → T (all f (when b then record { name = w.name; value = v } ∷ vs else w ∷ put x v vs))
    go true e k₁ k₂ ih = and (f (record { name = w.name; value = v })) (all f vs) (subst (λ y. T (f (record { name = y; value = v }))) (sym (e tt)) h) k₂
    go false e k₁ k₂ ih = and (f w) (all f (put x v vs)) k₁ ih

-- the names after: the same, or x last
pub put_names : (x : Name) (v : Value) (vs : List Variable)
    → (variable_names (put x v vs) ≡ variable_names vs) ⊎ ((¬ T (member x (variable_names vs))) × (variable_names (put x v vs) ≡ variable_names vs ++ (x ∷ [])))
put_names x v [] = inr ((λ h. h), refl)
put_names x v (w ∷ vs) = go (w.name ≟ x) (==_sym x w.name) (put_names x v vs)
  where
    go : (b : Bool) → (T (x ≟ w.name) → T b)
        → (variable_names (put x v vs) ≡ variable_names vs) ⊎ ((¬ T (member x (variable_names vs))) × (variable_names (put x v vs) ≡ variable_names vs ++ (x ∷ [])))
        → (variable_names (when b then record { name = w.name; value = v } ∷ vs else w ∷ put x v vs) ≡ variable_names (w ∷ vs))
        ⊎ ((¬ T (member x (variable_names (w ∷ vs)))) × (variable_names (when b then record { name = w.name; value = v } ∷ vs else w ∷ put x v vs) ≡ variable_names (w ∷ vs) ++ (x ∷ [])))
    go true f ih = inl refl
    go false f (inl e) = inl (ap (λ l. w.name ∷ l) e)
    go false f (inr (n, e)) = inr (
      (λ h. elim (one_of_lem (x ≟ w.name) (member x (variable_names vs)) h) [ inl t ↦ f t | inr t ↦ n t ]),
      ap (λ l. w.name ∷ l) e,
    )

pub put_distinct : (x : Name) (v : Value) (vs : List Variable) → T (distinct (variable_names vs)) → T (distinct (variable_names (put x v vs)))
put_distinct x v vs d = elim (put_names x v vs) [
  | inl e ↦ subst (λ l. T (distinct l)) (sym e) d
  | inr h ↦ subst (λ l. T (distinct l)) (sym h.1) (distinct_last (variable_names vs) x d h.0)
]

pub put_keeps : (x : Name) (v : Value) (vs : List Variable) (y : Name) → T (present (value_in vs y)) → T (present (value_in (put x v vs) y))
put_keeps x v vs y h = is_valued y (put x v vs) (elim (put_names x v vs) [
  | inl e ↦ subst (λ l. T (member y l)) (sym e) (valued_is y vs h)
  | inr k ↦ subst (λ l. T (member y l)) (sym k.1) (any_left (λ z. y ≟ z) (variable_names vs) (x ∷ []) (valued_is y vs h))
])

pub put_there : (x : Name) (v : Value) (vs : List Variable) → T (present (value_in (put x v vs) x))
put_there x v [] = go (x ≟ x) (==_refl x)
  where
    go : (b : Bool) → T b → T (present (when b then some v else none))
    go true t = tt
    go false t = t
put_there x v (w ∷ vs) = go (w.name ≟ x) refl (put_there x v vs)
  where
    go : (b : Bool) → w.name ≟ x ≡ b → T (present (value_in (put x v vs) x))
        → T (present (value_in (when b then record { name = w.name; value = v } ∷ vs else w ∷ put x v vs) x))
    go true e ih = subst (λ c. T (present (when c then some v else value_in vs x))) (sym e) tt
    go false e ih = subst (λ c. T (present (when c then some w.value else value_in (put x v vs) x))) (sym e) ih

-- ---- principals

pub added_keeps : (ks : List Principal) (k : Principal) (p : Name) → T (present (named ks p)) → T (present (named (ks ++ (k ∷ [])) p))
added_keeps [] k p h = absurd h
added_keeps (l ∷ ks) k p h = go (l.name ≟ p) (added_keeps ks k p) h
  where
    go : (b : Bool) → (T (present (named ks p)) → T (present (named (ks ++ (k ∷ [])) p)))
        → T (present (when b then some l else named ks p)) → T (present (when b then some l else named (ks ++ (k ∷ [])) p))
    go true ih t = tt
    go false ih t = ih t

pub added_there : (ks : List Principal) (k : Principal) → T (present (named (ks ++ (k ∷ [])) k.name))
added_there [] k = go (k.name ≟ k.name) (==_refl k.name)
  where
    go : (b : Bool) → T b → T (present (when b then some k else none))
    go true t = tt
    go false t = t
added_there (l ∷ ks) k = go (l.name ≟ k.name) (added_there ks k)
  where
    go : (b : Bool) → T (present (named (ks ++ (k ∷ [])) k.name)) → T (present (when b then some l else named (ks ++ (k ∷ [])) k.name))
    go true ih = tt
    go false ih = ih

pub added_names : (ks : List Principal) (k : Principal) → principal_names (ks ++ (k ∷ [])) ≡ principal_names ks ++ (k.name ∷ [])
added_names [] k = refl
added_names (l ∷ ks) k = ap (λ n. l.name ∷ n) (added_names ks k)

pub added_order : (ks : List Principal) (k : Principal) → T (has_password k) → T (valid_order ks) → T (valid_order (ks ++ (k ∷ [])))
added_order [] k h o = absurd o
added_order (a ∷ []) k h o = absurd o
added_order (a ∷ b ∷ ks) k h o =
    let (o₁, o₂) = both ((a.name ≟ admin) && has_password a && (b.name ≟ anyone)) (all has_password ks) o in
    and ((a.name ≟ admin) && has_password a && (b.name ≟ anyone)) (all has_password (ks ++ (k ∷ []))) o₁
    (all_append has_password ks (k ∷ []) o₂ (and (has_password k) true h tt))

pub changed_names : (p : Name) (t : Text) (ks : List Principal) → principal_names (map (changed p t) ks) ≡ principal_names ks
changed_names p t [] = refl
changed_names p t (k ∷ ks) = ap (λ n. k.name ∷ n) (changed_names p t ks)

pub changed_keeps : (p : Name) (t : Text) (ks : List Principal) (q : Name) → T (present (named ks q)) → T (present (named (map (changed p t) ks) q))
changed_keeps p t ks q h = is_named q (map (changed p t) ks) (subst (λ l. T (member q l)) (sym (changed_names p t ks)) (named_is q ks h))

pub changed_has : (p : Name) (t : Text) (k : Principal) → T (has_password k) → T (has_password (changed p t k))
changed_has p t k h = go (k.name ≟ p) h
  where
    go : (b : Bool) → T (has_password k) → T (present (when b then some t else k.password))
    go true h = tt
    go false h = h

pub changed_valid : (p : Name) (t : Text) → T (is_string t) → (k : Principal) → T (valid_principal k) → T (valid_principal (changed p t k))
changed_valid p t s k h =
    let (h₁, h₂, h₃) = three (is_name k.name) (valid_password k.password) (leb k.count last_count) h in
    and_three (is_name k.name) (valid_password (changed p t k).password) (leb k.count last_count) h₁ (go (k.name ≟ p) h₂) h₃
  where
    go : (b : Bool) → T (valid_password k.password) → T (valid_password (when b then some t else k.password))
    go true h = s
    go false h = h

pub changed_order : (p : Name) (t : Text) (ks : List Principal) → T (valid_order ks) → T (valid_order (map (changed p t) ks))
changed_order p t [] o = o
changed_order p t (a ∷ []) o = o
changed_order p t (a ∷ b ∷ ks) o =
    let (n, h, m, r) = four (a.name ≟ admin) (has_password a) (b.name ≟ anyone) (all has_password ks) o in
    and ((a.name ≟ admin) && has_password (changed p t a) && (b.name ≟ anyone)) (all has_password (map (changed p t) ks))
    (and_three (a.name ≟ admin) (has_password (changed p t a)) (b.name ≟ anyone) n (changed_has p t a h) m)
    (map_all has_password has_password (changed p t) (changed_has p t) ks r)
