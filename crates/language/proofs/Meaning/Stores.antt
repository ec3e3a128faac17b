-- What commands do to a store keeps it well formed.
use mathlib.Core.Path.{sym, subst}
use mathlib.Core.Bool.{Bool, true, false, ◌&&◌}
use mathlib.Core.Option.{some}
use mathlib.Core.List.{List, [], ◌∷◌, ◌++◌, map}
use lib.Dec.{T}
use Rattle.language.specs.Text.{Text, when◌then◌else◌, ◌≟◌, all, keep, member, distinct, present}
use Rattle.language.specs.Syntax.{Name, Right, rights, delegate}
use Rattle.language.specs.State.{Value, Principal, Variable, Assertion, Store, named, value_in, put}
use Rattle.language.specs.Chains.{has}
use Rattle.language.specs.Identifiers.{is_name, is_string}
use Rattle.language.specs.Valid.{valid_principal, valid_order, valid_value, valid_variable, valid_assertion}
use Rattle.language.specs.Commands.{with_principal, delegations, with_principals, with_delegator, with_variables, with_assertions, closed, assertions_on, entering, withdrawing, enter_all, withdraw_all, delegable, created, changed}
use Rattle.language.proofs.Logic.Tests.{both, and, three, map_all, and_three, left_of_lem, right_of, ==_refl, all_map, all_append, distinct_last}
use Rattle.language.proofs.StateText.Names.{principal_names, variable_names, is_named, is_valued}
use Rattle.language.proofs.StateText.Shape.{Shape}
use Rattle.language.proofs.Meaning.Standing.{Fit, entering_fit, withdrawing_fit}
use Rattle.language.proofs.Meaning.Adding.{put_all, put_distinct, put_keeps, added_keeps, added_there, added_names, added_order, changed_keeps, changed_names, changed_valid, changed_order}

module _ (s : Store) (g : Shape s) where
  fit : Fit (valid_assertion s) s.assertions
  fit = record { each_fits = g.assertions_valid; none_twice = g.assertions_unrepeated }

  with_assertions_lem : (l : List Assertion) → Fit (valid_assertion s) l → Shape (with_assertions s l)
  with_assertions_lem l h = record {
    order = g.order;
    principals_valid = g.principals_valid;
    principals_distinct = g.principals_distinct;
    delegator_known = g.delegator_known;
    variables_valid = g.variables_valid;
    variables_distinct = g.variables_distinct;
    assertions_valid = h.each_fits;
    assertions_unrepeated = h.none_twice;
  }

  pub enter_shape : (l : List Assertion) → T (all (valid_assertion s) l) → Shape (enter_all s l)
  enter_shape l h = with_assertions_lem (entering s.assertions l) (entering_fit (valid_assertion s) s.assertions l fit h)

  pub withdraw_shape : (l : List Assertion) → Shape (withdraw_all s l)
  withdraw_shape l = with_assertions_lem (withdrawing s.assertions l) (withdrawing_fit (valid_assertion s) s.assertions l fit)

  pub closed_shape : Shape (closed s)
  closed_shape = record {
    order = g.order;
    principals_valid = g.principals_valid;
    principals_distinct = g.principals_distinct;
    delegator_known = g.delegator_known;
    variables_valid = g.variables_valid;
    variables_distinct = g.variables_distinct;
    assertions_valid = g.assertions_valid;
    assertions_unrepeated = g.assertions_unrepeated;
  }

  pub delegator_shape : (p : Name) → T (present (named s.principals p)) → Shape (with_delegator s p)
  delegator_shape p h = record {
    order = g.order;
    principals_valid = g.principals_valid;
    principals_distinct = g.principals_distinct;
    delegator_known = h;
    variables_valid = g.variables_valid;
    variables_distinct = g.variables_distinct;
    assertions_valid = g.assertions_valid;
    assertions_unrepeated = g.assertions_unrepeated;
  }

  pub principals_shape : (ks : List Principal) → T (valid_order ks) → T (all valid_principal ks) → T (distinct (principal_names ks))
      → ((p : Name) → T (present (named s.principals p)) → T (present (named ks p))) → Shape (with_principals s ks)
  principals_shape ks o v d m = record {
    order = o;
    principals_valid = v;
    principals_distinct = d;
    delegator_known = m s.delegator g.delegator_known;
    variables_valid = g.variables_valid;
    variables_distinct = g.variables_distinct;
    assertions_valid = all_map (valid_assertion s) (valid_assertion (with_principals s ks)) one s.assertions g.assertions_valid;
    assertions_unrepeated = g.assertions_unrepeated;
  }
    where
      one : (a : Assertion) → T (valid_assertion s a) → T (valid_assertion (with_principals s ks) a)
      one a h =
          let (x, q, p) = three (present (value_in s.variables a.variable)) (present (named s.principals a.from)) (present (named s.principals a.to)) h in
          and_three (present (value_in s.variables a.variable)) (present (named ks a.from)) (present (named ks a.to)) x (m a.from q) (m a.to p)

  variables_shape : (vs : List Variable) → T (all valid_variable vs) → T (distinct (variable_names vs))
      → ((x : Name) → T (present (value_in s.variables x)) → T (present (value_in vs x))) → Shape (with_variables s vs)
  variables_shape vs v d m = record {
    order = g.order;
    principals_valid = g.principals_valid;
    principals_distinct = g.principals_distinct;
    delegator_known = g.delegator_known;
    variables_valid = v;
    variables_distinct = d;
    assertions_valid = all_map (valid_assertion s) (valid_assertion (with_variables s vs)) one s.assertions g.assertions_valid;
    assertions_unrepeated = g.assertions_unrepeated;
  }
    where
      one : (a : Assertion) → T (valid_assertion s a) → T (valid_assertion (with_variables s vs) a)
      one a h =
          let (x, q, p) = three (present (value_in s.variables a.variable)) (present (named s.principals a.from)) (present (named s.principals a.to)) h in
          and_three (present (value_in vs a.variable)) (present (named s.principals a.from)) (present (named s.principals a.to)) (m a.variable x) q p

pub put_shape : (s : Store) → Shape s → (x : Name) (v : Value) → T (is_name x) → T (valid_value v) → Shape (with_variables s (put x v s.variables))
put_shape s g x v h k =
    variables_shape s g (put x v s.variables) (put_all valid_variable x v s.variables (and (is_name x) (valid_value v) h k) g.variables_valid)
    (put_distinct x v s.variables g.variables_distinct) (put_keeps x v s.variables)

pub added_shape : (s : Store) → Shape s → (p : Name) (t : Text) → T (is_name p) → T (is_string t) → ¬ T (present (named s.principals p))
    → Shape (with_principal s p t)
added_shape s g p t h k n =
    principals_shape s g (s.principals ++ (new ∷ [])) (added_order s.principals new tt g.order)
    (all_append valid_principal s.principals (new ∷ []) g.principals_valid (and (is_name p && is_string t && true) true (and (is_name p && is_string t) true (and (is_name p) (is_string t) h k) tt) tt))
    (subst (λ l. T (distinct l)) (sym (added_names s.principals new)) (distinct_last (principal_names s.principals) p g.principals_distinct (λ m. n (is_named p s.principals m))))
    (added_keeps s.principals new)
  where
    new : Principal
    new = record { name = p; password = some t; count = 0 }

pub changed_shape : (s : Store) → Shape s → (p : Name) (t : Text) → T (is_string t) → Shape (with_principals s (map (changed p t) s.principals))
changed_shape s g p t h =
    principals_shape s g (map (changed p t) s.principals) (changed_order p t s.principals g.order)
    (map_all valid_principal valid_principal (changed p t) (changed_valid p t h) s.principals g.principals_valid)
    (subst (λ l. T (distinct l)) (sym (changed_names p t s.principals)) g.principals_distinct) (changed_keeps p t s.principals)

-- ---- `all`

pub on_valid : (s : Store) (xs : List Name) (q : Name) (r : Right) (p : Name) → T (all (λ x. present (value_in s.variables x)) xs)
    → T (present (named s.principals q)) → T (present (named s.principals p)) → T (all (valid_assertion s) (assertions_on xs q r p))
on_valid s [] q r p h k l = tt
on_valid s (x ∷ xs) q r p h k l =
    let (h₁, h₂) = both (present (value_in s.variables x)) (all (λ x. present (value_in s.variables x)) xs) h in
    and (present (value_in s.variables x) && present (named s.principals q) && present (named s.principals p)) (all (valid_assertion s) (assertions_on xs q r p))
    (and_three (present (value_in s.variables x)) (present (named s.principals q)) (present (named s.principals p)) h₁ k l)
    (on_valid s xs q r p h₂ k l)

-- the names of a list that pass a test are names of the list
keep_there : (f : Name → Bool) (vs all_of : List Variable) → ((x : Name) → T (member x (variable_names vs)) → T (present (value_in all_of x)))
    → T (all (λ x. present (value_in all_of x)) (keep f (variable_names vs)))
keep_there f [] a h = tt
keep_there f (v ∷ vs) a h =
    go (f v.name) (h v.name (left_of_lem (v.name ≟ v.name) (member v.name (variable_names vs)) (==_refl v.name)))
    (keep_there f vs a (λ x m. h x (right_of (x ≟ v.name) (member x (variable_names vs)) m)))
  where
    go : (b : Bool) → T (present (value_in a v.name)) → T (all (λ x. present (value_in a x)) (keep f (variable_names vs)))
        → T (all (λ x. present (value_in a x)) (when b then v.name ∷ keep f (variable_names vs) else keep f (variable_names vs)))
    go true t ih = and (present (value_in a v.name)) (all (λ x. present (value_in a x)) (keep f (variable_names vs))) t ih
    go false t ih = ih

pub delegable_there : (s : Store) (q : Name) → T (all (λ x. present (value_in s.variables x)) (delegable s q))
delegable_there s q = keep_there (λ x. has s delegate x q) s.variables s.variables (λ x m. is_valued x s.variables m)

pub delegations_valid : (rs : List Right) (s : Store) (q p : Name) → T (present (named s.principals q)) → T (present (named s.principals p))
    → T (all (valid_assertion s) (delegations rs s q p))
delegations_valid [] s q p h k = tt
delegations_valid (r ∷ rs) s q p h k =
    let l = assertions_on (delegable s q) q r p in
    all_append (valid_assertion s) l (delegations rs (enter_all s l) q p) (on_valid s (delegable s q) q r p (delegable_there s q) h k) (delegations_valid rs (enter_all s l) q p h k)

pub created_shape : (s : Store) → Shape s → (p : Name) (t : Text) → T (is_name p) → T (is_string t) → ¬ T (present (named s.principals p)) → Shape (created s p t)
created_shape s g p t h k n =
    enter_shape (with_principal s p t) (added_shape s g p t h k n) (delegations rights (with_principal s p t) s.delegator p)
    (delegations_valid rights (with_principal s p t) s.delegator p
    (added_keeps s.principals (record { name = p; password = some t; count = 0 }) s.delegator g.delegator_known)
    (added_there s.principals (record { name = p; password = some t; count = 0 })))
