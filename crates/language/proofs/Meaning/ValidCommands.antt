-- A valid command leaves a good session, whatever it does.
use mathlib.Core.Bool.{Bool, true, false, ◌&&◌, not}
use mathlib.Core.Option.{none, some}
use mathlib.Core.List.{List, [], ◌∷◌, map}
use lib.Dec.{T, T_not}
use Rattle.language.specs.Text.{when◌then◌else◌, ◌≟◌, all, present}
use Rattle.language.specs.Syntax.{Name, Right, rights, Command, create_principal, change_password, set, append_to, local, foreach, filtereach, set_delegation, delete_delegation, default_delegator, exit, return}
use Rattle.language.specs.State.{Element, Value, single, list, Principal, Variable, Assertion, Store, admin, anyone, named, value_in, put}
use Rattle.language.specs.Identifiers.{is_identifier, is_name, is_string}
use Rattle.language.specs.Valid.{has_password, valid_order, valid_element, valid_assertion}
use Rattle.language.specs.Outcomes.{each_of}
use Rattle.language.specs.Values.{Session, is_shared, is_local, is_defined, is_principal, lookup, as_list, list_of}
use Rattle.language.specs.Expressions.{value}
use Rattle.language.specs.Commands.{with_store, with_locals, with_principals, with_variables, with_delegator, closed, enter_all, withdraw_all, assertions_on, targets, created, changed, granted, assign, extend, elements, replaced, filtered, flat, Effect, effect}
use Rattle.language.proofs.Parsing.ValidPrograms.{valid_expr, valid_command}
use Rattle.language.proofs.Logic.Tests.{both, and, three, and_three, all_append}
use Rattle.language.proofs.Logic.Outcomes.{Where, bind_where, if_where}
use Rattle.language.proofs.Logic.Giving.{Giving, bind_giving, bind_from, provided_giving, each_of_giving}
use Rattle.language.proofs.StateText.Shape.{Shape}
use Rattle.language.proofs.StateText.Clean.{identifier_name}
use Rattle.language.proofs.Meaning.ValidValues.{holding, Good, IsValid, list_valid, lookup_valid, value_valid, replaced_valid, filtered_valid, flat_valid}
use Rattle.language.proofs.Meaning.Adding.{put_all, put_there, changed_keeps, added_keeps}
use Rattle.language.proofs.Meaning.Stores.{enter_shape, withdraw_shape, closed_shape, delegator_shape, put_shape, changed_shape, on_valid, created_shape}

abbrev pub Keeps : Effect → Type 0
Keeps f = Good f.after

pub admin_known : (ks : List Principal) → T (valid_order ks) → T (present (named ks admin))
admin_known [] o = absurd o
admin_known (k ∷ []) o = absurd o
admin_known (k ∷ l ∷ ks) o =
    let (h, r) = both ((k.name ≟ admin) && has_password k && (l.name ≟ anyone)) (all has_password ks) o in
    go (k.name ≟ admin) (three (k.name ≟ admin) (has_password k) (l.name ≟ anyone) h).0
  where
    go : (b : Bool) → T b → T (present (when b then some k else named (l ∷ ks) admin))
    go true t = tt
    go false t = absurd t

extend_valid : (es : List Element) (v : Value) → T (all valid_element es) → IsValid v → T (all valid_element (extend es v))
extend_valid es (single e) h k = all_append valid_element es (e ∷ []) h (and (valid_element e) true k tt)
extend_valid es (list fs) h k = all_append valid_element es fs h k

map_valid : (f : Assertion → Bool) (m : Right → Assertion) → ((r : Right) → T (f (m r))) → (rs : List Right) → T (all f (map m rs))
map_valid f m h [] = tt
map_valid f m h (r ∷ rs) = and (f (m r)) (all f (map m rs)) (h r) (map_valid f m h rs)

module _ (s : Session) (g : Good s) where
  -- the store changes, and the sender stays a principal
  with_store_lem : (t : Store) → Shape t → T (present (named t.principals s.sender)) → Good (with_store s t)
  with_store_lem t h k = record { store_shape = h; locals_valid = g.locals_valid; sender_known = k }

  put_local : (x : Name) (v : Value) → IsValid v → Good (with_locals s (put x v s.locals))
  put_local x v h = record { store_shape = g.store_shape; locals_valid = put_all holding x v s.locals h g.locals_valid; sender_known = g.sender_known }

  granted_valid : (x : Name) (vs : List Variable) → T (present (value_in vs x)) → T (all (valid_assertion (with_variables s.store vs)) (granted s x))
  granted_valid x vs h = go (s.sender ≟ admin)
    where
      go : (b : Bool) → T (all (valid_assertion (with_variables s.store vs))
          (when b then [] else map (λ r. record { variable = x; from = admin; right = r; to = s.sender }) rights))
      go true = tt
      go false = map_valid (valid_assertion (with_variables s.store vs)) (λ r. record { variable = x; from = admin; right = r; to = s.sender })
          (λ r. and_three (present (value_in vs x)) (present (named s.store.principals admin)) (present (named s.store.principals s.sender))
          h (admin_known s.store.principals g.store_shape.order) g.sender_known) rights

  assign_good : (x : Name) (v : Value) → T (is_name x) → IsValid v → Good (assign s x v)
  assign_good x v h k = go (is_local s x) (is_shared s x)
    where
      go : (b c : Bool) → Good (when b then with_locals s (put x v s.locals)
          else when c then with_store s (with_variables s.store (put x v s.store.variables))
          else with_store s (enter_all (with_variables s.store (put x v s.store.variables)) (granted s x)))
      go true c = put_local x v k
      go false true = with_store_lem (with_variables s.store (put x v s.store.variables)) (put_shape s.store g.store_shape x v h k) g.sender_known
      go false false =
          with_store_lem (enter_all (with_variables s.store (put x v s.store.variables)) (granted s x))
          (enter_shape (with_variables s.store (put x v s.store.variables)) (put_shape s.store g.store_shape x v h k) (granted s x)
          (granted_valid x (put x v s.store.variables) (put_there x v s.store.variables))) g.sender_known

  list_good : (x : Name) → Where (λ es. T (all valid_element es)) (list_of s x)
  list_good x = bind_where IsValid (λ es. T (all valid_element es)) (lookup s x) as_list (lookup_valid s g x) list_valid

  pub effect_good : (c : Command) → T (valid_command c) → Giving Keeps (effect s c)
  effect_good (create_principal p t) h =
      let (i, k) = both (is_identifier p) (is_string t) h in
      provided_giving Keeps (not (is_principal s p)) _ (λ n.
      with_store_lem (created s.store p t) (created_shape s.store g.store_shape p t (identifier_name p i) k (T_not (is_principal s p) n))
      (added_keeps s.store.principals (record { name = p; password = some t; count = 0 }) s.sender g.sender_known))
  effect_good (change_password p t) h =
      let (i, k) = both (is_identifier p) (is_string t) h in
      provided_giving Keeps (is_principal s p) _ (λ n.
      with_store_lem (with_principals s.store (map (changed p t) s.store.principals)) (changed_shape s.store g.store_shape p t k)
      (changed_keeps p t s.store.principals s.sender g.sender_known))
  effect_good (set x e) h =
      let (i, k) = both (is_identifier x) (valid_expr e) h in
      bind_giving IsValid Keeps (value s e) _ (value_valid s g e k) (λ v l. assign_good x v (identifier_name x i) l)
  effect_good (append_to x e) h =
      let (i, k) = both (is_identifier x) (valid_expr e) h in
      bind_from (λ es. T (all valid_element es)) Keeps (list_of s x) _ (list_good x) (λ es m.
      bind_giving IsValid Keeps (value s e) _ (value_valid s g e k) (λ v l.
      assign_good x (list (extend es v)) (identifier_name x i) (extend_valid es v m l)))
  effect_good (local x e) h =
      let (i, k) = both (is_identifier x) (valid_expr e) h in
      provided_giving Keeps (not (is_defined s x)) _ (λ n. bind_giving IsValid Keeps (value s e) _ (value_valid s g e k) (λ v l. put_local x v l))
  effect_good (foreach y x e) h =
      let (j, i, k) = three (is_identifier y) (is_identifier x) (valid_expr e) h in
      bind_from (λ es. T (all valid_element es)) Keeps (elements s y x) _
      (if_where (λ es. T (all valid_element es)) (is_defined s y) none (list_of s x) (λ n. tt) (λ n. list_good x)) (λ es m.
      bind_giving (λ fs. T (all valid_element fs)) Keeps (each_of (replaced s y e) es) _
      (each_of_giving (replaced s y e) valid_element valid_element (replaced_valid s g y e k) es m) (λ fs r. assign_good x (list fs) (identifier_name x i) r))
  effect_good (filtereach y x e) h =
      let (j, i, k) = three (is_identifier y) (is_identifier x) (valid_expr e) h in
      bind_from (λ es. T (all valid_element es)) Keeps (elements s y x) _
      (if_where (λ es. T (all valid_element es)) (is_defined s y) none (list_of s x) (λ n. tt) (λ n. list_good x)) (λ es m.
      bind_giving (λ l. T (all (all valid_element) l)) Keeps (each_of (filtered s y e) es) _
      (each_of_giving (filtered s y e) valid_element (all valid_element) (filtered_valid s y e) es m)
      (λ l r. assign_good x (list (flat l)) (identifier_name x i) (flat_valid l r)))
  effect_good (set_delegation t q r p) h =
      provided_giving Keeps (is_principal s p && is_principal s q && all (is_shared s) (targets s.store t q)) _ (λ n.
      let (kp, kq, kx) = three (is_principal s p) (is_principal s q) (all (is_shared s) (targets s.store t q)) n in
      with_store_lem (enter_all s.store (assertions_on (targets s.store t q) q r p))
      (enter_shape s.store g.store_shape (assertions_on (targets s.store t q) q r p) (on_valid s.store (targets s.store t q) q r p kx kq kp)) g.sender_known)
  effect_good (delete_delegation t q r p) h =
      provided_giving Keeps (is_principal s p && is_principal s q && all (is_shared s) (targets s.store t q)) _ (λ n.
      with_store_lem (withdraw_all s.store (assertions_on (targets s.store t q) q r p))
      (withdraw_shape s.store g.store_shape (assertions_on (targets s.store t q) q r p)) g.sender_known)
  effect_good (default_delegator p) h =
      provided_giving Keeps (is_principal s p) _ (λ n. with_store_lem (with_delegator s.store p) (delegator_shape s.store g.store_shape p n) g.sender_known)
  effect_good exit h = with_store_lem (closed s.store) (closed_shape s.store g.store_shape) g.sender_known
  effect_good (return e) h = bind_giving IsValid Keeps (value s e) _ (value_valid s g e h) (λ v l. g)
