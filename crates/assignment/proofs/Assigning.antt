-- An assignment on a running session: the local of that name, the shared variable, or one that is made.
-- Assumes nothing.
use mathlib.Core.Path.{◌≡◌, refl, sym, ap, subst, ◌∙◌}
use mathlib.Core.Logic.{inl, inr}
use mathlib.Core.Bool.{Bool, true, false, ◌||◌}
use mathlib.Core.Option.{Option, none, some}
use mathlib.Core.List.{List, [], ◌∷◌, ◌++◌, map}
use Prim.Native.Nat.{ℕ, ◌+◌, ◌*◌, ◌≤◌, ◌<◌}
use native.Mathlib.Decide.{dec_le}
use native.Mathlib.Omega.{arith}
use lib.Dec.{T}
use lib.ListN.{length, take, length-map}
use Rattle.language.specs.Text.{Text, when◌then◌else◌, ◌≟◌, all, sum, present, member}
use Rattle.language.specs.Syntax.{Name, Right, rights}
use Rattle.language.specs.State.{Value, Variable, admin, named, value_in, put}
use Rattle.language.specs.Identifiers.{is_name}
use Rattle.language.specs.Weight.{limit, name_weight, variable_weight, assertion_weight}
use Rattle.language.specs.Valid.{valid_value, valid_assertion}
use Rattle.language.specs.Values.{Session}
use Rattle.language.specs.Commands.{assign, granted, entering, enter_all, with_store, with_locals, with_variables, session_weight}
use Rattle.language.proofs.Logic.Tests.{and, and_three}
use Rattle.language.proofs.StateText.Shape.{Shape}
use Rattle.language.proofs.StateText.Clean.{name_length}
use Rattle.language.proofs.StateText.Names.{is_valued, valued_is, principal_name}
use Rattle.language.proofs.Meaning.ValidValues.{holding}
use Rattle.language.proofs.Meaning.ValidCommands.{admin_known}
use Rattle.language.proofs.Meaning.Adding.{put_all, put_there, put_names}
use Rattle.language.proofs.Meaning.Stores.{put_shape, enter_shape}
use Rattle.language.proofs.Logic.Lists.{sum_append}
use Rattle.language.proofs.Meaning.Weights.{put_new}
use Rattle.store.specs.Held.{Variables}
use Rattle.store.specs.Rows.{position, found_at, place, variable_row}
use Rattle.std.specs.Prelude as Std
use Rattle.std.specs.Prelude.{None}
use Rattle.store.specs.declared.index.Found.{Found}
use Rattle.store.proofs.Answers.{FoundVariable, variable_found, variable_missing, value_at}
use Rattle.named_rights.specs.Numbers.{principals_of, variables, numbered, Standing}
use Rattle.language.proofs.StateText.Least.{name_weighs}
use Rattle.named_rights.proofs.Places.{position_lt}
use Rattle.session.specs.declared.Layout.{Layout}
use Rattle.session.specs.Sessions.{Slices, slices, Running}
use Rattle.session.proofs.Scoping.{locals_valid, sender_known, everyone}
use Rattle.session.proofs.Room.{weighs, records_few, principals_some, assertions_few}
use Rattle.session.proofs.Changes.{with_both, same_numbers, other_locals, other_shared}
use Rattle.session.specs.Layouts.{with_other_locals, with_other_shared}
use Rattle.variable_text.specs.Puts.{Lies, Became}
use Rattle.assignment.specs.Grants.{grant_weight, grant_numbers}
use Rattle.assignment.proofs.Granting.{granting, grants, grants_weight, grants_entered, none_stands, all_numbers, some_grants}

-- ---- which variable

pub neither : {A B : Type 0} (o : Option A) (p : Option B) → (present o || present p) ≡ false → o ≡ none
neither none p e = refl
neither (some a) p e = absurd (let z : ◌≡◌ {A = ℕ} 0 1 = cc in omega arith)

module _ (s : Session) (x : Name) (v : Value) where
  abbrev on_locals : Session
  on_locals = with_locals s (put x v s.locals)

  abbrev on_shared : Session
  on_shared = with_store s (with_variables s.store (put x v s.store.variables))

  abbrev on_new : Session
  on_new = with_store s (enter_all (with_variables s.store (put x v s.store.variables)) (granted s x))

  abbrev chosen : Option Value → Option Value → Session
  chosen a b = when present a then on_locals else when present b then on_shared else on_new

  assign_local : (u : Value) → value_in s.locals x ≡ some u → assign s x v ≡ on_locals
  assign_local u e = ap (λ (o : Option Value). chosen o (value_in s.store.variables x)) e

  assign_shared : (u : Value) → value_in s.locals x ≡ none → value_in s.store.variables x ≡ some u → assign s x v ≡ on_shared
  assign_shared u e f = λ i. chosen (e i) (f i)

  assign_new : value_in s.locals x ≡ none → value_in s.store.variables x ≡ none → assign s x v ≡ on_new
  assign_new e f = λ i. chosen (e i) (f i)

-- ---- the texts

-- a name that was found among variables, or was not
module _ (vs : List Variable) (t : Text) (count : ℕ) (slots : List ℕ) (H : Variables vs t count slots) (x : Name) (r : Std.Option Found) (F : r ≡ place (map variable_row vs) x) where
  pub there : (k a e : ℕ) → r ≡ found_at k a e → FoundVariable vs t x k a e
  there k a e q = variable_found vs t count slots H x k a e (sym q ∙ F)

  pub not_there : r ≡ None → value_in vs x ≡ none
  not_there q = variable_missing vs x (sym q ∙ F)

  pub there_below : (k a e : ℕ) → r ≡ found_at k a e → k < count
  there_below k a e q = omega (arith, (there k a e q).below, H.counted)

module _ (s : Session) (l : Layout) (b : Slices) (R : Running s l b) where
  pub locals_lie : Lies s.locals b.locals l.locals_len l.locals b.local_slots l.weight
  locals_lie = record {
    room = omega (arith, R.sized.locals_size);
    small = omega (arith, R.sized.locals_size);
    slots_size = R.sized.local_slots_size;
    held = R.local_variables;
    within = R.locals_within;
    are_valid = locals_valid s l b R;
    weight_within = omega (arith, weighs s l b R);
  }

  pub shared_lie : (w : ℕ) → l.weight ≤ w → Lies s.store.variables b.vars l.vars_len l.vars b.variable_slots w
  shared_lie w h = record {
    room = omega (arith, R.sized.vars_size);
    small = omega (arith, R.sized.vars_size);
    slots_size = R.sized.variable_slots_size;
    held = R.variables;
    within = R.vars_within;
    are_valid = R.ready.is_good.store_shape.variables_valid;
    weight_within = omega (arith, weighs s l b R);
  }

  pub sender_below : l.sender < l.principals
  sender_below = omega (arith, R.sender, everyone s l b R, position_lt (principals_of s.store) s.sender (sender_known s l b R))

  module _ (x : Name) (v : Value) (is_valid : T (valid_value v)) where
    -- ---- a local

    pub locals_full : limit + sum variable_weight s.locals < l.weight + sum variable_weight (put x v s.locals) → limit < session_weight (with_locals s (put x v s.locals))
    locals_full h = omega (arith, weighs s l b R)

    pub local_full : (u : Value) → value_in s.locals x ≡ some u → limit + sum variable_weight s.locals < l.weight + sum variable_weight (put x v s.locals)
        → limit < session_weight (assign s x v)
    local_full u e h =
        subst (λ (t : Session). limit < session_weight t) (sym (assign_local s x v u e)) (locals_full h)

    pub local_put : (t : Text) (slots : List ℕ) (n count w : ℕ) → length t ≡ length b.locals → Became s.locals (put x v s.locals) l.weight t n count slots w
        → Running (with_locals s (put x v s.locals)) (with_other_locals l n count w) (slices b.principals b.principal_slots b.vars b.variable_slots t slots b.assertions)
    local_put t slots n count w z B =
        other_locals s l b R (put x v s.locals) t slots n count w (z ∙ R.sized.locals_size) B.slots_size B.held B.within
        (put_all holding x v s.locals is_valid R.ready.is_good.locals_valid) (omega (arith, weighs s l b R, B.weighs)) B.light

    pub local_done : (u : Value) → value_in s.locals x ≡ some u → (t : Text) (slots : List ℕ) (n w : ℕ) → length t ≡ length b.locals
        → Became s.locals (put x v s.locals) l.weight t n l.locals slots w
        → Running (assign s x v) (with_other_locals l n l.locals w) (slices b.principals b.principal_slots b.vars b.variable_slots t slots b.assertions)
    local_done u e t slots n w z B =
        subst (λ (z : Session). Running z (with_other_locals l n l.locals w) (slices b.principals b.principal_slots b.vars b.variable_slots t slots b.assertions))
        (sym (assign_local s x v u e)) (local_put t slots n l.locals w z B)

    -- ---- a shared variable

    module _ (N : T (is_name x)) where
      shape : Shape (with_variables s.store (put x v s.store.variables))
      shape = put_shape s.store R.ready.is_good.store_shape x v N is_valid

      pub shared_full : value_in s.locals x ≡ none → (u : Value) → value_in s.store.variables x ≡ some u
          → limit + sum variable_weight s.store.variables < l.weight + sum variable_weight (put x v s.store.variables) → limit < session_weight (assign s x v)
      shared_full none-local u e h =
          subst (λ (t : Session). limit < session_weight t) (sym (assign_shared s x v u none-local e))
          (let k : limit < session_weight (on_shared s x v) = omega (arith, weighs s l b R) in k)

      pub shared_done : value_in s.locals x ≡ none → (u : Value) → value_in s.store.variables x ≡ some u → (t : Text) (slots : List ℕ) (n w : ℕ) → length t ≡ length b.vars
          → Became s.store.variables (put x v s.store.variables) l.weight t n l.vars slots w
          → Running (assign s x v) (with_other_shared l n l.vars l.asserted w) (slices b.principals b.principal_slots t slots b.locals b.local_slots b.assertions)
      shared_done none-local u e t slots n w z B =
          subst (λ (z : Session). Running z (with_other_shared l n l.vars l.asserted w) (slices b.principals b.principal_slots t slots b.locals b.local_slots b.assertions))
          (sym (assign_shared s x v u none-local e))
          (other_shared s l b R (put x v s.store.variables) s.store.assertions t slots b.assertions n l.vars l.asserted w (z ∙ R.sized.vars_size) B.slots_size
          R.sized.assertions_size B.held B.within (same_numbers s.store (put x v s.store.variables) l.asserted b.assertions same_names R.assertions) shape
          (omega (arith, weighs s l b R, B.weighs)) B.light)
        where
          same_names : map (λ z. z.name) (put x v s.store.variables) ≡ variables s.store
          same_names = elim (put_names x v s.store.variables) [
            | inl q ↦ q
            | inr q ↦ absurd (q.0 (valued_is x s.store.variables (subst (λ (o : Option Value). T (present o)) (sym e) tt)))
          ]

      -- ---- a new one

      module _ (new : value_in s.store.variables x ≡ none) (extra : ℕ) (G : extra ≡ grant_weight (length x) s.sender) where
        all_entered : entering s.store.assertions (granted s x) ≡ s.store.assertions ++ grants x s.sender
        all_entered =
            grants_entered x s.sender s.store.assertions (λ r.
            none_stands s.store x (granting x s.sender r) s.store.assertions new refl R.ready.is_good.store_shape.assertions_valid)

        assertions_weigh : sum assertion_weight (entering s.store.assertions (granted s x)) ≡ sum assertion_weight s.store.assertions + extra
        assertions_weigh =
            ap (sum assertion_weight) all_entered ∙ sum_append assertion_weight s.store.assertions (grants x s.sender)
            ∙ ap (λ (n : ℕ). sum assertion_weight s.store.assertions + n) (grants_weight x s.sender ∙ sym G)

        pub new_full : value_in s.locals x ≡ none → limit + sum variable_weight s.store.variables < l.weight + extra + sum variable_weight (put x v s.store.variables) → limit < session_weight (assign s x v)
        new_full none-local h =
            subst (λ (t : Session). limit < session_weight t) (sym (assign_new s x v none-local new))
            (let k : limit < session_weight (on_new s x v) = omega (arith, weighs s l b R, assertions_weigh) in k)

        grants_valid : T (all (valid_assertion (with_variables s.store (put x v s.store.variables))) (granted s x))
        grants_valid = go (s.sender ≟ admin)
          where
            each : (rs : List Right) → T (all (valid_assertion (with_variables s.store (put x v s.store.variables))) (map (granting x s.sender) rs))
            each [] = tt
            each (r ∷ rs) =
                and (valid_assertion (with_variables s.store (put x v s.store.variables)) (granting x s.sender r)) _
                (and_three (present (value_in (put x v s.store.variables) x)) (present (named s.store.principals admin)) (present (named s.store.principals s.sender))
                (put_there x v s.store.variables) (admin_known s.store.principals R.ready.is_good.store_shape.order) R.ready.is_good.sender_known) (each rs)

            go : (c : Bool) → T (all (valid_assertion (with_variables s.store (put x v s.store.variables))) (when c then [] else map (granting x s.sender) rights))
            go true = tt
            go false = each rights

        pub new_done : value_in s.locals x ≡ none → (t : Text) (slots assertions : List ℕ) (n w r : ℕ) → length t ≡ length b.vars → Became s.store.variables (put x v s.store.variables) (l.weight + extra) t n (l.vars + 1) slots w
            → length assertions ≡ 2048 → r ≤ length assertions → take r assertions ≡ take l.asserted b.assertions ++ grant_numbers l.vars l.sender
            → Running (assign s x v) (with_other_shared l n (l.vars + 1) r w) (slices b.principals b.principal_slots t slots b.locals b.local_slots assertions)
        new_done none-local t slots assertions n w r z B size within left =
            subst (λ (z : Session). Running z (with_other_shared l n (l.vars + 1) r w) (slices b.principals b.principal_slots t slots b.locals b.local_slots assertions))
            (sym (assign_new s x v none-local new))
            (other_shared s l b R (put x v s.store.variables) (entering s.store.assertions (granted s x)) t slots assertions n (l.vars + 1) r w (z ∙ R.sized.vars_size) B.slots_size
            size B.held B.within stands'
            (enter_shape (with_variables s.store (put x v s.store.variables)) shape (granted s x) grants_valid)
            (omega (arith, weighs s l b R, B.weighs, assertions_weigh)) B.light)
          where
            names : variables s.store ++ (x ∷ []) ≡ map (λ z. z.name) (put x v s.store.variables)
            names = elim (put_names x v s.store.variables) [
              | inl q ↦ absurd (let z = there (valued_is x (put x v s.store.variables) (put_there x v s.store.variables)) q in z)
              | inr q ↦ sym q.1
            ]
              where
                there : T (member x (map (λ z. z.name) (put x v s.store.variables))) → map (λ z. z.name) (put x v s.store.variables) ≡ variables s.store → ⊥
                there m q = subst (λ (o : Option Value). T (present o)) new (is_valued x s.store.variables (subst (λ (ns : List Name). T (member x ns)) q m))

            missing : length (variables s.store) ≤ position (variables s.store) x
            missing = elim (dec_le (length (variables s.store)) (position (variables s.store) x)) [
              | yes h ↦ h
              | no h ↦ absurd (let q = value_at s.store.variables x (omega (arith, h, length-map s.store.variables (λ (z : Variable). z.name))) in
                  let z : ◌≡◌ {A = ℕ} 0 1 = cc in omega arith)
            ]

            counted : l.vars ≡ length (variables s.store)
            counted = R.variables.counted ∙ sym (length-map s.store.variables (λ (z : Variable). z.name))

            stands' : Standing (with_both s.store (put x v s.store.variables) (entering s.store.assertions (granted s x))) r assertions
            stands' = record {
              within = within;
              are =
                  left ∙ ap (λ (z : List ℕ). z ++ grant_numbers l.vars l.sender) R.assertions.are
                  ∙ sym (all_numbers s.store R.ready.is_good.store_shape.order R.ready.is_good.store_shape.assertions_valid x s.sender l.vars l.sender missing counted R.sender)
                  ∙ (λ i. map (numbered (principals_of s.store) (names i)) (sym all_entered i));
            }

        -- room for them
        pub grants_room : (t : Text) (slots : List ℕ) (n w : ℕ) → Became s.store.variables (put x v s.store.variables) (l.weight + extra) t n (l.vars + 1) slots w
            → (l.asserted ≤ length b.assertions) × (0 < l.sender → l.asserted + 4 ≤ length b.assertions) × (l.vars < 4096) × (l.sender < 4096)
        grants_room t slots n w B =
            let few = records_few s l b R in
            let two = principals_some s l b R in
            (R.assertions.within, room, omega (arith, few, two, R.light), omega (arith, sender_below, few, R.light))
          where
            room : 0 < l.sender → l.asserted + 4 ≤ length b.assertions
            room h =
                let z : l.sender ≡ 0 → ⊥ = λ e. omega (arith, e, h) in
                let g : extra ≡ 4 * (length x + 2 + name_weight s.sender) =
                G ∙ sym (some_grants s.store.principals s.sender R.ready.is_good.store_shape.order (length x) l.sender (name_weight s.sender) R.sender z refl) in
                let p : T (is_name s.sender) = principal_name s.sender s.store.principals R.ready.is_good.store_shape.principals_valid R.ready.is_good.sender_known in
                omega (
                  arith,
                  g,
                  name_weighs s.sender p,
                  (name_length x N).0,
                  put_new x v s.store.variables new,
                  B.weighs,
                  B.light,
                  assertions_few s l b R,
                  R.sized.assertions_size,
                )
