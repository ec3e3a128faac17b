-- A running session with other assertions: one more, or one less.
-- Assumes nothing.
use mathlib.Core.Path.{◌≡◌, sym, ap, subst, ◌∙◌}
use mathlib.Core.Bool.{Bool, true, false}
use mathlib.Core.List.{List, [], ◌∷◌, map}
use Prim.Native.Nat.{ℕ, ◌+◌, ◌-◌, ◌≤◌, ◌<◌, ◌^◌}
use native.Mathlib.Omega.{arith}
use lib.Dec.{T}
use lib.ListN.{length, take}
use Rattle.language.specs.Text.{when◌then◌else◌, all, member, present}
use Rattle.language.specs.State.{Assertion, Store, named, value_in, stands, enter, withdraw}
use Rattle.language.specs.Weight.{limit, assertion_weight}
use Rattle.language.specs.Valid.{valid_assertion}
use Rattle.language.specs.Values.{Session}
use Rattle.language.specs.Commands.{session_weight, with_store, with_assertions}
use Rattle.language.proofs.Logic.Tests.{and, three, and_three, all_map}
use Rattle.language.proofs.StateText.Names.{named_is, valued_is, principal_name, variable_name}
use Rattle.language.proofs.StateText.Shape.{Shape}
use Rattle.language.proofs.StateText.Clean.{name_length}
use Rattle.language.proofs.Meaning.Stores.{enter_shape, withdraw_shape}
use Rattle.language.proofs.Meaning.Weights.{enter_weight, withdraw_weight}
use Rattle.named_rights.specs.Numbers.{principals_of, variables, numbered, Standing}
use Rattle.named_rights.proofs.Few.{few_names, few_variables}
use Rattle.assertion_list.specs.Asserting.{stands_in, enter_number, withdraw_number}
use Rattle.assertion_list.specs.Known.{known}
use Rattle.assertion_list.proofs.Images.{stands_image, numbers_apart, enter_numbers, withdraw_numbers}
use Rattle.session.specs.declared.Layout.{Layout}
use Rattle.session.specs.Sessions.{Slices, Running}
use Rattle.session.proofs.Scoping.{store_valid}
use Rattle.session.proofs.Room.{assertions_few}
use Rattle.assertion_changes.specs.Entering.{Asserts, entered, withdrawn, restood, relaid}
use Rattle.store.proofs.NameWeights.{name_light}
use Rattle.assertion_changes.proofs.Lists.{enter_stood, withdraw_absent}

pub valid_known : (s : Store) (a : Assertion) → T (valid_assertion s a) → T (known (principals_of s) (variables s) a)
valid_known s a h =
    let (x, q, p) = three (present (value_in s.variables a.variable)) (present (named s.principals a.from)) (present (named s.principals a.to)) h in
    and_three (member a.variable (variables s)) (member a.from (principals_of s)) (member a.to (principals_of s))
    (valued_is a.variable s.variables x) (named_is a.from s.principals q) (named_is a.to s.principals p)

-- the session with other assertions, in the same buffers but for the numbers
reasserted : (s : Session) (l : Layout) (b : Slices) → Running s l b → (m : List Assertion) (n w : ℕ) (assertions : List ℕ)
    → Shape (with_assertions s.store m) → length assertions ≡ length b.assertions → Standing (with_assertions s.store m) n assertions
    → w ≡ session_weight (with_store s (with_assertions s.store m)) → w ≤ limit
    → Running (with_store s (with_assertions s.store m)) (relaid l n w) (restood b assertions)
reasserted s l b R m n w assertions h z S e f = record {
  sized = record {
    principals_size = R.sized.principals_size;
    principal_slots_size = R.sized.principal_slots_size;
    vars_size = R.sized.vars_size;
    variable_slots_size = R.sized.variable_slots_size;
    locals_size = R.sized.locals_size;
    local_slots_size = R.sized.local_slots_size;
    assertions_size = z ∙ R.sized.assertions_size;
  };
  ready = record {
    is_good = record { store_shape = h; locals_valid = R.ready.is_good.locals_valid; sender_known = R.ready.is_good.sender_known };
    is_light = omega (arith, e, f);
  };
  principals = R.principals;
  principals_within = R.principals_within;
  variables = R.variables;
  vars_within = R.vars_within;
  local_variables = R.local_variables;
  locals_within = R.locals_within;
  assertions = S;
  delegator = R.delegator;
  sender = R.sender;
  is_open = R.is_open;
  weighed = e;
  light = f;
}

module _ (s : Session) (l : Layout) (b : Slices) (assertions : List ℕ) (a : Assertion) (number weight : ℕ) (A : Asserts s l b assertions a number weight) where
  ps_few : length (principals_of s.store) ≤ 2 ^ 16
  ps_few = omega (arith, few_names s.store (store_valid s l b A.running))

  xs_few : length (variables s.store) ≤ 2 ^ 16
  xs_few = omega (arith, few_variables s.store (store_valid s l b A.running))

  shaped : Shape s.store
  shaped = A.running.ready.is_good.store_shape

  all_known : T (all (known (principals_of s.store) (variables s.store)) s.store.assertions)
  all_known = all_map (valid_assertion s.store) (known (principals_of s.store) (variables s.store)) (valid_known s.store) s.store.assertions shaped.assertions_valid

  one_known : T (known (principals_of s.store) (variables s.store) a)
  one_known = valid_known s.store a A.is_valid

  numbers_are : take l.asserted assertions ≡ map (numbered (principals_of s.store) (variables s.store)) s.store.assertions
  numbers_are = ap (take l.asserted) (sym A.stood) ∙ A.running.assertions.are

  pub within : l.asserted ≤ length assertions
  within = omega (arith, ap length A.stood, A.running.assertions.within)

  -- it stands where its number does
  stands_is : stands_in (take l.asserted assertions) number ≡ stands s.store.assertions a
  stands_is =
      (λ i. stands_in (numbers_are i) (A.is_number i))
      ∙ sym (stands_image (numbered (principals_of s.store) (variables s.store)) a s.store.assertions
      (numbers_apart (principals_of s.store) (variables s.store) ps_few xs_few a s.store.assertions one_known all_known))

  pub weighs_some : 4 ≤ weight
  weighs_some =
      let (x, q, p) = three (present (value_in s.store.variables a.variable)) (present (named s.store.principals a.from)) (present (named s.store.principals a.to)) A.is_valid in
      omega (
        arith,
        A.weighs,
        (name_length a.variable (variable_name a.variable s.store.variables shaped.variables_valid x)).0,
        (name_light a.from (principal_name a.from s.store.principals shaped.principals_valid q)).0,
        (name_light a.to (principal_name a.to s.store.principals shaped.principals_valid p)).0,
      )

  pub weighs_few : weight ≤ 1024
  weighs_few =
      let (x, q, p) = three (present (value_in s.store.variables a.variable)) (present (named s.store.principals a.from)) (present (named s.store.principals a.to)) A.is_valid in
      omega (
        arith,
        A.weighs,
        (name_length a.variable (variable_name a.variable s.store.variables shaped.variables_valid x)).1,
        (name_light a.from (principal_name a.from s.store.principals shaped.principals_valid q)).1,
        (name_light a.to (principal_name a.to s.store.principals shaped.principals_valid p)).1,
      )

  -- ---- entered

  entered_weight : stands_in (take l.asserted assertions) number ≡ false → l.weight + weight ≡ session_weight (entered s (a ∷ []))
  entered_weight e =
      let k : (when stands s.store.assertions a then 0 else assertion_weight a) ≡ weight = ap (λ (c : Bool). when c then 0 else assertion_weight a) (sym stands_is ∙ e) ∙ sym A.weighs in
      omega (arith, A.running.weighed, enter_weight s.store.assertions a, k)

  pub entered_stood : stands_in (take l.asserted assertions) number ≡ true → Running (entered s (a ∷ [])) l (restood b assertions)
  entered_stood e =
      subst (λ (t : List ℕ). Running (entered s (a ∷ [])) l (restood b t)) A.stood
      (subst (λ (m : List Assertion). Running (with_store s (with_assertions s.store m)) l b) (sym (enter_stood s.store.assertions a (sym stands_is ∙ e))) A.running)

  pub entered_full : stands_in (take l.asserted assertions) number ≡ false → limit < l.weight + weight → limit < session_weight (entered s (a ∷ []))
  entered_full e h = omega (arith, entered_weight e)

  pub entered_room : l.weight + weight ≤ limit → l.asserted < length assertions
  entered_room h = omega (arith, weighs_some, assertions_few s l b A.running, ap length A.stood, A.running.sized.assertions_size)

  pub entered_new : (new : List ℕ) (n : ℕ) → stands_in (take l.asserted assertions) number ≡ false → l.weight + weight ≤ limit
      → length new ≡ length assertions → n ≤ length new → take n new ≡ enter_number (take l.asserted assertions) number
      → Running (entered s (a ∷ [])) (relaid l n (l.weight + weight)) (restood b new)
  entered_new new n e h z w t =
      reasserted s l b A.running (enter s.store.assertions a) n (l.weight + weight) new
      (enter_shape s.store shaped (a ∷ []) (and (valid_assertion s.store a) true A.is_valid tt))
      (z ∙ ap length (sym A.stood))
      (record {
        within = w;
        are = t ∙ (λ i. enter_number (numbers_are i) (A.is_number i))
            ∙ sym (enter_numbers (principals_of s.store) (variables s.store) ps_few xs_few s.store.assertions a all_known one_known);
      })
      (entered_weight e) h

  -- ---- withdrawn

  pub withdrawn_weight : stands_in (take l.asserted assertions) number ≡ true → session_weight (withdrawn s (a ∷ [])) + weight ≡ l.weight
  withdrawn_weight e =
      omega (arith, A.running.weighed, A.weighs, withdraw_weight s.store.assertions a (subst T (sym (sym stands_is ∙ e)) tt))

  pub withdrawn_none : stands_in (take l.asserted assertions) number ≡ false → Running (withdrawn s (a ∷ [])) l (restood b assertions)
  withdrawn_none e =
      subst (λ (t : List ℕ). Running (withdrawn s (a ∷ [])) l (restood b t)) A.stood
      (subst (λ (m : List Assertion). Running (with_store s (with_assertions s.store m)) l b) (sym (withdraw_absent s.store.assertions a (sym stands_is ∙ e))) A.running)

  pub withdrawn_one : (new : List ℕ) (n : ℕ) → stands_in (take l.asserted assertions) number ≡ true
      → length new ≡ length assertions → n ≤ length new → take n new ≡ withdraw_number (take l.asserted assertions) number
      → Running (withdrawn s (a ∷ [])) (relaid l n (l.weight - weight)) (restood b new)
  withdrawn_one new n e z w t =
      let k = withdrawn_weight e in
      reasserted s l b A.running (withdraw s.store.assertions a) n (l.weight - weight) new
      (withdraw_shape s.store shaped (a ∷ []))
      (z ∙ ap length (sym A.stood))
      (record {
        within = w;
        are = t ∙ (λ i. withdraw_number (numbers_are i) (A.is_number i))
            ∙ sym (withdraw_numbers (principals_of s.store) (variables s.store) ps_few xs_few s.store.assertions a all_known one_known);
      })
      (omega (arith, k)) (omega (arith, k, A.running.light))
