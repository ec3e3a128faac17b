-- Assertions on one variable after the other, by the numbers of the names.
-- Assumes nothing.
use mathlib.Core.Path.{◌≡◌, refl, sym, ap, subst, ◌∙◌}
use mathlib.Core.List.{List, [], ◌∷◌, ◌++◌, map}
use Prim.Native.Nat.{ℕ, ◌+◌, ◌≤◌, ◌<◌}
use native.Mathlib.Omega.{arith}
use lib.Dec.{T}
use lib.ListN.{length, get_or, take, drop, length-map, get_or-map}
use lib.Seq.{length-take-le, take_all}
use Rattle.language.specs.Text.{sum, member, present}
use Rattle.language.specs.Syntax.{Name, Right}
use Rattle.language.specs.State.{Principal, Variable, Assertion, named, value_in}
use Rattle.language.specs.Weight.{limit, name_weight, assertion_weight}
use Rattle.language.specs.Values.{Session, is_shared}
use Rattle.language.specs.Commands.{session_weight, with_store, with_assertions, assertions_on, entering, withdrawing}
use Rattle.language.proofs.Logic.Tests.{and_three}
use Rattle.language.proofs.StateText.Names.{is_named, valued_is, principal_name, variable_name}
use Rattle.language.proofs.StateText.Clean.{name_length}
use Rattle.assertion.specs.Packed.{pack}
use Rattle.store.specs.Rows.{Row, row_at, no_row, position, principal_row, variable_row}
use Rattle.store.proofs.Answers.{map_at, variable_names_lem, principal_names_lem}
use Rattle.store.proofs.Records.{all_at}
use Rattle.named_rights.specs.Numbers.{principals_of, variables}
use Rattle.named_rights.proofs.Few.{few_names, few_variables}
use Rattle.named_rights.proofs.Places.{name_at, position_lt, code_lt}
use Rattle.session.specs.declared.Layout.{Layout}
use Rattle.session.specs.Sessions.{Slices, Running}
use Rattle.session.proofs.Scoping.{store_valid, everyone}
use Rattle.delegation_rules.specs.Numbered.{Numbered}
use Rattle.assertion_changes.specs.Entering.{Asserts, entered, withdrawn, restood}
use Rattle.delegations.specs.Delegates.{Delegates}
use Rattle.store.proofs.NameWeights.{name_light}
use Rattle.assertion_changes.proofs.Lists.{assertion_at, on_next, on_split, entering_append, withdrawing_append, entering_grows_by}

-- the name in the row of a number
principal_row_lem : (ks : List Principal) (k : ℕ) → (row_at (map principal_row ks) k).name ≡ get_or (map (λ m. m.name) ks) k []
principal_row_lem ks k = sym (get_or-map (λ (r : Row). r.name) (map principal_row ks) k no_row) ∙ ap (λ (l : List Name). get_or l k []) (principal_names_lem ks)

variable_row_lem : (vs : List Variable) (k : ℕ) → (row_at (map variable_row vs) k).name ≡ get_or (map (λ v. v.name) vs) k []
variable_row_lem vs k = sym (get_or-map (λ (r : Row). r.name) (map variable_row vs) k no_row) ∙ ap (λ (l : List Name). get_or l k []) (variable_names_lem vs)

module _ (s : Session) (l : Layout) (b : Slices) (R : Running s l b) (p : Name) (k : ℕ) (N : Numbered s.store p k) where
  pub principal_below : k < l.principals
  principal_below = omega (arith, N.number, position_lt (principals_of s.store) p N.known, everyone s l b R)

  pub principal_few : k < 4096
  principal_few = omega (arith, principal_below, everyone s l b R, few_names s.store (store_valid s l b R))

  pub principal_called : (row_at (map principal_row s.store.principals) k).name ≡ p
  principal_called =
      principal_row_lem s.store.principals k ∙ ap (λ (n : ℕ). get_or (principals_of s.store) n []) N.number ∙ name_at (principals_of s.store) p N.known

  principal_light : name_weight (row_at (map principal_row s.store.principals) k).name ≤ 255
  principal_light = omega (
    arith,
    ap name_weight principal_called,
    (name_light p (principal_name p s.store.principals R.ready.is_good.store_shape.principals_valid (is_named p s.store.principals N.known))).1,
  )

module _ (s : Session) (l : Layout) (b : Slices) (targets : List ℕ) (count q right p : ℕ) (xs : List Name) (from : Name) (r : Right) (to : Name) (D : Delegates s l b targets count q right p xs from r to) where
  fewer : length (take count targets) ≡ count
  fewer = length-take-le count targets D.within

  so_many : length xs ≡ count
  so_many = sym (sym (length-take-le count targets D.within) ∙ ap length D.targets_are ∙ length-map xs (position (variables s.store)))

  pub right_few : right < 4
  right_few = omega (arith, D.right_is, code_lt r)

  pub pair_short : (w : ℕ) → w ≡ name_weight (row_at (map principal_row s.store.principals) q).name + name_weight (row_at (map principal_row s.store.principals) p).name → w ≤ 510
  pair_short w e = omega (arith, e, principal_light s l b D.running from q D.giver, principal_light s l b D.running to p D.taker)

  -- the assertions on the first i of the variables
  abbrev pub first : ℕ → List Assertion
  first i = assertions_on (take i xs) from r to

  module _ (i : ℕ) (h : i < length (take count targets)) where
    there : T (present (value_in s.store.variables (get_or xs i [])))
    there = all_at (is_shared s) xs i [] D.all_shared (omega (arith, so_many, fewer))

    shared : T (member (get_or xs i []) (variables s.store))
    shared = valued_is (get_or xs i []) s.store.variables there

    target_is : get_or (take count targets) i 0 ≡ position (variables s.store) (get_or xs i [])
    target_is =
        ap (λ (t : List ℕ). get_or t i 0) D.targets_are
        ∙ map_at (position (variables s.store)) xs i [] 0 (omega (arith, so_many, fewer))

    pub target_below : get_or (take count targets) i 0 < l.vars
    target_below = omega (
      arith,
      target_is,
      position_lt (variables s.store) (get_or xs i []) shared,
      D.running.variables.counted,
      length-map s.store.variables (λ (v : Variable). v.name),
    )

    pub target_few : get_or (take count targets) i 0 < 4096
    target_few = omega (
      arith,
      target_below,
      D.running.variables.counted,
      length-map s.store.variables (λ (v : Variable). v.name),
      few_variables s.store (store_valid s l b D.running),
    )

    target_called : (row_at (map variable_row s.store.variables) (get_or (take count targets) i 0)).name ≡ get_or xs i []
    target_called =
        variable_row_lem s.store.variables (get_or (take count targets) i 0) ∙ ap (λ (n : ℕ). get_or (variables s.store) n []) target_is ∙ name_at (variables s.store) (get_or xs i []) shared

    pub target_short : (w : ℕ) → w ≡ length (row_at (map variable_row s.store.variables) (get_or (take count targets) i 0)).name → w ≤ 255
    target_short w e = omega (
      arith,
      e,
      ap length target_called,
      (name_length (get_or xs i []) (variable_name (get_or xs i []) s.store.variables D.running.ready.is_good.store_shape.variables_valid there)).1,
    )

    -- the assertion on variable i, whatever assertions stand
    pub asserts_at : (m : List Assertion) (k : Layout) (assertions : List ℕ) (number weight pair : ℕ) → Running (with_store s (with_assertions s.store m)) k (restood b assertions)
        → number ≡ pack (get_or (take count targets) i 0) q right p
        → pair ≡ name_weight (row_at (map principal_row s.store.principals) q).name + name_weight (row_at (map principal_row s.store.principals) p).name
        → weight ≡ length (row_at (map variable_row s.store.variables) (get_or (take count targets) i 0)).name + 1 + pair
        → Asserts (with_store s (with_assertions s.store m)) k (restood b assertions) assertions (assertion_at xs from r to i) number weight
    asserts_at m k assertions number weight pair R n e w =
        let fq : name_weight (row_at (map principal_row s.store.principals) q).name ≡ name_weight from = ap name_weight (principal_called s l b D.running from q D.giver) in
        let fp : name_weight (row_at (map principal_row s.store.principals) p).name ≡ name_weight to = ap name_weight (principal_called s l b D.running to p D.taker) in
        let fx : length (row_at (map variable_row s.store.variables) (get_or (take count targets) i 0)).name ≡ length (get_or xs i []) = ap length target_called in
        record {
          running = R;
          stood = refl;
          is_valid = and_three (present (value_in s.store.variables (get_or xs i []))) (present (named s.store.principals from)) (present (named s.store.principals to))
              there (is_named from s.store.principals D.giver.known) (is_named to s.store.principals D.taker.known);
          is_number = n ∙ (λ j. pack (target_is j) (D.giver.number j) (D.right_is j) (D.taker.number j));
          weighs = omega (arith, fq, fp, fx, e, w);
        }

    one_more : first (i + 1) ≡ first i ++ (assertion_at xs from r to i ∷ [])
    one_more = on_next xs from r to i (omega (arith, so_many, fewer))

    pub entered_next : (k : Layout) (c : Slices) → Running (entered (entered s (first i)) (assertion_at xs from r to i ∷ [])) k c → Running (entered s (first (i + 1))) k c
    entered_next k c = subst (λ (m : List Assertion). Running (with_store s (with_assertions s.store m)) k c)
        (sym (ap (entering s.store.assertions) one_more ∙ entering_append s.store.assertions (first i) (assertion_at xs from r to i ∷ [])))

    pub withdrawn_next : (k : Layout) (c : Slices) → Running (withdrawn (withdrawn s (first i)) (assertion_at xs from r to i ∷ [])) k c → Running (withdrawn s (first (i + 1))) k c
    withdrawn_next k c = subst (λ (m : List Assertion). Running (with_store s (with_assertions s.store m)) k c)
        (sym (ap (withdrawing s.store.assertions) one_more ∙ withdrawing_append s.store.assertions (first i) (assertion_at xs from r to i ∷ [])))

    -- too heavy now: too heavy at the end
    pub entered_over : limit < session_weight (entered (entered s (first i)) (assertion_at xs from r to i ∷ [])) → limit < session_weight (entered s (assertions_on xs from r to))
    entered_over f =
        let e : entering (entering s.store.assertions (first i)) (assertion_at xs from r to i ∷ []) ≡ entering s.store.assertions (first (i + 1)) =
        sym (ap (entering s.store.assertions) one_more ∙ entering_append s.store.assertions (first i) (assertion_at xs from r to i ∷ [])) in
        let w = ap (sum assertion_weight) e in
        let g = entering_grows_by s.store.assertions (first (i + 1)) (assertions_on (drop (i + 1) xs) from r to) in
        let t = ap (λ (m : List Assertion). sum assertion_weight (entering s.store.assertions m)) (on_split xs from r to (i + 1)) in
        omega (arith, f, w, g, t)

  all_of : (i : ℕ) → length (take count targets) ≤ i → take i xs ≡ xs
  all_of i h = take_all i xs (omega (arith, so_many, fewer))

  pub entered_last : (i : ℕ) → length (take count targets) ≤ i → (k : Layout) (c : Slices) → Running (entered s (first i)) k c → Running (entered s (assertions_on xs from r to)) k c
  entered_last i h k c = subst (λ (m : List Name). Running (entered s (assertions_on m from r to)) k c) (all_of i h)

  pub withdrawn_last : (i : ℕ) → length (take count targets) ≤ i → (k : Layout) (c : Slices) → Running (withdrawn s (first i)) k c → Running (withdrawn s (assertions_on xs from r to)) k c
  withdrawn_last i h k c = subst (λ (m : List Name). Running (withdrawn s (assertions_on m from r to)) k c) (all_of i h)
