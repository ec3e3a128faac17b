-- What the default delegator gives a new principal: each right in turn, on all variables on which it has delegate.
use mathlib.Core.Path.{◌≡◌, refl, sym, ap, subst, ◌∙◌}
use mathlib.Core.List.{List, [], ◌∷◌, map}
use Prim.Native.Nat.{ℕ, zero, suc, ◌+◌, ◌≤◌, ◌<◌}
use native.Mathlib.Numerals.{add-one}
use native.Mathlib.Decide.{dec_le}
use native.Mathlib.Omega.{arith}
use lib.Dec.{T}
use lib.ListN.{length, get_or, take, length-map}
use Rattle.language.specs.Text.{member}
use Rattle.language.specs.Syntax.{Name, Right, delegate, rights}
use Rattle.language.specs.State.{Principal, Variable, Assertion, Store}
use Rattle.language.specs.Weight.{limit, store_weight}
use Rattle.language.specs.Values.{Session}
use Rattle.language.specs.Commands.{with_store, with_assertions, enter_all, assertions_on, delegable, delegations, session_weight}
use Rattle.language.proofs.Meaning.Stores.{delegable_there}
use Rattle.store.specs.Rows.{position}
use Rattle.named_rights.specs.Numbers.{code, principals_of, variables}
use Rattle.session.specs.declared.Layout.{Layout}
use Rattle.session.specs.Sessions.{Slices, Running}
use Rattle.session.proofs.Scoping.{store_valid, everyone}
use Rattle.session.proofs.Room.{records_few}
use Rattle.delegation_rules.specs.Numbered.{Numbered, Counted}
use Rattle.delegations.specs.Delegates.{Delegates}
use Rattle.assertion_changes.specs.declared.Entered.{Entered}
use Rattle.assertion_changes.specs.Entering.{Ends}
use Rattle.assertion_changes.proofs.Lists.{entering_append, entering_grows}
use Rattle.creation.specs.Creating.{delegated, delegated_first, Gives}

right_code_lem : (i : ℕ) → i < 4 → i ≡ code (get_or rights i delegate)
right_code_lem zero h = refl
right_code_lem (suc zero) h = refl
right_code_lem (suc (suc zero)) h = refl
right_code_lem (suc (suc (suc zero))) h = refl
right_code_lem (suc (suc (suc (suc i)))) h = absurd (omega arith)

-- ---- one right

module _ (s : Session) (l : Layout) (b : Slices) (q p : ℕ) (from to : Name) (G : Gives s l b q p from to) where
  pub counted : Counted s.store b.assertions l.asserted l.principals l.vars
  counted = record {
    is_valid = store_valid s l b G.running;
    assertions_held = G.running.assertions;
    everyone = everyone s l b G.running;
    every_variable = G.running.variables.counted ∙ sym (length-map s.store.variables (λ (v : Variable). v.name));
  }

  pub few : (l.asserted ≤ length b.assertions) × (l.asserted ≤ 2048) × (l.principals ≤ 1024) × (l.vars ≤ 4096)
  few =
      let R = G.running in
      let r = records_few s l b R in
      (R.assertions.within, omega (arith, R.assertions.within, R.sized.assertions_size), omega (arith, r, R.light), omega (arith, r, R.light))

  pub delegates : (right n : ℕ) (targets : List ℕ) → right < 4 → n ≤ l.vars → 4096 ≤ length targets
      → take n targets ≡ map (position (variables s.store)) (delegable s.store from)
      → Delegates s l b targets n q right p (delegable s.store from) from (get_or rights right delegate) to
  delegates right n targets h k z e = record {
    running = G.running;
    within = omega (arith, few.3);
    targets_are = e;
    all_shared = delegable_there s.store from;
    giver = G.giver;
    right_is = right_code_lem right h;
    taker = G.taker;
  }

-- what a call's answer says, of the value that it was found to be
pub ends_at : (s : Session) (b : Slices) {r q : Entered} → r ≡ q → Ends r s b → Ends q s b
ends_at s b e = subst (λ (r : Entered). Ends r s b) e

-- ---- the rights in turn

module _ (q p : Name) where
  abbrev given : List Right → Store → Store
  given [] s = s
  given (r ∷ rs) s = given rs (delegated s r q p)

  all_given : (rs : List Right) (s : Store) → enter_all s (delegations rs s q p) ≡ given rs s
  all_given [] s = refl
  all_given (r ∷ rs) s =
      let l : List Assertion = assertions_on (delegable s q) q r p in
      ap (with_assertions s) (entering_append s.assertions l (delegations rs (enter_all s l) q p)) ∙ all_given rs (enter_all s l)

  pub first_four : (s : Store) → delegated_first 4 s q p ≡ enter_all s (delegations rights s q p)
  first_four s = sym (all_given rights s)

  same_principals : (i : ℕ) (s : Store) → (delegated_first i s q p).principals ≡ s.principals
  same_principals zero s = refl
  same_principals (suc i) s = same_principals i s

  pub same_number : (i : ℕ) (s : Store) (x : Name) (k : ℕ) → Numbered s x k → Numbered (delegated_first i s q p) x k
  same_number i s x k N =
      let e : principals_of s ≡ principals_of (delegated_first i s q p) = ap (map (λ (k : Principal). k.name)) (sym (same_principals i s)) in
      record { known = subst (λ (ns : List Name). T (member x ns)) e N.known; number = N.number ∙ ap (λ (ns : List Name). position ns x) e }

  heavier : (r : Right) (s : Store) → store_weight s ≤ store_weight (delegated s r q p)
  heavier r s = omega (arith, entering_grows s.assertions (assertions_on (delegable s q) q r p))

  pub first_heavier : (i j : ℕ) (s : Store) → i ≤ j → store_weight (delegated_first i s q p) ≤ store_weight (delegated_first j s q p)
  first_heavier i zero s h = let e : i ≡ zero = omega arith in subst (λ (n : ℕ). store_weight (delegated_first n s q p) ≤ store_weight s) (sym e) (omega arith)
  first_heavier i (suc j) s h = elim (dec_le i j) [
    | yes k ↦ omega (arith, first_heavier i j s k, heavier (get_or rights j delegate) (delegated_first j s q p))
    | no k ↦ let e : i ≡ suc j = omega arith in subst (λ (n : ℕ). store_weight (delegated_first n s q p) ≤ store_weight (delegated_first (suc j) s q p)) (sym e) (omega arith)
  ]

module _ (s : Session) (from to : Name) where
  abbrev pub first_given : ℕ → Session
  first_given i = with_store s (delegated_first i s.store from to)

  pub gives_next : (i : ℕ) (l k : Layout) (b c : Slices) (q p : ℕ) → Gives s l b q p from to → Running (first_given i) k c → Gives (first_given i) k c q p from to
  gives_next i l k b c q p G R = record {
    running = R;
    giver = same_number from to i s.store from q G.giver;
    taker = same_number from to i s.store to p G.taker;
  }

  pub too_heavy : (i : ℕ) → suc i ≤ 4 → limit < session_weight (first_given (suc i)) → limit < session_weight (with_store s (enter_all s.store (delegations rights s.store from to)))
  too_heavy i h w = omega (arith, w, first_heavier from to (suc i) 4 s.store h, ap store_weight (first_four from to s.store))

  pub given_on : (i : ℕ) {k : Layout} {c : Slices} → Running (first_given (suc i)) k c → Running (first_given (i + 1)) k c
  given_on i {k} {c} = subst (λ (n : ℕ). Running (first_given n) k c) (sym (add-one i))

  pub given_last : (i : ℕ) {k : Layout} {c : Slices} → i ≡ 4 → Running (first_given i) k c → Running (with_store s (enter_all s.store (delegations rights s.store from to))) k c
  given_last i {k} {c} e =
      subst (λ (t : Store). Running (with_store s t) k c) (ap (λ (n : ℕ). delegated_first n s.store from to) e ∙ first_four from to s.store)
