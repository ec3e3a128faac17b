-- Where a history begins: a server that was made, one that was brought over, and the assertions that stand then.
use mathlib.Core.Path.{◌≡◌, refl, sym, ap, subst, ◌∙◌}
use mathlib.Core.Logic.{inl, inr}
use Prim.Native.Nat.{ℕ}
use mathlib.Core.Bool.{Bool, true, false, not}
use mathlib.Core.List.{List, [], ◌∷◌, ◌++◌, map, append-nil, append_assoc}
use lib.ListN.{length}
use lib.Dec.{T, T_not, leb, leb→le}
use Rattle.language.specs.Text.{Text, when◌then◌else◌}
use Rattle.language.specs.State.{Store, fresh, Assertion, same_assertion, stands, enter}
use Rattle.language.specs.Weight.{limit, store_weight}
use Rattle.language.specs.Valid.{well_formed, valid_store, unrepeated}
use Rattle.language.specs.Identifiers.{is_string}
use Rattle.language.specs.Decode.{Holds}
use Rattle.language.specs.Former.{FormerHolds, decode_former}
use Rattle.language.specs.Calls.{ready, Reply, sized, longest_password, make_call, BringBuffers, bring_on, bring_call}
use Rattle.language.specs.Events.{enters, after_events}
use Rattle.language.specs.History.{Book, entries_of}
use Rattle.language.proofs.Logic.Tests.{both, and, one_of_lem, left_of_lem, right_of, any_append}
use Rattle.language.proofs.StateText.Shape.{shape, formed}
use Rattle.language.proofs.StateText.Formers.{former_shape, decode_former_lem}
use Rattle.language.proofs.Meaning.Standing.{same_assertion_lem, same_self}
use Rattle.language.proofs.Meaning.ValidRuns.{fresh_valid}
use Rattle.language.proofs.Histories.Checks.{decoded_held, ready_met, answer_of_lem}

-- ---- making a server

pub made_holds : (buffer password : Text) → (make_call buffer password).answer ≡ ready → Holds (make_call buffer password).lent (fresh password)
made_holds buffer password e =
    let (a, k) = ready_met buffer (sized buffer) _ _ e in
    let (b, l) = ready_met buffer (is_string password) _ _ (answer_of_lem k e) in
    let (c, m) = ready_met buffer (leb (length password) longest_password) _ _ (answer_of_lem l (answer_of_lem k e)) in
    record {
      is_valid = fresh_valid password b (leb→le (length password) longest_password c);
      is_text_lem = ap (λ (r : Reply Text). r.lent) (k ∙ l ∙ m);
    }

-- ---- bringing a server over

-- a former state that is light enough in the lines of now
former_valid : (n : ℕ) (s : Store) {buffer : Text} → FormerHolds buffer n s → T (leb (store_weight s) limit) → T (valid_store s)
former_valid n s h l = and (well_formed s) (leb (store_weight s) limit) (formed s (former_shape n s h.is_valid).shaped) l

pub brought_holds : (b : BringBuffers) (n : ℕ) (s : Store) → FormerHolds b.former n s → (bring_call b).answer ≡ ready → Holds (bring_call b).lent.state s
brought_holds b n s h e =
    let (x, k) = ready_met b (sized b.former) _ _ e in
    let (y, l) = ready_met b (sized b.state) _ _ (answer_of_lem k e) in
    let d = decoded_held b (decode_former b.former) _ (bring_on b) s ((decode_former_lem b.former s).1 (n, h)) in
    let (z, m) = ready_met b (leb (store_weight s) limit) _ _ (answer_of_lem d (answer_of_lem l (answer_of_lem k e))) in
    record { is_valid = former_valid n s h z; is_text_lem = ap (λ (r : Reply BringBuffers). r.lent.state) (k ∙ l ∙ d ∙ m) }

-- ---- the assertions that stand then

-- entered in their order, none of them twice, they are the list again
entered_again : (l m : List Assertion) → T (unrepeated m) → ((a : Assertion) → T (stands m a) → ¬ T (stands l a)) → after_events l (map enters m) ≡ l ++ m
entered_again l [] u apart = sym (append-nil l)
entered_again l (a ∷ m) u apart =
    let (new, rest) = both (not (stands m a)) (unrepeated m) u in
    ap (λ k. after_events k (map enters m)) (last l a (apart a (left_of_lem (same_assertion a a) (stands m a) (same_self a))))
    ∙ entered_again (l ++ (a ∷ [])) m rest (λ b h k. elim (any_append (same_assertion b) l (a ∷ []) k) [
      | inl t ↦ apart b (right_of (same_assertion b a) (stands m b) h) t
      | inr t ↦ elim (one_of_lem (same_assertion b a) false t) [
        | inl e ↦ T_not (stands m a) new (subst (λ c. T (stands m c)) (same_assertion_lem b a e) h)
        | inr e ↦ e
      ]
    ])
    ∙ append_assoc l (a ∷ []) m
  where
    last : (l : List Assertion) (a : Assertion) → ¬ T (stands l a) → enter l a ≡ l ++ (a ∷ [])
    last l a h = ap (λ b. when b then l else l ++ (a ∷ [])) (is_false (stands l a) h)
      where
        is_false : (b : Bool) → ¬ T b → b ≡ false
        is_false true k = absurd (k tt)
        is_false false k = refl

pub entries_are : (b : Book) → T (valid_store b) → b.assertions ≡ after_events [] (entries_of b)
entries_are b v =
    let g = shape b (both (well_formed b) (leb (store_weight b) limit) v).0 in
    sym (entered_again [] b.assertions g.assertions_unrepeated (λ a h k. k))
