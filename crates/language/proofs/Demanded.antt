-- The three demands are met.
use mathlib.Core.Path.{◌≡◌, refl, sym, ap, subst, ◌∙◌}
use mathlib.Core.Logic.{◌↔◌, ◌⊎◌, inl, inr}
use Prim.Native.Nat.{ℕ, ◌≤◌}
use native.Mathlib.Omega.{arith}
use mathlib.Core.Bool.{Bool, true, false, not}
use mathlib.Core.Option.{Option, none, some}
use lib.Dec.{T, not_T, leb, le→leb, leb→le, nleb→lt}
use lib.ListN.{length}
use Rattle.language.specs.Text.{Text, when◌then◌else◌, present}
use Rattle.language.specs.Syntax.{Right}
use Rattle.language.specs.Identifiers.{is_string}
use Rattle.language.specs.Commands.{Refusal, DENIED, FAILED, FULL}
use Rattle.language.specs.State.{Store, fresh, named, value_in}
use Rattle.language.specs.Chains.{chain_length}
use Rattle.language.specs.Weight.{limit, store_weight}
use Rattle.language.specs.Encode.{state_text, padded}
use Rattle.language.specs.Decode.{Holds, decode}
use Rattle.language.specs.Former.{FormerHolds, decode_former}
use Rattle.language.specs.Programs.{parse}
use Rattle.language.specs.Run.{End, refusal, completed, run, refusal_line, line_count, output, left}
use Rattle.language.specs.Calls.{Answer, wrong, ended, yes, no, ready, listed, Reply, refuse, sized, longest_password}
use Rattle.language.specs.Calls.{Buffers, BringBuffers, SheetBuffers, bring_on, bring_call, sheet_reply, sheet_on, sheet_call, made, state_after, end_reply, run_on, run_call, make_call, ask_call, length_answer, question, right_byte, ask_on}
use Rattle.language.specs.Demands.{Sent, Asked, Installed, Bringable, Listable, RunWrong, QuestionWrong, MakingWrong, BringingWrong, SheetWrong, end_of, Demand1, Demand2, Demands}
use Rattle.language.proofs.Logic.Tests.{true_of, false_of}
use Rattle.language.proofs.StateText.RoundTrip.{decode_holds}
use Rattle.language.proofs.Meaning.ValidRuns.{EndsValid, run_valid, fresh_valid}
use Rattle.language.proofs.Parsing.Parsing.{valid_parsed, parse_valid}
use Rattle.language.proofs.Parsing.Printing.{output_fits}
use Rattle.language.proofs.Histories.Checks.{met, unmet, decoded_held, decoded_not}
use Rattle.language.proofs.Histories.Mirror.{store_valid, is_sized, holds_decodes}
use Rattle.language.proofs.StateText.Formers.{decode_former_lem}
use Rattle.language.proofs.StateText.Bound.{former_sized}
use Rattle.language.proofs.Histories.Starts.{brought_holds}
use Rattle.language.proofs.Histories.Sheets.{sheeted}
use Rattle.language.proofs.Histories.Demand.{demand_3}
use Rattle.language.proofs.Meaning.LineCounts.{line_each}

-- ---- tests

decided : (t : Bool) → T t ⊎ (¬ T t)
decided true = inl tt
decided false = inr (λ h. h)

not_there : {s : Store} → ◌≡◌ {A = Option Store} none (some s) → ⊥
not_there e = let z : ◌≡◌ {A = ℕ} 0 1 = cc in omega arith

-- a buffer holds a state or none
held_or_not : (buffer : Text) → ((s : Store) × Holds buffer s) ⊎ ((s : Store) → ¬ Holds buffer s)
held_or_not buffer = go (decode buffer) refl
  where
    go : (o : Option Store) → decode buffer ≡ o → ((s : Store) × Holds buffer s) ⊎ ((s : Store) → ¬ Holds buffer s)
    go none e = inr (λ s h. not_there (sym e ∙ holds_decodes h))
    go (some s) e = inl (s, (decode_holds buffer s).0 e)

none_decoded : (buffer : Text) → ((s : Store) → ¬ Holds buffer s) → decode buffer ≡ none
none_decoded buffer h = go (decode buffer) refl
  where
    go : (o : Option Store) → decode buffer ≡ o → o ≡ none
    go none e = refl
    go (some s) e = absurd (h s ((decode_holds buffer s).0 e))

-- ---- answers that are right are no numbers

abbrev IsRight : Answer → Type 0
IsRight (wrong n) = ⊥
IsRight (ended r) = Unit {0}
IsRight (yes n) = Unit {0}
IsRight no = Unit {0}
IsRight ready = Unit {0}
IsRight (listed n k) = Unit {0}

same_number : {m n : ℕ} → wrong m ≡ wrong n → m ≡ n
same_number e = cc

-- A call that is made rightly is answered rightly, and a ground for a number gives a refusal with it: then the number is had exactly
-- where there is a ground for it, and leaves what was lent.
module _ {Lent : Type 0} (lent : Lent) (r : Reply Lent) (P : ℕ → Type 0) (refused : (n : ℕ) → P n → r ≡ refuse lent n)
    (either : IsRight r.answer ⊎ ((n : ℕ) × P n)) where
  exactly : (n : ℕ) → (r.answer ≡ wrong n) ↔ P n
  exactly n = (λ e. go either e, λ p. ap (λ (k : Reply Lent). k.answer) (refused n p))
    where
      go : IsRight r.answer ⊎ ((m : ℕ) × P m) → r.answer ≡ wrong n → P n
      go (inl k) e = absurd (subst IsRight e k)
      go (inr (m, p)) e = subst P (same_number (sym (ap (λ (k : Reply Lent). k.answer) (refused m p)) ∙ e)) p

  kept : (n : ℕ) → r.answer ≡ wrong n → r.lent ≡ lent
  kept n e = ap (λ (k : Reply Lent). k.lent) (refused n ((exactly n).0 e))

-- ---- runs

module _ (b : Buffers) (program : Text) where
  pub runs : (s : Store) → Sent b s → run_call b program ≡ end_reply b (end_of s program)
  runs s h =
      met b (sized b.output) _ _ h.output_sized ∙ met b (sized b.state) _ _ (is_sized h.holds) ∙ met b (sized b.work) _ _ h.work_sized
      ∙ decoded_held b (decode b.state) _ (run_on b program) s (holds_decodes h.holds) ∙ met b s.is_open _ _ h.is_open

  run_refused : (n : ℕ) → RunWrong b n → run_call b program ≡ refuse b n
  run_refused n (RunWrong.output_size h) = unmet b (sized b.output) _ _ h
  run_refused n (RunWrong.state_size h k) = met b (sized b.output) _ _ h ∙ unmet b (sized b.state) _ _ k
  run_refused n (RunWrong.work_size h k l) = met b (sized b.output) _ _ h ∙ met b (sized b.state) _ _ k ∙ unmet b (sized b.work) _ _ l
  run_refused n (RunWrong.no_state h k l m) =
      met b (sized b.output) _ _ h ∙ met b (sized b.state) _ _ k ∙ met b (sized b.work) _ _ l
      ∙ decoded_not b (decode b.state) _ (run_on b program) (none_decoded b.state m)
  run_refused n (RunWrong.closed h l s m k) =
      met b (sized b.output) _ _ h ∙ met b (sized b.state) _ _ (is_sized m) ∙ met b (sized b.work) _ _ l
      ∙ decoded_held b (decode b.state) _ (run_on b program) s (holds_decodes m) ∙ unmet b s.is_open _ _ k

  -- what a program leaves is well formed, refused or not
  state_after_lem : (s : Store) → Sent b s → Holds (run_call b program).lent.state (left s (end_of s program))
  state_after_lem s h =
      subst (λ (r : Reply Buffers). Holds r.lent.state (left s (end_of s program))) (sym (runs s h))
      (go (end_of s program) (run_valid s (store_valid h.holds) (parse program) (valid_parsed program)))
    where
      go : (e : End) → EndsValid e → Holds (state_after b.state e) (left s e)
      go (refusal r) k = h.holds
      go (completed lines t) k = record { is_valid = k; is_text_lem = refl }

run_either : (b : Buffers) → ((s : Store) × Sent b s) ⊎ ((n : ℕ) × RunWrong b n)
run_either b = elim (decided (sized b.output)) [
  | inr h ↦ inr (1, RunWrong.output_size h)
  | inl h ↦ elim (decided (sized b.state)) [
    | inr k ↦ inr (2, RunWrong.state_size h k)
    | inl k ↦ elim (decided (sized b.work)) [
      | inr l ↦ inr (3, RunWrong.work_size h k l)
      | inl l ↦ elim (held_or_not b.state) [
        | inr m ↦ inr (4, RunWrong.no_state h k l m)
        | inl m ↦ elim (decided m.0.is_open) [
          | inr o ↦ inr (5, RunWrong.closed h l m.0 m.1 o)
          | inl o ↦ inl (m.0, record { output_sized = h; work_sized = l; holds = m.1; is_open = o })
        ]
      ]
    ]
  ]
]

module _ (b : Buffers) (program : Text) where
  run_right : ((s : Store) × Sent b s) ⊎ ((n : ℕ) × RunWrong b n) → IsRight (run_call b program).answer ⊎ ((n : ℕ) × RunWrong b n)
  run_right (inl (s, h)) = inl (subst (λ (r : Reply Buffers). IsRight r.answer) (sym (runs b program s h)) tt)
  run_right (inr w) = inr w

  run_number : (n : ℕ) → ((run_call b program).answer ≡ wrong n) ↔ RunWrong b n
  run_number = exactly b (run_call b program) (RunWrong b) (run_refused b program) (run_right (run_either b))

  run_kept : (n : ℕ) → (run_call b program).answer ≡ wrong n → (run_call b program).lent ≡ b
  run_kept = kept b (run_call b program) (RunWrong b) (run_refused b program) (run_right (run_either b))

one : (r : Refusal) → line_count (refusal_line r) ≡ 1
one DENIED = refl
one FAILED = refl
one FULL = refl

-- ---- questions

module _ (s : Store) (p x : Text) where
  unknown_principal : (o : Option Right) → ¬ T (present (named s.principals p)) → question s p x o ≡ wrong 6
  unknown_principal none h = ap (λ c. when c then wrong 7 else wrong 6) (false_of (present (named s.principals p)) h)
  unknown_principal (some r) h =
      ap (λ c. when not c then wrong 6 else when not (present (value_in s.variables x)) then wrong 7 else length_answer (chain_length s r x p)) (false_of (present (named s.principals p)) h)

  module _ (h : T (present (named s.principals p))) where
    known : (r : Right) → question s p x (some r) ≡ (when not (present (value_in s.variables x)) then wrong 7 else length_answer (chain_length s r x p))
    known r =
        ap (λ c. when not c then wrong 6 else when not (present (value_in s.variables x)) then wrong 7 else length_answer (chain_length s r x p)) (true_of (present (named s.principals p)) h)

    unknown_right : (o : Option Right) → ¬ T (present o) → question s p x o ≡ wrong 7
    unknown_right none k = ap (λ c. when c then wrong 7 else wrong 6) (true_of (present (named s.principals p)) h)
    unknown_right (some r) k = absurd (k tt)

    unknown_variable : (o : Option Right) → ¬ T (present (value_in s.variables x)) → question s p x o ≡ wrong 7
    unknown_variable none k = ap (λ c. when c then wrong 7 else wrong 6) (true_of (present (named s.principals p)) h)
    unknown_variable (some r) k = known r ∙ ap (λ c. when not c then wrong 7 else length_answer (chain_length s r x p)) (false_of (present (value_in s.variables x)) k)

    rightly_asked : (o : Option Right) → T (present (value_in s.variables x)) → T (present o) → IsRight (question s p x o)
    rightly_asked none k l = absurd l
    rightly_asked (some r) k l =
        subst IsRight (sym (known r ∙ ap (λ c. when not c then wrong 7 else length_answer (chain_length s r x p)) (true_of (present (value_in s.variables x)) k))) (go (chain_length s r x p))
      where
        go : (o : Option ℕ) → IsRight (length_answer o)
        go none = tt
        go (some n) = tt

module _ (buffer p x : Text) (byte : ℕ) where
  asks : (s : Store) → Holds buffer s → ask_call buffer p x byte ≡ ask_on buffer p x byte s
  asks s h = met buffer (sized buffer) _ _ (is_sized h) ∙ decoded_held buffer (decode buffer) _ (ask_on buffer p x byte) s (holds_decodes h)

  numbered : (s : Store) (n : ℕ) → Holds buffer s → question s p x (right_byte byte) ≡ wrong n → ask_call buffer p x byte ≡ refuse buffer n
  numbered s n h e = asks s h ∙ ap (λ (a : Answer). record { answer = a; lent = buffer }) e

  question_refused : (n : ℕ) → QuestionWrong buffer p x byte n → ask_call buffer p x byte ≡ refuse buffer n
  question_refused n (QuestionWrong.state_size h) = unmet buffer (sized buffer) _ _ h
  question_refused n (QuestionWrong.no_state h k) =
      met buffer (sized buffer) _ _ h ∙ decoded_not buffer (decode buffer) _ (ask_on buffer p x byte) (none_decoded buffer k)
  question_refused n (QuestionWrong.no_principal s h k) = numbered s 6 h (unknown_principal s p x (right_byte byte) k)
  question_refused n (QuestionWrong.no_variable s h k l) = numbered s 7 h (unknown_variable s p x k (right_byte byte) l)
  question_refused n (QuestionWrong.no_right s h k l) = numbered s 7 h (unknown_right s p x k (right_byte byte) l)

  question_either : ((s : Store) × Asked buffer p x byte s) ⊎ ((n : ℕ) × QuestionWrong buffer p x byte n)
  question_either = elim (decided (sized buffer)) [
    | inr h ↦ inr (2, QuestionWrong.state_size h)
    | inl h ↦ elim (held_or_not buffer) [
      | inr k ↦ inr (4, QuestionWrong.no_state h k)
      | inl m ↦ elim (decided (present (named m.0.principals p))) [
        | inr k ↦ inr (6, QuestionWrong.no_principal m.0 m.1 k)
        | inl k ↦ elim (decided (present (value_in m.0.variables x))) [
          | inr l ↦ inr (7, QuestionWrong.no_variable m.0 m.1 k l)
          | inl l ↦ elim (decided (present (right_byte byte))) [
            | inr r ↦ inr (7, QuestionWrong.no_right m.0 m.1 k r)
            | inl r ↦ inl (m.0, record { holds = m.1; is_principal_lem = k; is_variable = l; is_right = r })
          ]
        ]
      ]
    ]
  ]

  question_right : ((s : Store) × Asked buffer p x byte s) ⊎ ((n : ℕ) × QuestionWrong buffer p x byte n)
      → IsRight (ask_call buffer p x byte).answer ⊎ ((n : ℕ) × QuestionWrong buffer p x byte n)
  question_right (inl (s, a)) =
      inl (subst (λ (r : Reply Text). IsRight r.answer) (sym (asks s a.holds))
      (rightly_asked s p x a.is_principal_lem (right_byte byte) a.is_variable a.is_right))
  question_right (inr w) = inr w

  question_number : (n : ℕ) → ((ask_call buffer p x byte).answer ≡ wrong n) ↔ QuestionWrong buffer p x byte n
  question_number = exactly buffer (ask_call buffer p x byte) (QuestionWrong buffer p x byte) question_refused (question_right question_either)

  question_kept : (ask_call buffer p x byte).lent ≡ buffer
  question_kept = elim question_either [
    | inl a ↦ ap (λ (r : Reply Text). r.lent) (asks a.0 a.1.holds)
    | inr w ↦ ap (λ (r : Reply Text). r.lent) (question_refused w.0 w.1)
  ]

-- ---- the making of servers

module _ (buffer password : Text) where
  makes : Installed buffer password → make_call buffer password ≡ record { answer = ready; lent = made password }
  makes h =
      met buffer (sized buffer) _ _ h.state_sized ∙ met buffer (is_string password) _ _ h.is_string_lem
      ∙ met buffer (leb (length password) longest_password) _ _ (le→leb (length password) longest_password h.is_short)

  making_refused : (n : ℕ) → MakingWrong buffer password n → make_call buffer password ≡ refuse buffer n
  making_refused n (MakingWrong.state_size h) = unmet buffer (sized buffer) _ _ h
  making_refused n (MakingWrong.no_string h k) = met buffer (sized buffer) _ _ h ∙ unmet buffer (is_string password) _ _ k
  making_refused n (MakingWrong.too_long h k l) =
      met buffer (sized buffer) _ _ h ∙ met buffer (is_string password) _ _ k
      ∙ unmet buffer (leb (length password) longest_password) _ _ (λ t. let m : length password ≤ longest_password = leb→le (length password) longest_password t in omega arith)

  making_either : Installed buffer password ⊎ ((n : ℕ) × MakingWrong buffer password n)
  making_either = elim (decided (sized buffer)) [
    | inr h ↦ inr (2, MakingWrong.state_size h)
    | inl h ↦ elim (decided (is_string password)) [
      | inr k ↦ inr (8, MakingWrong.no_string h k)
      | inl k ↦ elim (decided (leb (length password) longest_password)) [
        | inr l ↦ inr (9, MakingWrong.too_long h k (nleb→lt (length password) longest_password (not_T (leb (length password) longest_password) l)))
        | inl l ↦ inl (record { state_sized = h; is_string_lem = k; is_short = leb→le (length password) longest_password l })
      ]
    ]
  ]

  making_right : Installed buffer password ⊎ ((n : ℕ) × MakingWrong buffer password n)
      → IsRight (make_call buffer password).answer ⊎ ((n : ℕ) × MakingWrong buffer password n)
  making_right (inl h) = inl (subst (λ (r : Reply Text). IsRight r.answer) (sym (makes h)) tt)
  making_right (inr w) = inr w

  making_number : (n : ℕ) → ((make_call buffer password).answer ≡ wrong n) ↔ MakingWrong buffer password n
  making_number = exactly buffer (make_call buffer password) (MakingWrong buffer password) making_refused (making_right making_either)

  making_kept : (n : ℕ) → (make_call buffer password).answer ≡ wrong n → (make_call buffer password).lent ≡ buffer
  making_kept = kept buffer (make_call buffer password) (MakingWrong buffer password) making_refused (making_right making_either)

  making_made : Installed buffer password
      → ((make_call buffer password).answer ≡ ready) × Holds (make_call buffer password).lent (fresh password)
  making_made h = (
    ap (λ (r : Reply Text). r.answer) (makes h),
    record {
      is_valid = fresh_valid password h.is_string_lem h.is_short;
      is_text_lem = ap (λ (r : Reply Text). r.lent) (makes h);
    },
  )

-- ---- bringing servers over

former_or_not : (buffer : Text) → ((n : ℕ) × (s : Store) × FormerHolds buffer n s) ⊎ ((n : ℕ) (s : Store) → ¬ FormerHolds buffer n s)
former_or_not buffer = go (decode_former buffer) refl
  where
    go : (o : Option Store) → decode_former buffer ≡ o → ((n : ℕ) × (s : Store) × FormerHolds buffer n s) ⊎ ((n : ℕ) (s : Store) → ¬ FormerHolds buffer n s)
    go none e = inr (λ n s h. not_there (sym e ∙ (decode_former_lem buffer s).1 (n, h)))
    go (some s) e = let (n, h) = (decode_former_lem buffer s).0 e in inl (n, s, h)

none_former : (buffer : Text) → ((n : ℕ) (s : Store) → ¬ FormerHolds buffer n s) → decode_former buffer ≡ none
none_former buffer h = go (decode_former buffer) refl
  where
    go : (o : Option Store) → decode_former buffer ≡ o → o ≡ none
    go none e = refl
    go (some s) e = let (n, k) = (decode_former_lem buffer s).0 e in absurd (h n s k)

module _ (b : BringBuffers) where
  brings : (n : ℕ) (s : Store) → Bringable b n s → bring_call b ≡ record { answer = ready; lent = record { former = b.former; state = padded (state_text s) } }
  brings n s h =
      met b (sized b.former) _ _ (former_sized h.holds) ∙ met b (sized b.state) _ _ h.state_sized ∙ decoded_held b (decode_former b.former) _ (bring_on b) s ((decode_former_lem b.former s).1 (n, h.holds))
      ∙ met b (leb (store_weight s) limit) _ _ (le→leb (store_weight s) limit h.is_light)

  bringing_refused : (n : ℕ) → BringingWrong b n → bring_call b ≡ refuse b n
  bringing_refused n (BringingWrong.former_size h) = unmet b (sized b.former) _ _ h
  bringing_refused n (BringingWrong.state_size h k) = met b (sized b.former) _ _ h ∙ unmet b (sized b.state) _ _ k
  bringing_refused n (BringingWrong.no_former h k l) =
      met b (sized b.former) _ _ h ∙ met b (sized b.state) _ _ k ∙ decoded_not b (decode_former b.former) _ (bring_on b) (none_former b.former l)
  bringing_refused n (BringingWrong.too_heavy k m s h l) =
      met b (sized b.former) _ _ (former_sized h) ∙ met b (sized b.state) _ _ k ∙ decoded_held b (decode_former b.former) _ (bring_on b) s ((decode_former_lem b.former s).1 (m, h))
      ∙ unmet b (leb (store_weight s) limit) _ _ (λ t. let w : store_weight s ≤ limit = leb→le (store_weight s) limit t in omega arith)

  bringing_either : ((n : ℕ) × (s : Store) × Bringable b n s) ⊎ ((n : ℕ) × BringingWrong b n)
  bringing_either = elim (decided (sized b.former)) [
    | inr h ↦ inr (2, BringingWrong.former_size h)
    | inl h ↦ elim (decided (sized b.state)) [
      | inr k ↦ inr (2, BringingWrong.state_size h k)
      | inl k ↦ elim (former_or_not b.former) [
        | inr l ↦ inr (10, BringingWrong.no_former h k l)
        | inl (n, s, m) ↦ elim (decided (leb (store_weight s) limit)) [
          | inr w ↦ inr (11, BringingWrong.too_heavy k n s m (nleb→lt (store_weight s) limit (not_T (leb (store_weight s) limit) w)))
          | inl w ↦ inl (n, s, record { state_sized = k; holds = m; is_light = leb→le (store_weight s) limit w })
        ]
      ]
    ]
  ]

  bringing_right : ((n : ℕ) × (s : Store) × Bringable b n s) ⊎ ((n : ℕ) × BringingWrong b n) → IsRight (bring_call b).answer ⊎ ((n : ℕ) × BringingWrong b n)
  bringing_right (inl (n, s, h)) = inl (subst (λ (r : Reply BringBuffers). IsRight r.answer) (sym (brings n s h)) tt)
  bringing_right (inr w) = inr w

  bringing_number : (n : ℕ) → ((bring_call b).answer ≡ wrong n) ↔ BringingWrong b n
  bringing_number = exactly b (bring_call b) (BringingWrong b) bringing_refused (bringing_right bringing_either)

  bringing_kept : (n : ℕ) → (bring_call b).answer ≡ wrong n → (bring_call b).lent ≡ b
  bringing_kept = kept b (bring_call b) (BringingWrong b) bringing_refused (bringing_right bringing_either)

  bringing_brought : (n : ℕ) (s : Store) → Bringable b n s
      → ((bring_call b).answer ≡ ready) × Holds (bring_call b).lent.state s × ((bring_call b).lent.former ≡ b.former)
  bringing_brought n s h =
      let e : (bring_call b).answer ≡ ready = ap (λ (r : Reply BringBuffers). r.answer) (brings n s h) in
      (e, brought_holds b n s h.holds e, ap (λ (r : Reply BringBuffers). r.lent.former) (brings n s h))

-- ---- sheets

module _ (b : SheetBuffers) (x : Text) where
  lists : (s : Store) → Listable b x s → sheet_call b x ≡ sheet_reply b x s
  lists s h =
      met b (sized b.output) _ _ h.output_sized ∙ met b (sized b.state) _ _ (is_sized h.holds)
      ∙ decoded_held b (decode b.state) _ (sheet_on b x) s (holds_decodes h.holds) ∙ met b (present (value_in s.variables x)) _ _ h.is_variable

  sheet_refused : (n : ℕ) → SheetWrong b x n → sheet_call b x ≡ refuse b n
  sheet_refused n (SheetWrong.output_size h) = unmet b (sized b.output) _ _ h
  sheet_refused n (SheetWrong.state_size h k) = met b (sized b.output) _ _ h ∙ unmet b (sized b.state) _ _ k
  sheet_refused n (SheetWrong.no_state h k l) =
      met b (sized b.output) _ _ h ∙ met b (sized b.state) _ _ k ∙ decoded_not b (decode b.state) _ (sheet_on b x) (none_decoded b.state l)
  sheet_refused n (SheetWrong.no_variable h s m k) =
      met b (sized b.output) _ _ h ∙ met b (sized b.state) _ _ (is_sized m)
      ∙ decoded_held b (decode b.state) _ (sheet_on b x) s (holds_decodes m) ∙ unmet b (present (value_in s.variables x)) _ _ k

  sheet_either : ((s : Store) × Listable b x s) ⊎ ((n : ℕ) × SheetWrong b x n)
  sheet_either = elim (decided (sized b.output)) [
    | inr h ↦ inr (1, SheetWrong.output_size h)
    | inl h ↦ elim (decided (sized b.state)) [
      | inr k ↦ inr (2, SheetWrong.state_size h k)
      | inl k ↦ elim (held_or_not b.state) [
        | inr l ↦ inr (4, SheetWrong.no_state h k l)
        | inl m ↦ elim (decided (present (value_in m.0.variables x))) [
          | inr v ↦ inr (7, SheetWrong.no_variable h m.0 m.1 v)
          | inl v ↦ inl (m.0, record { output_sized = h; holds = m.1; is_variable = v })
        ]
      ]
    ]
  ]

  sheet_right : ((s : Store) × Listable b x s) ⊎ ((n : ℕ) × SheetWrong b x n) → IsRight (sheet_call b x).answer ⊎ ((n : ℕ) × SheetWrong b x n)
  sheet_right (inl (s, h)) = inl (subst (λ (r : Reply SheetBuffers). IsRight r.answer) (sym (lists s h)) tt)
  sheet_right (inr w) = inr w

  sheet_number : (n : ℕ) → ((sheet_call b x).answer ≡ wrong n) ↔ SheetWrong b x n
  sheet_number = exactly b (sheet_call b x) (SheetWrong b x) sheet_refused (sheet_right sheet_either)

  sheet_kept : (n : ℕ) → (sheet_call b x).answer ≡ wrong n → (sheet_call b x).lent ≡ b
  sheet_kept = kept b (sheet_call b x) (SheetWrong b x) sheet_refused (sheet_right sheet_either)

  sheet_state_lem : (sheet_call b x).lent.state ≡ b.state
  sheet_state_lem = elim sheet_either [
    | inl a ↦ ap (λ (r : Reply SheetBuffers). r.lent.state) (lists a.0 a.1)
    | inr w ↦ ap (λ (r : Reply SheetBuffers). r.lent.state) (sheet_refused w.0 w.1)
  ]

-- ---- the demands

demand_1 : Demand1
demand_1 = record {
  ends = λ b program s h. ap (λ (r : Reply Buffers). r.answer) (runs b program s h);
  fits = λ b program s h. output_fits s (store_valid h.holds) program;
  state_again = λ b program s h. (left s (end_of s program), state_after_lem b program s h);
  line_each = λ b program s h p lines t e k.
      ap (λ (d : End). line_count (output d)) k
      ∙ line_each s (store_valid h.holds) p (parse_valid program p e) lines t (ap (run s) (sym e) ∙ k);
  one_line = λ b program s h r e. (
    ap (λ (k : End). line_count (output k)) e ∙ one r,
    ap (λ (k : Reply Buffers). k.lent.output) (runs b program s h ∙ ap (end_reply b) e),
    ap (λ (k : Reply Buffers). k.lent.state) (runs b program s h ∙ ap (end_reply b) e),
  );
  run_number = run_number;
  run_either = run_either;
  run_kept = run_kept;
  question_number = question_number;
  question_either = question_either;
  question_kept = question_kept;
  making_number = making_number;
  making_either = making_either;
  making_kept = making_kept;
  making_made = making_made;
  bringing_number = bringing_number;
  bringing_either = bringing_either;
  bringing_kept = bringing_kept;
  bringing_brought = bringing_brought;
  sheet_number = sheet_number;
  sheet_either = sheet_either;
  sheet_kept = sheet_kept;
  sheet_state_lem = sheet_state_lem;
  sheet_listed = λ b x s h. sheeted b (store_valid h.holds) (lists b x s h);
}

demand_2 : Demand2
demand_2 = record {
  lines = λ b program s h. ap (λ (k : Reply Buffers). k.lent.output) (runs b program s h);
  state = state_after_lem;
  work = λ b program s h. ap (λ (k : Reply Buffers). k.lent.work) (runs b program s h);
}

pub demands : Demands
demands = record { first = demand_1; second = demand_2; third = demand_3 }
