-- What the next call answers and leaves, where the buffer holds the record of the calls.
use mathlib.Core.Path.{◌≡◌, refl, sym, ap, ◌∙◌}
use mathlib.Core.Logic.{◌↔◌}
use Prim.Native.Nat.{ℕ}
use native.Mathlib.Nat.{le_antisymm}
use native.Mathlib.Omega.{arith}
use mathlib.Core.Bool.{Bool, true, false, not}
use mathlib.Core.Option.{Option, none, some}
use lib.Dec.{T, leb}
use Rattle.language.specs.Text.{Text, when◌then◌else◌, present}
use Rattle.language.specs.Syntax.{Name, Right}
use Rattle.language.specs.State.{named, value_in}
use Rattle.language.specs.Weight.{limit, store_weight}
use Rattle.language.specs.Valid.{well_formed}
use Rattle.language.specs.Chains.{Chain, Shortest, chain_length}
use Rattle.language.specs.Output.{status}
use Rattle.language.specs.Encode.{padded}
use Rattle.language.specs.Decode.{Holds}
use Rattle.language.specs.Programs.{parse}
use Rattle.language.specs.Commands.{DENIED}
use Rattle.language.specs.Run.{End, refusal, completed, run, output, returned, exited, stopped, kind_of, result}
use Rattle.language.specs.Calls.{Answer, wrong, ended, yes, no, Buffers, SheetBuffers, checked, sized, end_reply, run_call, right_byte, length_answer, question, sheet_reply}
use Rattle.language.specs.History.{Call, send, ask, sheet, state_of, sheet_at, reply, Book, run_fault, ask_fault, sheet_fault, fault, is_wrong, Completes, Offends, Sheeted}
use Rattle.language.proofs.Logic.Tests.{both}
use Rattle.language.proofs.StateText.Shape.{Shape, shape}
use Rattle.language.proofs.Rights.Search.{none_there, one_there}
use Rattle.language.proofs.Histories.Offences.{sound, run_denied}
use Rattle.language.proofs.Histories.Mirror.{lent_for, lent_sheet, whole_reply, reply_send, reply_ask, sheet_held, whole_sheet, sheet_keeps, store_valid}
use Rattle.language.proofs.Histories.Sheets.{sheeted}

-- answers may be replaced by equal ones
along : {A : Type 0} {a a' : Answer} → a ≡ a' → (c : Answer) → (a' ≡ c) ↔ A → (a ≡ c) ↔ A
along e c i = (λ h. i.0 (sym e ∙ h), λ h. e ∙ i.1 h)

-- a program's result is that of DENIED exactly where it ended so
denied_result : (e : End) → (ended (result e) ≡ ended (result (refusal DENIED))) ↔ (e ≡ refusal DENIED)
denied_result e = (λ h. go e (same_kind h), λ h. ap (λ k. ended (result k)) h)
  where
    same_kind : ended (result e) ≡ ended (result (refusal DENIED)) → kind_of e ≡ stopped DENIED
    same_kind h = let r : result e ≡ result (refusal DENIED) = cc in ap (λ k. k.kind) r

    open_kind : (b : Bool) → (when b then returned else exited) ≡ stopped DENIED → ⊥
    open_kind true h = let z : ◌≡◌ {A = ℕ} 0 1 = cc in omega arith
    open_kind false h = let z : ◌≡◌ {A = ℕ} 0 1 = cc in omega arith

    go : (e : End) → kind_of e ≡ stopped DENIED → e ≡ refusal DENIED
    go (refusal r) h = cc
    go (completed lines s) h = absurd (open_kind s.is_open h)

module _ (buffer : Text) (b : Book) (m : Holds buffer b) where
  book_shape : Shape b
  book_shape = shape b (both (well_formed b) (leb (store_weight b) limit) (store_valid m)).0

  -- ---- numbers

  pub next_number : (c : Call) (n : ℕ) → ((reply buffer c).answer ≡ wrong n) ↔ (fault b c ≡ some n)
  next_number (send o w t) n = along (ap (λ k. k.answer) (reply_send m o w t)) (wrong n) (go (sized o) (sized w) b.is_open (run b (parse t)))
    where
      l : Buffers
      l = lent_for buffer o w

      go : (p q r : Bool) (e : End) → ((checked l p 1 (checked l q 3 (checked l r 5 (end_reply l e)))).answer ≡ wrong n)
          ↔ (run_fault p q r ≡ some n)
      go false q r e = (λ h. cc, λ h. cc)
      go true false r e = (λ h. cc, λ h. cc)
      go true true false e = (λ h. cc, λ h. cc)
      go true true true e = (λ h. cc, λ h. cc)
  next_number (ask p x byte) n =
      along (ap (λ k. k.answer) (reply_ask m p x byte)) (wrong n)
      (go (present (named b.principals p)) (present (value_in b.variables x)) (right_byte byte) refl refl)
    where
      answer_number : (o : Option ℕ) → (length_answer o ≡ wrong n) ↔ (none ≡ some n)
      answer_number none = (λ h. cc, λ h. cc)
      answer_number (some k) = (λ h. cc, λ h. cc)

      go : (k l : Bool) (o : Option Right) → present (named b.principals p) ≡ k → present (value_in b.variables x) ≡ l
          → (question b p x o ≡ wrong n) ↔ (ask_fault k l (present o) ≡ some n)
      go false l none ek el = rw ek (λ h. cc, λ h. cc)
      go true false none ek el = rw ek (λ h. cc, λ h. cc)
      go true true none ek el = rw ek (λ h. cc, λ h. cc)
      go false l (some r) ek el = rw ek (λ h. cc, λ h. cc)
      go true false (some r) ek el = rw (ek, el) (λ h. cc, λ h. cc)
      go true true (some r) ek el = rw (ek, el) (answer_number (chain_length b r x p))
  next_number (sheet o x) n =
      along (ap (λ k. k.answer) (sheet_held m o x)) (wrong n) (go (sized o) (present (value_in b.variables x)))
    where
      l : SheetBuffers
      l = lent_sheet buffer o

      go : (p q : Bool) → ((checked l p 1 (checked l q 7 (sheet_reply l x b))).answer ≡ wrong n) ↔ (sheet_fault p q ≡ some n)
      go false q = (λ h. cc, λ h. cc)
      go true false = (λ h. cc, λ h. cc)
      go true true = (λ h. cc, λ h. cc)

  -- ---- programs

  right_answer : (o w t : Text) → T (not (is_wrong b (send o w t))) → (reply buffer (send o w t)).answer ≡ ended (result (run b (parse t)))
  right_answer o w t h = ap (λ k. k.answer) (reply_send m o w t) ∙ go (sized o) (sized w) b.is_open h
    where
      l : Buffers
      l = lent_for buffer o w

      go : (p q r : Bool) → T (not (present (run_fault p q r)))
          → (checked l p 1 (checked l q 3 (checked l r 5 (end_reply l (run b (parse t)))))).answer ≡ ended (result (run b (parse t)))
      go false q r h = absurd h
      go true false r h = absurd h
      go true true false h = absurd h
      go true true true h = refl

  pub next_denial : (o w t : Text) → T (not (is_wrong b (send o w t)))
      → ((reply buffer (send o w t)).answer ≡ ended (result (refusal DENIED))) ↔ Offends b t
  next_denial o w t h =
      let r = run_denied b (store_valid m) t in
      let d = denied_result (run b (parse t)) in
      (λ e. r.0 (d.0 (sym (right_answer o w t h) ∙ e)), λ k. right_answer o w t h ∙ d.1 (r.1 k))

  pub next_denied_line : (o w t : Text) → T (not (is_wrong b (send o w t))) → Offends b t → (run_call (lent_for buffer o w) t).lent.output ≡ padded (status "DENIED")
  next_denied_line o w t h f =
      ap (λ r. r.lent.output) (whole_reply m o w t h) ∙ ap (λ e. padded (output e)) ((run_denied b (store_valid m) t).1 f)

  pub next_kept : (c : Call) → ¬ Completes b c → (reply buffer c).lent ≡ buffer
  next_kept (send o w t) n = ap (λ k. k.lent) (reply_send m o w t) ∙ go (sized o) (sized w) b.is_open (run b (parse t)) refl refl refl refl
    where
      l : Buffers
      l = lent_for buffer o w

      not_wrong : sized o ≡ true → sized w ≡ true → b.is_open ≡ true → T (not (is_wrong b (send o w t)))
      not_wrong ep eq er = rw (ep, eq, er) tt

      go : (p q r : Bool) (e : End) → sized o ≡ p → sized w ≡ q → b.is_open ≡ r → run b (parse t) ≡ e
          → (state_of (checked l p 1 (checked l q 3 (checked l r 5 (end_reply l e))))).lent ≡ buffer
      go false q r e ep eq er ee = refl
      go true false r e ep eq er ee = refl
      go true true false e ep eq er ee = refl
      go true true true (refusal f) ep eq er ee = refl
      go true true true (completed lines next) ep eq er ee = absurd (n (record {
        output = o;
        work = w;
        program = t;
        is_program = refl;
        is_right = not_wrong ep eq er;
        lines = lines;
        next = next;
        is_completed = ee;
      }))
  next_kept (ask p x r) n = ap (λ k. k.lent) (reply_ask m p x r)
  next_kept (sheet o x) n = sheet_keeps m o x

  -- ---- sheets

  pub next_sheet : (o x : Text) → T (not (is_wrong b (sheet o x))) → Sheeted b x (sheet_at buffer o x)
  next_sheet o x h = sheeted (lent_sheet buffer o) (store_valid m) (whole_sheet m o x h)

  -- ---- questions

  -- one rightly asked is answered by the search
  asked : (p x : Text) (byte : ℕ) (r : Right) → right_byte byte ≡ some r → T (not (is_wrong b (ask p x byte)))
      → (reply buffer (ask p x byte)).answer ≡ length_answer (chain_length b r x p)
  asked p x byte r e h =
      ap (λ k. k.answer) (reply_ask m p x byte)
      ∙ ap (question b p x) e
      ∙ go (present (named b.principals p)) (present (value_in b.variables x)) (present (right_byte byte)) h
    where
      go : (k l i : Bool) → T (not (present (ask_fault k l i)))
          → (when not k then wrong 6 else when not l then wrong 7 else length_answer (chain_length b r x p)) ≡ length_answer (chain_length b r x p)
      go false l i h = absurd h
      go true false i h = absurd h
      go true true false h = absurd h
      go true true true h = refl

  module _ (p x : Name) (r : Right) where
    found : (n : ℕ) → chain_length b r x p ≡ some n → Shortest b r x n p
    found n e = one_there b r x (sound b book_shape).has_admin ((sound b book_shape).has_target r x) p n e

    missing : chain_length b r x p ≡ none → (n : ℕ) → ¬ Chain b r x n p
    missing e = none_there b r x (sound b book_shape).has_admin ((sound b book_shape).has_target r x) p e

    yes_shortest : (n : ℕ) → (length_answer (chain_length b r x p) ≡ yes n) ↔ Shortest b r x n p
    yes_shortest n = go (chain_length b r x p) refl
      where
        differ : no ≡ yes n → ⊥
        differ h = let z : ◌≡◌ {A = ℕ} 0 1 = cc in omega arith

        go : (o : Option ℕ) → chain_length b r x p ≡ o → (length_answer o ≡ yes n) ↔ Shortest b r x n p
        go none e = (λ h. absurd (differ h), λ h. absurd (missing e n h.chain))
        go (some k) e = (
          λ h. found n (e ∙ same_length h),
          λ h. ap yes (le_antisymm ((found k e).least n h.chain) (h.least k (found k e).chain)),
        )
          where
            same_length : yes k ≡ yes n → some k ≡ some n
            same_length h = cc

    no_chain : (length_answer (chain_length b r x p) ≡ no) ↔ ((n : ℕ) → ¬ Chain b r x n p)
    no_chain = go (chain_length b r x p) refl
      where
        differ : (k : ℕ) → yes k ≡ no → ⊥
        differ k h = let z : ◌≡◌ {A = ℕ} 0 1 = cc in omega arith

        go : (o : Option ℕ) → chain_length b r x p ≡ o → (length_answer o ≡ no) ↔ ((n : ℕ) → ¬ Chain b r x n p)
        go none e = (λ h. missing e, λ h. refl)
        go (some k) e = (λ h. absurd (differ k h), λ h. absurd (h k (found k e).chain))

  pub next_yes : (p x : Text) (byte : ℕ) (r : Right) → right_byte byte ≡ some r → T (not (is_wrong b (ask p x byte)))
      → (n : ℕ) → ((reply buffer (ask p x byte)).answer ≡ yes n) ↔ Shortest b r x n p
  next_yes p x byte r e h n = along (asked p x byte r e h) (yes n) (yes_shortest p x r n)

  pub next_no : (p x : Text) (byte : ℕ) (r : Right) → right_byte byte ≡ some r → T (not (is_wrong b (ask p x byte)))
      → ((reply buffer (ask p x byte)).answer ≡ no) ↔ ((n : ℕ) → ¬ Chain b r x n p)
  next_no p x byte r e h = along (asked p x byte r e h) no (no_chain p x r)
