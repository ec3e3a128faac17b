-- The end of a run: a refusal leaves the state as it was, a completed program leaves its own.
-- Assumes nothing.
use mathlib.Core.Path.{◌≡◌, sym, ap, subst, ◌∙◌}
use Prim.Native.Nat.{ℕ}
use mathlib.Core.Bool.{Bool}
use mathlib.Core.Option.{Option}
use lib.ListN.{length, take}
use Rattle.language.specs.Text.{Text, when◌then◌else◌}
use Rattle.language.specs.Syntax.{Name}
use Rattle.language.specs.Encode.{state_text, padded}
use Rattle.language.specs.Commands.{Refusal}
use Rattle.language.specs.Run.{End, refusal, completed, output, Kind, returned, exited, kind_of, tally, tallied, line_count}
use Rattle.language.specs.Calls.{state_after}
use Rattle.session.specs.declared.Layout.{Layout}
use Rattle.session.specs.Sessions.{Slices}
use Rattle.answers.specs.declared.Kind as Is
use Rattle.answers.specs.declared.Answer.{Answer}
use Rattle.answers.specs.Answers.{kind_meant}
use Rattle.outcome.specs.Ends.{Completes}
use Rattle.closing.specs.Closed.{Closed}
use Rattle.closing.proofs.Closings.{first_bytes, first_text}
use Rattle.ending.specs.Endings.{end_or}

-- ---- a refusal: the state's bytes are as they were

module _ {r : Answer} {f : Refusal} {work out : Text} (C : Closed r (refusal f) work out) {e : End} (h : e ≡ refusal f) where
  pub closed_refusal : Closed r e work out
  closed_refusal = subst (λ (k : End). Closed r k work out) (sym h) C

  pub kept : (state : Text) → state ≡ state_after state e
  kept state = sym (ap (state_after state) h)

-- ---- a completed program

module _ {p : Name} {e : Option End} {l : Layout} {n count : ℕ} {b : Slices} {before after : Text} (C : Completes p e l n count b before after) where
  the_end : end_or e ≡ completed C.lines C.session.store
  the_end = ap end_or C.is_end

  pub kind_is : (k : Is.Kind) → kind_meant k ≡ (when◌then◌else◌ {A = Kind} l.is_open returned exited) → kind_meant k ≡ kind_of (end_or e)
  kind_is k h = h ∙ ap (λ (o : Bool). when◌then◌else◌ {A = Kind} o returned exited) C.running.is_open ∙ sym (ap kind_of the_end)

  pub count_is : count ≡ line_count (output (end_or e))
  count_is = C.counted ∙ sym (ap (λ (k : End). line_count (output k)) the_end)

  pub bytes_are : n ≡ length (output (end_or e))
  bytes_are = first_bytes (sym (ap output the_end)) C.printed

  pub lines_are : take n after ≡ output (end_or e)
  lines_are = first_text (sym (ap output the_end)) C.printed

  pub state_is : (state-before state_after_lem : Text) → state_after_lem ≡ padded (state_text (tally C.session.sender C.session.store))
      → state_after_lem ≡ state_after state-before (tallied p (end_or e))
  state_is state-before state_after_lem h =
      h
      ∙ ap (λ (q : Name). padded (state_text (tally q C.session.store))) C.sent
      ∙ sym (ap (λ (k : End). state_after state-before (tallied p k)) the_end)

-- that a program counts shows neither in its lines nor in its kind
pub closed_tallied : {r : Answer} {work out : Text} (p : Name) (e : End) → Closed r e work out → Closed r (tallied p e) work out
closed_tallied p (refusal f) C = C
closed_tallied p (completed lines s) C = record { answered = C.answered; output_is = C.output_is; work_is = C.work_is }
