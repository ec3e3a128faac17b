-- Without a right login a program is refused for its text alone.
use mathlib.Core.Path.{◌≡◌, refl, sym, ap, ◌∙◌}
use mathlib.Core.Option.{Option, none, some}
use Rattle.language.specs.Text.{Text}
use Rattle.language.specs.Syntax.{Program}
use Rattle.language.specs.State.{Store, named}
use Rattle.language.specs.Commands.{Refusal, DENIED, FAILED}
use Rattle.language.specs.Programs.{parse}
use Rattle.language.specs.Run.{refusal, Login, mistaken, right, login, begin, run_as, run}
use Rattle.language.specs.Calls.{Buffers, Reply, end_reply, run_call}
use Rattle.language.specs.Demands.{Sent}
use Rattle.language.specs.Enumeration.{Unauthenticated, NoEnumeration}
use Rattle.language.proofs.Meaning.Logins.{right_kept}
use Rattle.language.proofs.Demanded.{runs}

abbrev ground : Option Program → Refusal
ground none = FAILED
ground (some p) = DENIED

turned_away : (s : Store) (o : Option Program) → ((p : Program) → o ≡ some p → ¬ (login s p ≡ right)) → run s o ≡ refusal (ground o)
turned_away s none h = refl
turned_away s (some p) h = go (login s p) refl
  where
    go : (l : Login) → login s p ≡ l → run_as l (begin s p) p.commands ≡ refusal DENIED
    go mistaken e = refl
    go right e = absurd (h p refl e)

not_right : (s : Store) (text : Text) → Unauthenticated s text → (p : Program) → parse text ≡ some p → ¬ (login s p ≡ right)
not_right s text u p e r = let kept = right_kept p.password (named s.principals p.sender) r in u p e kept.0 kept.1 kept.2

replied : (b : Buffers) (text : Text) (s : Store) → Sent b s → Unauthenticated s text → run_call b text ≡ end_reply b (refusal (ground (parse text)))
replied b text s h u = runs b text s h ∙ ap (end_reply b) (turned_away s (parse text) (not_right s text u))

pub no_enumeration : NoEnumeration
no_enumeration = record {
  alike = λ b c text s t h k u v.
      let q = replied b text s h u in
      let r = replied c text t k v in
      record {
        answer = ap (λ (n : Reply Buffers). n.answer) q ∙ sym (ap (λ (n : Reply Buffers). n.answer) r);
        output = ap (λ (n : Reply Buffers). n.lent.output) q ∙ sym (ap (λ (n : Reply Buffers). n.lent.output) r);
        work = ap (λ (n : Reply Buffers). n.lent.work) q ∙ sym (ap (λ (n : Reply Buffers). n.lent.work) r);
      };
  kept = λ b text s h u. ap (λ (n : Reply Buffers). n.lent.state) (replied b text s h u);
}
