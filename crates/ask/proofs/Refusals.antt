-- A question is refused with the number of the first test that fails; where all are met, it is answered.
-- Assumes nothing.
use mathlib.Core.Path.{◌≡◌, sym, ap, ◌∙◌}
use Prim.Native.Nat.{ℕ}
use mathlib.Core.Option.{Option, none, some}
use borrow.Author.Tests.{eq-eqb, ne_eqb}
use lib.ListN.{length}
use Rattle.language.specs.Text.{Text}
use Rattle.language.specs.Syntax.{Name}
use Rattle.language.specs.State.{Store}
use Rattle.language.specs.Decode.{decode}
use Rattle.language.specs.Calls.{Answer, refuse, decoded, sized, right_byte, question, ask_on, ask_call}
use Rattle.language.proofs.Histories.Checks.{passed, stopped}

module _ (buffer : Text) (p x : Name) (r : ℕ) where
  pub ask_size : (length buffer ≡ 65536 → ⊥) → refuse buffer 2 ≡ ask_call buffer p x r
  ask_size h = stopped buffer (sized buffer) 2 _ (ne_eqb (length buffer) 65536 h)

  module _ (h : length buffer ≡ 65536) where
    pub ask_form : decode buffer ≡ none → refuse buffer 4 ≡ ask_call buffer p x r
    ask_form e =
        sym (ap (λ (o : Option Store). decoded buffer o 4 (ask_on buffer p x r)) e)
        ∙ passed buffer (sized buffer) 2 _ (eq-eqb (length buffer) 65536 h)

    pub ask_done : (s : Store) → decode buffer ≡ some s → (a : Answer) → a ≡ question s p x (right_byte r)
        → record { answer = a; lent = buffer } ≡ ask_call buffer p x r
    ask_done s e a q =
        ap (λ (k : Answer). record { answer = k; lent = buffer }) q
        ∙ sym (ap (λ (o : Option Store). decoded buffer o 4 (ask_on buffer p x r)) e)
        ∙ passed buffer (sized buffer) 2 _ (eq-eqb (length buffer) 65536 h)
