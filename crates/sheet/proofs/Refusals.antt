-- A sheet is refused with the number of the first test that fails; where all are met, it is printed.
-- Assumes nothing.
use mathlib.Core.Path.{◌≡◌, sym, ap, ◌∙◌}
use mathlib.Core.Option.{Option, none, some}
use borrow.Author.Tests.{eq-eqb, ne_eqb}
use lib.ListN.{length}
use Rattle.language.specs.Text.{present}
use Rattle.language.specs.Syntax.{Name}
use Rattle.language.specs.State.{Value, Store, value_in}
use Rattle.language.specs.Decode.{decode}
use Rattle.language.specs.Calls.{Reply, refuse, decoded, sized, SheetBuffers, sheet_reply, sheet_on, sheet_call}
use Rattle.language.proofs.Histories.Checks.{passed, stopped}

module _ (b : SheetBuffers) (x : Name) where
  pub sheet_output : (length b.output ≡ 65536 → ⊥) → refuse b 1 ≡ sheet_call b x
  sheet_output n = stopped b (sized b.output) 1 _ (ne_eqb (length b.output) 65536 n)

  module _ (h : length b.output ≡ 65536) where
    pub sheet_size : (length b.state ≡ 65536 → ⊥) → refuse b 2 ≡ sheet_call b x
    sheet_size n = stopped b (sized b.state) 2 _ (ne_eqb (length b.state) 65536 n) ∙ passed b (sized b.output) 1 _ (eq-eqb (length b.output) 65536 h)

    module _ (k : length b.state ≡ 65536) where
      -- both sizes are right
      by_text : (o : Option Store) → decode b.state ≡ o → decoded b o 4 (sheet_on b x) ≡ sheet_call b x
      by_text o e =
          ap (λ (t : Option Store). decoded b t 4 (sheet_on b x)) (sym e)
          ∙ passed b (sized b.state) 2 _ (eq-eqb (length b.state) 65536 k)
          ∙ passed b (sized b.output) 1 _ (eq-eqb (length b.output) 65536 h)

      pub sheet_form : decode b.state ≡ none → refuse b 4 ≡ sheet_call b x
      sheet_form e = by_text none e

      pub sheet_on_lem : (s : Store) → decode b.state ≡ some s → (r : Reply SheetBuffers) → r ≡ sheet_on b x s → r ≡ sheet_call b x
      sheet_on_lem s e r q = q ∙ by_text (some s) e

  -- ---- on a state that was decoded

  module _ (s : Store) where
    pub unknown_variable : value_in s.variables x ≡ none → refuse b 7 ≡ sheet_on b x s
    unknown_variable e = stopped b _ 7 _ (ap (λ (o : Option Value). present o) e)

    pub known_variable : (v : Value) → value_in s.variables x ≡ some v → sheet_reply b x s ≡ sheet_on b x s
    known_variable v e = passed b _ 7 _ (ap (λ (o : Option Value). present o) e)
