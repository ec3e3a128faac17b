-- A program is refused with the number of the first test that fails; where all are met, it is run.
-- Assumes nothing.
use mathlib.Core.Path.{◌≡◌, sym, ap, ◌∙◌}
use mathlib.Core.Bool.{true, false}
use mathlib.Core.Option.{Option, none, some}
use borrow.Author.Tests.{eq-eqb, ne_eqb}
use lib.ListN.{length}
use Rattle.language.specs.Text.{Text}
use Rattle.language.specs.State.{Store}
use Rattle.language.specs.Decode.{decode}
use Rattle.language.specs.Programs.{parse}
use Rattle.language.specs.Run.{run}
use Rattle.language.specs.Calls.{Reply, refuse, checked, decoded, sized, Buffers, end_reply, run_on, run_call}
use Rattle.language.proofs.Histories.Checks.{passed, stopped}

module _ (b : Buffers) (program : Text) where
  pub run_output : (length b.output ≡ 65536 → ⊥) → refuse b 1 ≡ run_call b program
  run_output h = stopped b (sized b.output) 1 _ (ne_eqb (length b.output) 65536 h)

  module _ (o : length b.output ≡ 65536) where
    output_met : (r : Reply Buffers) → r ≡ checked b (sized b.output) 1 r
    output_met r = passed b (sized b.output) 1 r (eq-eqb (length b.output) 65536 o)

    pub run_state : (length b.state ≡ 65536 → ⊥) → refuse b 2 ≡ run_call b program
    run_state h = stopped b (sized b.state) 2 _ (ne_eqb (length b.state) 65536 h) ∙ output_met _

    module _ (s : length b.state ≡ 65536) where
      state_met : (r : Reply Buffers) → r ≡ checked b (sized b.output) 1 (checked b (sized b.state) 2 r)
      state_met r = passed b (sized b.state) 2 r (eq-eqb (length b.state) 65536 s) ∙ output_met _

      pub run_work : (length b.work ≡ 65536 → ⊥) → refuse b 3 ≡ run_call b program
      run_work h = stopped b (sized b.work) 3 _ (ne_eqb (length b.work) 65536 h) ∙ state_met _

      module _ (w : length b.work ≡ 65536) where
        sizes_met : (k : Option Store) → decode b.state ≡ k → decoded b k 4 (run_on b program) ≡ run_call b program
        sizes_met k e =
            sym (ap (λ (o : Option Store). decoded b o 4 (run_on b program)) e)
            ∙ passed b (sized b.work) 3 _ (eq-eqb (length b.work) 65536 w)
            ∙ state_met _

        pub run_form : decode b.state ≡ none → refuse b 4 ≡ run_call b program
        run_form e = sizes_met none e

        module _ (k : Store) (e : decode b.state ≡ some k) where
          pub run_closed : k.is_open ≡ false → refuse b 5 ≡ run_call b program
          run_closed h = stopped b k.is_open 5 _ h ∙ sizes_met (some k) e

          pub run_done : k.is_open ≡ true → end_reply b (run k (parse program)) ≡ run_call b program
          run_done h = passed b k.is_open 5 _ h ∙ sizes_met (some k) e
