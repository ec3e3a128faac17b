-- Bringing a state over is refused with the number of the first test that fails; where all are met, it is brought over.
-- Assumes nothing.
use mathlib.Core.Path.{◌≡◌, sym, ap, ◌∙◌}
use mathlib.Core.Option.{Option, none, some}
use Prim.Native.Nat.{◌≤◌, ◌<◌}
use borrow.Author.Tests.{eq-eqb, ne_eqb, le-leb, lt-leb}
use lib.ListN.{length}
use Rattle.language.specs.State.{Store}
use Rattle.language.specs.Weight.{store_weight}
use Rattle.language.specs.Encode.{state_text, padded}
use Rattle.language.specs.Former.{decode_former}
use Rattle.language.specs.Calls.{ready, refuse, sized, decoded, BringBuffers, bring_on, bring_call}
use Rattle.language.proofs.Histories.Checks.{passed, stopped}

module _ (b : BringBuffers) where
  pub former_size : (length b.former ≡ 65536 → ⊥) → refuse b 2 ≡ bring_call b
  former_size h = stopped b (sized b.former) 2 _ (ne_eqb (length b.former) 65536 h)

  module _ (h : length b.former ≡ 65536) where
    pub state_size : (length b.state ≡ 65536 → ⊥) → refuse b 2 ≡ bring_call b
    state_size k = stopped b (sized b.state) 2 _ (ne_eqb (length b.state) 65536 k) ∙ passed b (sized b.former) 2 _ (eq-eqb (length b.former) 65536 h)

    module _ (k : length b.state ≡ 65536) where
      -- both sizes are right
      by_text : (o : Option Store) → decode_former b.former ≡ o → decoded b o 10 (bring_on b) ≡ bring_call b
      by_text o e =
          ap (λ (x : Option Store). decoded b x 10 (bring_on b)) (sym e)
          ∙ passed b (sized b.state) 2 _ (eq-eqb (length b.state) 65536 k)
          ∙ passed b (sized b.former) 2 _ (eq-eqb (length b.former) 65536 h)

      pub not_formed : decode_former b.former ≡ none → refuse b 10 ≡ bring_call b
      not_formed e = by_text none e

      module _ (s : Store) (e : decode_former b.former ≡ some s) where
        pub too_heavy : 8192 < store_weight s → refuse b 11 ≡ bring_call b
        too_heavy l = stopped b _ 11 _ (lt-leb (store_weight s) 8192 l) ∙ by_text (some s) e

        pub brought_over : store_weight s ≤ 8192 → record { answer = ready; lent = record { former = b.former; state = padded (state_text s) } } ≡ bring_call b
        brought_over l = passed b _ 11 _ (le-leb (store_weight s) 8192 l) ∙ by_text (some s) e
