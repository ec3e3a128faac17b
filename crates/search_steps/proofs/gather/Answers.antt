use mathlib.Core.Path.{◌≡◌, sym, ap, ◌∙◌}
use mathlib.Core.List.{List, map}
use Prim.Native.Nat.{ℕ, ◌+◌, ◌<◌, ◌^◌}
use native.Mathlib.Omega.{arith}
use lib.ListN.{get_or, take, set}
use Rattle.assertion.specs.Packed.{Assertion, fields}
use Rattle.search_steps.specs.Steps.{handed}
use Rattle.search_steps.proofs.Gathering.{gathered_next, gathered_done, kept, passed_over}
use Rattle.search_steps.proofs.gather.Goals as goal
use Rattle.search_steps.proofs.gather.Goals.{then-key_of-key, else-key_of-key}

pub loop-packed-preserved : goal.loop-packed-preserved
loop-packed-preserved c =
    let at = c.loop-packed in
    let s = c.args in
    let i = at.packed-index in
    let packed = get_or s.assertions.now i 0 in
    let held = map handed (take at.n at.list) in
    let now = map handed (take c.if-key_of-key.n c.if-key_of-key.list) in
    let fits : s.right < 2 ^ 16 = omega arith in
    elim c.if-key_of-key.branch [
      | then-key_of-key w ↦
          let e : c.if-key_of-key.list ≡ set at.list at.n (fields packed) = w.list-is ∙ ap (set at.list at.n) w.from.ensures in
          let f : c.if-key_of-key.n ≡ at.n + 1 = w.n-is in
          let same : c.key_of.result ≡ c.key-key.result = omega (arith, w.if-key_of-key.true) in
          record {
            few = omega (arith, f);
            room = omega (arith, c.if-key_of-key.auto.list, at.invariant.room);
            those = gathered_next s.variable s.right i s.assertions.now _ held now (omega arith) at.invariant.those
                (ap (λ (k : ℕ). map handed (take k c.if-key_of-key.list)) f ∙ ap (λ (l : List Assertion). map handed (take (at.n + 1) l)) e
                ∙ kept s.variable s.right packed fits at.n at.list (omega arith) (sym c.key_of.ensures ∙ same ∙ c.key-key.ensures));
          }
      | else-key_of-key w ↦
          let e : c.if-key_of-key.list ≡ at.list = w.list-is in
          let f : c.if-key_of-key.n ≡ at.n = w.n-is in
          let other : c.key_of.result ≡ c.key-key.result → ⊥ = λ e. omega (arith, e, w.if-key_of-key.false) in
          record {
            few = omega (arith, f);
            room = omega (arith, c.if-key_of-key.auto.list, at.invariant.room);
            those = gathered_next s.variable s.right i s.assertions.now _ held now (omega arith) at.invariant.those
                (ap (λ (k : ℕ). map handed (take k c.if-key_of-key.list)) f ∙ ap (λ (l : List Assertion). map handed (take at.n l)) e
                ∙ passed_over s.variable s.right packed fits held (λ g. other (c.key_of.ensures ∙ g ∙ sym c.key-key.ensures)));
          }
    ]

pub returns-clause-those : goal.returns-clause-those
returns-clause-those c =
    let at = c.loop-packed in
    let s = c.args in
    gathered_done s.variable s.right at.packed-index s.assertions.now _ (map handed (take at.n at.list)) (omega arith) at.invariant.those
