use mathlib.Core.Path.{◌≡◌, sym, ◌∙◌}
use mathlib.Core.List.{[]}
use Prim.Native.Nat.{◌+◌, ◌≤◌, ◌<◌}
use native.Mathlib.Omega.{arith}
use lib.ListN.{length, get_or, take}
use Rattle.language.specs.Syntax.{Name, delegate}
use Rattle.language.specs.State.{Store}
use Rattle.named_rights.specs.Numbers.{variables}
use Rattle.delegation_rules.specs.Numbered.{Numbered, Counted}
use Rattle.delegation_rules.proofs.Gathering.{gathered, asks, gathered_more, gathered_same, gathered_all}
use Rattle.delegation_rules.proofs.collect.Goals as goal
use Rattle.delegation_rules.proofs.collect.Goals.{then-may, else-may}

pub loop-k-preserved : goal.loop-k-preserved
loop-k-preserved c =
    let low : c.if-may.n ≤ c.loop-k.k + 1 = elim c.if-may.branch [
      | then-may w ↦ omega arith
      | else-may w ↦ omega arith
    ] in
    let told : (s : Store) (name : Name) → let a = c.args in Counted s a.assertions.now a.asserted a.principals a.vars → Numbered s name a.q → take c.if-may.n c.if-may.targets ≡ gathered s name (c.loop-k.k + 1) = λ s name C N. let a = c.args in
    let l = c.loop-k in
    let h : l.k < a.vars = c.loop-k-test.true in
    let m : l.n < length l.targets = omega (arith, l.auto.targets, l.invariant.0, c.requires.3, c.requires.4) in
    let x = c.may.ensures s delegate (get_or (variables s) l.k []) name C.is_valid C.assertions_held (asks s name a.assertions.now a.asserted a.principals a.vars a.q C N l.k h) in
    elim c.if-may.branch [
      | then-may w ↦ (λ i. take (w.n-is i) (w.targets-is i)) ∙ gathered_more s name a.assertions.now a.asserted a.principals a.vars a.q C N l.targets l.n l.k h m (l.invariant.1 s name C N) (sym x ∙ w.if-may.true)
      | else-may w ↦ (λ i. take (w.n-is i) (w.targets-is i)) ∙ gathered_same s name a.assertions.now a.asserted a.principals a.vars a.q C N l.targets l.n l.k h (l.invariant.1 s name C N) (sym x ∙ w.if-may.false)
    ] in
    (low, told)

pub returns : goal.returns
returns c =
    let l = c.loop-k in
    let a = c.args in
    let e : l.k ≡ a.vars = omega (arith, l.auto.k-end, c.loop-k-test.false) in record {
      few = omega (arith, l.invariant.0, l.auto.k-end);
      are = λ s name C N. l.invariant.1 s name C N ∙ gathered_all s name a.assertions.now a.asserted a.principals a.vars a.q C N l.k e;
    }
