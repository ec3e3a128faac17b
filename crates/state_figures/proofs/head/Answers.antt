use mathlib.Core.Path.{ap, ◌∙◌}
use mathlib.Core.List.{[], ◌∷◌, ◌++◌}
use Prim.Native.Nat.{ℕ}
use native.Mathlib.Omega.{arith}
use lib.ListN.{drop, length-set}
use Rattle.state_figures.proofs.Filling.{six}
use Rattle.state_figures.proofs.head.Goals as goal

pub bounds-out-1 : goal.bounds-out-1
bounds-out-1 c = simp length-set (omega arith)

pub bounds-out-2 : goal.bounds-out-2
bounds-out-2 c = simp length-set (omega arith)

pub bounds-out-3 : goal.bounds-out-3
bounds-out-3 c = simp length-set (omega arith)

pub bounds-out-4 : goal.bounds-out-4
bounds-out-4 c = simp length-set (omega arith)

pub returns : goal.returns
returns c =
    let a = c.args in
    let p = a.parts in
    let l = a.out.now in
    six c.bit.result p.weight p.principals p.delegator p.vars p.asserted l c.requires
    ∙ ap (λ (v : ℕ). (v ∷ p.weight ∷ p.principals ∷ p.delegator ∷ p.vars ∷ p.asserted ∷ []) ++ drop 6 l) c.bit.ensures
