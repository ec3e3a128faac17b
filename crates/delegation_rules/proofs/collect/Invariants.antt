use mathlib.Core.Path.{◌≡◌}
use Prim.Native.Nat.{◌≤◌}
use lib.ListN.{take}
use Rattle.language.specs.Syntax.{Name}
use Rattle.language.specs.State.{Store}
use Rattle.delegation_rules.specs.Numbered.{Numbered, Counted}
use Rattle.delegation_rules.proofs.Gathering.{gathered}
use Rattle.delegation_rules.proofs.collect.Given as goal

abbrev pub invariant-loop-k : goal.invariant-loop-k
invariant-loop-k l = (l.n ≤ l.k) × ((s : Store) (name : Name) → Counted s l.assertions l.asserted l.principals l.vars → Numbered s name l.q → take l.n l.targets ≡ gathered s name l.k)
