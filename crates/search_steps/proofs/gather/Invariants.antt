use mathlib.Core.Path.{◌≡◌}
use mathlib.Core.List.{◌++◌, map}
use Prim.Native.Nat.{◌≤◌}
use lib.ListN.{length, take, drop}
use Rattle.assertion.specs.Packed.{fields}
use Rattle.search_steps.specs.Steps.{delegations, handed}
use Rattle.search_steps.proofs.gather.Given as goal

-- what is gathered and what the other assertions give make the whole
abbrev pub invariant-loop-packed : goal.invariant-loop-packed
invariant-loop-packed l = record {
  few : l.n ≤ l.packed-index;
  room : length l.assertions ≤ length l.list;
  those : map handed (take l.n l.list) ++ delegations l.variable l.right (map fields (drop l.packed-index l.assertions)) ≡ delegations l.variable l.right (map fields l.assertions);
}
