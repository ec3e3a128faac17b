use mathlib.Core.Path.{◌≡◌}
use mathlib.Core.List.{map}
use Prim.Native.Nat.{◌+◌}
use lib.ListN.{drop}
use Rattle.search_steps.specs.Steps.{handed, left}
use Rattle.chains.specs.Rounds.{one_round}
use Rattle.marking.proofs.round.Given as goal

-- some assertions have had their turn, and n principals were reached by them
abbrev pub invariant-loop-a : goal.invariant-loop-a
invariant-loop-a l = record {
  counts : l.n + left l.dist ≡ left l.initial.dist;
  marks : one_round l.d (map handed (drop l.a-index l.list)) l.dist ≡ one_round l.d (map handed l.list) l.initial.dist;
}
