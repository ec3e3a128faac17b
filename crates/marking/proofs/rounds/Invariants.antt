use mathlib.Core.Path.{◌≡◌}
use mathlib.Core.List.{map}
use Prim.Native.Nat.{◌≤◌, ◌<◌}
use lib.ListN.{length}
use Rattle.search_steps.specs.Steps.{handed, left}
use Rattle.marking.proofs.Reaching.{Spreading}
use Rattle.marking.proofs.rounds.Given as goal

abbrev pub invariant-loop-d : goal.invariant-loop-d
invariant-loop-d l = (length l.initial.dist ≤ 4096) × (1 < length l.initial.dist) × (length l.dist ≡ length l.initial.dist) × Spreading (map handed l.list) (length l.initial.dist) l.d l.dist

abbrev pub decreases-loop-d : goal.decreases-loop-d
decreases-loop-d l = left l.dist
