use mathlib.Core.Path.{◌≡◌}
use mathlib.Core.List.{◌++◌}
use lib.ListN.{take, drop}
use Rattle.search_steps.specs.Steps.{rest_reached}
use Rattle.search_steps.proofs.tables.reach_rest.Given as goal

-- the first ones are as they are to be, the others as they were
abbrev pub invariant-loop-mark : goal.invariant-loop-mark
invariant-loop-mark l = take l.mark-index l.dist ++ rest_reached l.d (drop l.mark-index l.dist) ≡ rest_reached l.d l.initial.dist
