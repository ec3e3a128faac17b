use Rattle.std.proofs.Common.{◌≡◌, ◌+◌, ◌≤◌, drop}
use Rattle.values.specs.Breaks.{breaks}
use Rattle.values.proofs.breaks.Given as goal

abbrev pub invariant-loop-b : goal.invariant-loop-b
invariant-loop-b l = (l.n + breaks (drop l.b-index l.text) ≡ breaks l.text) × (l.n ≤ l.b-index)
