use Rattle.std.proofs.Common.{◌≡◌, ◌≤◌, drop}
use Rattle.language.specs.Decode.{number}
use Rattle.lines.proofs.value_of.Given as goal

abbrev pub invariant-loop-b : goal.invariant-loop-b
invariant-loop-b l = (l.n ≤ 4294967295) × (number 0 l.w ≡ number l.n (drop l.b-index l.w))
