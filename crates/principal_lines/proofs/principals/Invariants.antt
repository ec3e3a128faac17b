use Prim.Native.Nat.{◌-◌, ◌≤◌}
use lib.ListN.{length}
use Rattle.principal_lines.specs.Principals.{form_meant}
use Rattle.principal_lines.proofs.Ranks.{Ranking}
use Rattle.principal_lines.proofs.principals.Given as goal

abbrev pub invariant-loop-form : goal.invariant-loop-form
invariant-loop-form l = (l.now ≤ 8192) × Ranking (form_meant l.form) l.text l.at l.slots l.i l.n l.now

abbrev pub decreases-loop-form : goal.decreases-loop-form
decreases-loop-form l = length l.text - l.i
