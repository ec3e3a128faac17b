use mathlib.Core.Path.{◌≡◌}
use Prim.Native.Nat.{◌-◌, ◌≤◌}
use lib.ListN.{length}
use Rattle.language.specs.Text.{present}
use Rattle.parser.specs.Bodies.{body_from}
use Rattle.parser.proofs.body_at.Given as goal

-- the rest from p on is one where all from `at` on is
abbrev pub invariant-loop-read : goal.invariant-loop-read
invariant-loop-read l = record {
  within : l.p ≤ length l.text;
  same : present (body_from l.text l.at) ≡ present (body_from l.text l.p);
}

abbrev pub decreases-loop-read : goal.decreases-loop-read
decreases-loop-read l = length l.text - l.p
