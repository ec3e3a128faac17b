use mathlib.Core.Path.{◌≡◌}
use Prim.Native.Nat.{◌-◌, ◌≤◌}
use lib.ListN.{length}
use Rattle.syntax.specs.Values.{record_at, skipped}
use Rattle.syntax.proofs.skip_record.Given as goal

-- what is left of the fields ends where all of them end
abbrev pub invariant-loop : goal.invariant-loop
invariant-loop l = record {
  text : l.scanner.text ≡ l.fn.scanner.text;
  rest : skipped (record_at l.scanner.text.now l.scanner.at) ≡ skipped (record_at l.fn.scanner.text.now l.fn.scanner.at);
  on : l.fn.scanner.at ≤ l.scanner.at;
}

abbrev pub decreases-loop : goal.decreases-loop
decreases-loop l = length l.scanner.text.now - l.scanner.at
