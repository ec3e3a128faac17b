use Rattle.std.proofs.Common.{◌≡◌, ◌-◌, ◌≤◌, length}
use Rattle.permits.specs.Permits.{Sends}
use Rattle.expression_rights.proofs.Asking.{Asking}
use Rattle.expression_rights.proofs.lets_known.Given as goal

abbrev pub invariant-terms : goal.invariant-terms
invariant-terms l = record {
  text : l.scanner.0.now ≡ l.text;
  within : l.scanner.1.0 ≤ length l.text;
  few : l.pending ≤ l.scanner.1.0;
  counted : l.done ≤ l.scanner.1.0;
  asking : Asking (λ s. Sends s l.shared l.slots l.count l.assertions l.n l.principals l.sender) l.text l.at l.scanner.1.0 l.pending l.done;
}

abbrev pub decreases-terms : goal.decreases-terms
decreases-terms l = length l.text - l.scanner.1.0
