use Rattle.std.proofs.Common.{◌≡◌, ◌-◌, length}
use Rattle.language.specs.Values.{Session}
use Rattle.permits.specs.Permits.{Sends}
use Rattle.permits.proofs.Readers.{Reached}
use Rattle.permits.proofs.fields_readable.Given as goal

abbrev pub invariant-loop-field : goal.invariant-loop-field
invariant-loop-field l = record {
  text : l.scanner.text.now ≡ l.text;
  reached : (s : Session) → Sends s l.shared l.slots l.count l.assertions l.n l.principals l.sender → Reached s l.text l.at l.scanner.at;
}

abbrev pub decreases-loop-field : goal.decreases-loop-field
decreases-loop-field l = length l.text - l.scanner.at
