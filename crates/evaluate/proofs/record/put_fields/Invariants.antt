use Rattle.std.proofs.Common.{◌≡◌, ◌-◌, length}
use Rattle.language.specs.Values.{Session}
use Rattle.scopes.specs.Scopes.{Scope}
use Rattle.evaluate.specs.Drafts.{Lent}
use Rattle.evaluate.proofs.Fieldwise.{Going}
use Rattle.evaluate.proofs.record.put_fields.Given as goal

-- the fields before the scanner are written, and what the record is worth is what they make with the others, which stand from there on
abbrev pub invariant-loop-field : goal.invariant-loop-field
invariant-loop-field l = record {
  text : l.scanner.text.now ≡ l.text;
  lent : Lent l.out l.labels;
  going : (s : Session) → Scope s l.shared l.slots l.count l.locals l.lslots l.lcount → Going s l.text l.at l.scanner.at l.out l.labels l.d;
}

abbrev pub decreases-loop-field : goal.decreases-loop-field
decreases-loop-field l = length l.text - l.scanner.at
