use Rattle.std.proofs.Common.{◌≡◌, ◌+◌, length, drop}
use Rattle.language.specs.Text.{front}
use Rattle.lines.specs.Cuts.{is_digit}
use Rattle.lines.proofs.digits_end.Given as goal

abbrev pub invariant-loop-i : goal.invariant-loop-i
invariant-loop-i l = l.i + length (front is_digit (drop l.i l.text)) ≡ l.at + length (front is_digit (drop l.at l.text))
