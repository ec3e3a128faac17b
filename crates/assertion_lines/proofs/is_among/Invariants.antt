use Rattle.std.proofs.Common.{◌≡◌, eqb, take}
use Rattle.language.specs.Text.{any}
use Rattle.assertion_lines.proofs.is_among.Given as goal

abbrev pub invariant-loop-assertion : goal.invariant-loop-assertion
invariant-loop-assertion l = l.hit ≡ any (eqb l.number) (take l.assertion-index l.assertions)
