use mathlib.Core.Path.{◌≡◌}
use lib.ListN.{drop}
use Rattle.language.specs.Text.{keep}
use Rattle.language.specs.Bytes.{between}
use Rattle.language.specs.Decode.{number}
use Rattle.language.proofs.StateText.Digits.{Within}
use Rattle.prices.proofs.digits_of.Given as goal

abbrev pub invariant-loop-b : goal.invariant-loop-b
invariant-loop-b l = Within l.b-index l.n × (number 0 (keep (between "0" "9") l.text) ≡ number l.n (keep (between "0" "9") (drop l.b-index l.text)))
