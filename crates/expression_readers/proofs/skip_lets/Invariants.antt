use mathlib.Core.Path.{◌≡◌}
use Prim.Native.Nat.{◌-◌, ◌≤◌}
use lib.ListN.{length, drop}
use Rattle.language.specs.Tokens.{lex}
use Rattle.expression_readers.specs.Heads.{past_expression}
use Rattle.expression_readers.proofs.Lets.{after}
use Rattle.expression_readers.proofs.skip_lets.Given as goal

-- what is past the expression is past one more, and past those whose `in` is to come
abbrev pub invariant-lets : goal.invariant-lets
invariant-lets l = record {
  text : l.scanner.text ≡ l.fn.scanner.text;
  on : l.fn.scanner.at ≤ l.scanner.at;
  few : l.pending ≤ l.scanner.at;
  rest : past_expression (lex (drop l.fn.scanner.at l.fn.scanner.text.now)) ≡ after l.pending (lex (drop l.scanner.at l.fn.scanner.text.now));
}

abbrev pub decreases-lets : goal.decreases-lets
decreases-lets l = length l.fn.scanner.text.now - l.scanner.at
