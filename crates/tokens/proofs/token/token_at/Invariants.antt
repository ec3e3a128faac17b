use mathlib.Core.Path.{◌≡◌}
use lib.ListN.{drop}
use Rattle.language.specs.Tokens.{lex}
use Rattle.tokens.proofs.token.token_at.Given as goal

-- the tokens from `at` on are those from `i` on
abbrev pub invariant-loop-i : goal.invariant-loop-i
invariant-loop-i l = lex (drop l.at l.text) ≡ lex (drop l.i l.text)
