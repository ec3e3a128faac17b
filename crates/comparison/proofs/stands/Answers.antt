-- `comparison::stands` meets its contract. By the bytes that it compared.
-- Assumes nothing.
use mathlib.Core.Path.{sym, ◌∙◌}
use native.Mathlib.Omega.{arith}
use Rattle.comparison.proofs.Matches.{line_there}
use Rattle.comparison.proofs.stands.Goals as goal

pub returns : goal.returns
returns c e = line_there c.args.text.now c.args.at c.args.line.now (omega arith) c.if-text-at-ne10.false (omega arith) (sym c.same_bytes.ensures ∙ e)
