-- `comparison::same_record` meets its contract. By the lengths, the bytes and the fields.
-- Assumes nothing.
use mathlib.Core.Path.{sym, ◌∙◌}
use Rattle.comparison.proofs.Sizes.{lengths_differ, same_text, one_way_round}
use Rattle.comparison.proofs.same_record.Goals as goal

pub returns-then-first-second : goal.returns-then-first-second
returns-then-first-second c fs gs h k = lengths_differ c.args.first.now c.args.second.now fs gs h k c.if-first-second.true

pub returns-then-same_bytes : goal.returns-then-same_bytes
returns-then-same_bytes c fs gs h k = same_text c.args.first.now c.args.second.now fs gs h k (sym c.same_bytes.ensures ∙ c.if-same_bytes.true)

pub returns : goal.returns
returns c fs gs h k = c.holds_all.ensures fs gs h k ∙ one_way_round c.args.first.now c.args.second.now fs gs h k c.if-first-second.false
