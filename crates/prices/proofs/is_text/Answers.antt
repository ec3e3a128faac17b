-- `prices::is_text` meets its contract. What is compared is what was written.
-- Assumes nothing.
use mathlib.Core.Path.{ap, ◌∙◌}
use lib.IntN.{ℤ}
use mir.Facts.{to_z-of_z}
use Rattle.language.specs.Text.{Text, ◌≟◌}
use Rattle.language.specs.Prices.{price_text}
use Rattle.value_text.proofs.Pieces.{written_take}
use Rattle.prices.proofs.is_text.Goals as goal

pub returns : goal.returns
returns c =
    let text = c.args.text.now in
    c.same_bytes.ensures
    ∙ ap (λ (u : Text). u ≟ text) (written_take c.put_price-end.ensures)
    ∙ ap (λ (a : ℤ). price_text a ≟ text) (to_z-of_z c.ranges.amount)
