-- `prices::price_in` meets its contract. The definition's tests, and before them the length, which no price exceeds.
-- Assumes nothing.
use mathlib.Core.Path.{sym, ap, ◌∙◌}
use Rattle.language.proofs.Meaning.Prices.{long_none}
use Rattle.amounts.specs.Amounts.{amount_meant}
use Rattle.amounts.proofs.Fitting.{again}
use Rattle.prices.proofs.Readings.{price_tested}
use Rattle.prices.proofs.price_in.Goals as goal

pub returns-then-text-gt11 : goal.returns-then-text-gt11
returns-then-text-gt11 c = sym (long_none c.args.text.now c.if-text-gt11.true)

pub returns : goal.returns
returns c =
    let is = again c.signed-amount.type_inv ∙ c.signed-amount.ensures in
    ap amount_meant c.then_some.ensures
    ∙ price_tested c.args.text.now c.starts_minus.result c.digits_of-n.result _ c.starts_minus.ensures c.digits_of-n.ensures is c.if-n-gt999999999.false c.is_text.result c.is_text.ensures
