-- `amounts::sub` meets its contract: the difference of two amounts is itself, read out of its bits.
-- Assumes nothing.
use Rattle.std.proofs.Common.{arith, ap, ◌∙◌, ◌-ℤ◌}
use Rattle.language.specs.Prices as Prices
use Rattle.amounts.proofs.Fitting.{result_is, difference_fits}
use Rattle.amounts.proofs.sub.Goals as goal

pub returns : goal.returns
returns c =
    let a = c.args in
    let difference = result_is ◌-ℤ◌ a.a a.b c.ranges.a c.ranges.b (difference_fits a.a a.b (omega arith) (omega arith)) in
    c.ranged.ensures ∙ ap Prices.ranged difference
