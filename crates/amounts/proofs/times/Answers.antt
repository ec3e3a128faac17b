-- `amounts::times` meets its contract: the product of two amounts is itself, read out of its bits.
-- Assumes nothing.
use Rattle.std.proofs.Common.{arith, ap, ◌∙◌, ℤ, pos, ◌*ℤ◌, nat_abs}
use lib.Dec.{lit<, lit≤}
use Rattle.language.specs.Prices as Prices
use Rattle.amounts.proofs.Fitting.{again, result_is, product_small, product_fits}
use Rattle.amounts.proofs.times.Goals as goal

pub rounded-requires : goal.rounded-requires
rounded-requires c =
    let a = c.args in
    let product = result_is ◌*ℤ◌ a.a a.b c.ranges.a c.ranges.b (product_fits a.a a.b c.requires.0 c.requires.1) in
    (omega (arith, ap nat_abs product, product_small a.a a.b c.requires.0 c.requires.1), lit< tt, lit≤ tt)

pub returns : goal.returns
returns c =
    let a = c.args in
    let product = result_is ◌*ℤ◌ a.a a.b c.ranges.a c.ranges.b (product_fits a.a a.b c.requires.0 c.requires.1) in
    c.ranged.ensures ∙ ap Prices.ranged (again c.rounded.type_inv ∙ c.rounded.ensures ∙ ap (λ (v : ℤ). Prices.rounded v (pos 100)) product)
