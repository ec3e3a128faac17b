-- `amounts::per` meets its contract: the hundredfold of an amount is itself, read out of its bits, and the divisor is not zero where its bits are not.
-- Assumes nothing.
use Rattle.std.proofs.Common.{◌≡◌, ℕ, ap, ap₂, ◌∙◌, ℤ, pos, ◌*ℤ◌, nat_abs, w64, of_z}
use lib.IntN.{negsuc}
use borrow.Author.Tests.{ne_eqb}
use lib.Dec.{lit≤}
use mir.Facts.{to_z-of_z}
use Rattle.language.specs.Prices as Prices
use Rattle.amounts.proofs.Fitting.{again, result_is, product_fits}
use Rattle.amounts.proofs.per.Goals as goal

zero_bits : (z : ℤ) → nat_abs z ≡ 0 → of_z w64 z ≡ 0
zero_bits (pos n) e = ap (λ (k : ℕ). of_z w64 (pos k)) e
zero_bits (negsuc n) e = cc

pub returns : goal.returns
returns c =
    let a = c.args in
    let product = result_is (λ (x y : ℤ). x *ℤ pos 100) a.a a.b c.ranges.a c.ranges.b (product_fits a.a (pos 100) c.requires.0 (lit≤ tt)) in
    let not_zero : nat_abs a.b ≡ 0 → ⊥ = λ e. c.if-b-eq0.false (zero_bits a.b e) in
    rw (ne_eqb (nat_abs a.b) 0 not_zero) (c.ranged.ensures ∙ ap Prices.ranged (again c.rounded.type_inv ∙ c.rounded.ensures ∙ ap₂ Prices.rounded product (to_z-of_z c.ranges.b)))
