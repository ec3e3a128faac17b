-- `prices::put_price` meets its contract. The sign is a piece before the amount.
-- Assumes nothing.
use mathlib.Core.Path.{◌≡◌, sym, ap, ◌∙◌}
use mathlib.Core.Bool.{not}
use native.Mathlib.Omega.{arith}
use lib.IntN.{ℤ, nat_abs}
use lib.Signed.{non_neg}
use mir.Facts.{to_z-of_z}
use Rattle.language.specs.Prices.{amount_text}
use Rattle.value_text.proofs.Pieces.{◌▸◌, rewritten}
use Rattle.prices.proofs.Readings.{below_text, above_text}
use Rattle.prices.proofs.put_price.Goals as goal

pub put_amount-requires : goal.put_amount-requires
put_amount-requires c =
    let size : c.magnitude-n.result ≡ nat_abs c.args.amount = c.magnitude-n.ensures ∙ ap nat_abs (to_z-of_z c.ranges.amount) in
    (omega (arith, size, c.requires.0), omega arith)

pub returns-then-below_zero : goal.returns-then-below_zero
returns-then-below_zero c =
    let size : c.magnitude-n.result ≡ nat_abs c.args.amount = c.magnitude-n.ensures ∙ ap nat_abs (to_z-of_z c.ranges.amount) in
    let side : not (non_neg c.args.amount) ≡ c.below_zero.result = sym (c.below_zero.ensures ∙ ap (λ (a : ℤ). not (non_neg a)) (to_z-of_z c.ranges.amount)) in
    rewritten (below_text c.args.amount (side ∙ c.if-below_zero.true))
    (c.put_byte-a.ensures ▸ rewritten (ap amount_text size) c.put_amount.ensures)

pub put_amount-requires-2 : goal.put_amount-requires-2
put_amount-requires-2 c =
    let size : c.magnitude-n.result ≡ nat_abs c.args.amount = c.magnitude-n.ensures ∙ ap nat_abs (to_z-of_z c.ranges.amount) in
    (omega (arith, size, c.requires.0), omega arith)

pub returns : goal.returns
returns c =
    let size : c.magnitude-n.result ≡ nat_abs c.args.amount = c.magnitude-n.ensures ∙ ap nat_abs (to_z-of_z c.ranges.amount) in
    let side : not (non_neg c.args.amount) ≡ c.below_zero.result = sym (c.below_zero.ensures ∙ ap (λ (a : ℤ). not (non_neg a)) (to_z-of_z c.ranges.amount)) in
    rewritten (ap amount_text size ∙ above_text c.args.amount (side ∙ c.if-below_zero.false))
    c.put_amount-2.ensures
