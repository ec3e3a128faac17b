-- `functions::put_amount` meets its contract. Three pieces in a row; the price is at most 11 bytes long.
-- Assumes nothing.
use mathlib.Core.Path.{ap}
use mathlib.Core.List.{[], ◌∷◌, ◌++◌}
use Prim.Native.Nat.{◌≤◌}
use native.Mathlib.Omega.{arith}
use lib.Dec.{le→leb}
use lib.IntN.{ℤ, nat_abs}
use lib.ListN.{length}
use mir.Facts.{to_z-of_z}
use Rattle.language.specs.Prices.{greatest, price_text}
use Rattle.language.proofs.Meaning.Prices.{price_length}
use Rattle.value_text.proofs.Pieces.{◌▸◌, rewritten}
use Rattle.functions.proofs.put_amount.Goals as goal

pub put_byte-requires : goal.put_byte-requires
put_byte-requires c =
    let amount = c.args.amount in
    let l : length (price_text amount) ≤ 11 = price_length amount (le→leb (nat_abs amount) greatest c.requires.0) in
    let same = ap (λ (a : ℤ). length (price_text a)) (to_z-of_z c.ranges.amount) in
    omega (arith, l, same, c.put_price-b.ensures.ends, c.copy_in-a.ensures.ends, c.requires.1)

pub returns : goal.returns
returns c =
    rewritten (ap (λ (a : ℤ). 83 ∷ 9 ∷ (price_text a ++ (10 ∷ []))) (to_z-of_z c.ranges.amount))
    (c.copy_in-a.ensures ▸ c.put_price-b.ensures ▸ c.put_byte.ensures)
