-- `prices::put_amount` meets its contract. Four pieces in a row; there are at most seven digits before the point.
-- Assumes nothing.
use native.Mathlib.Omega.{arith}
use Rattle.language.proofs.Meaning.Prices.{whole_length}
use Rattle.value_text.proofs.Pieces.{◌▸◌}
use Rattle.prices.proofs.put_amount.Goals as goal

pub put_decimal-a-requires : goal.put_decimal-a-requires
put_decimal-a-requires c = omega (arith, whole_length c.args.n c.requires.0)

pub put_byte-b-requires : goal.put_byte-b-requires
put_byte-b-requires c = omega (arith, whole_length c.args.n c.requires.0)

pub put_byte-c-requires : goal.put_byte-c-requires
put_byte-c-requires c = omega (arith, whole_length c.args.n c.requires.0)

pub put_byte-requires : goal.put_byte-requires
put_byte-requires c = omega (arith, whole_length c.args.n c.requires.0)

pub returns : goal.returns
returns c = (c.put_decimal-a.ensures ▸ c.put_byte-b.ensures) ▸ c.put_byte-c.ensures ▸ c.put_byte.ensures
