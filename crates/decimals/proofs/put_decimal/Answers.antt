-- `decimals::put_decimal` meets its contract. A number of 32 bits has at most ten digits.
-- Assumes nothing.
use native.Mathlib.Omega.{arith}
use Rattle.language.proofs.StateText.Digits.{ten_digits}
use Rattle.decimals.proofs.put_decimal.Goals as goal

pub put_digits-requires : goal.put_digits-requires
put_digits-requires c = record { more = 9; enough = ten_digits c.args.n (omega arith); room = c.requires }

pub returns : goal.returns
returns c = c.put_digits.ensures 9 (ten_digits c.args.n (omega arith))
