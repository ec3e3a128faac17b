-- `evaluate::draft::slot_of` meets its contract. A hash fits 32 bits.
-- Assumes nothing.
use native.Mathlib.Omega.{arith}
use Rattle.store.proofs.Hashes.{hash_small}
use Rattle.evaluate.proofs.draft.slot_of.Goals as goal

pub overflow_mul-result : goal.overflow_mul-result
overflow_mul-result c = omega (arith, c.hash.ensures, hash_small c.args.label.now)

pub overflow_cast-result : goal.overflow_cast-result
overflow_cast-result c = omega (arith, c.requires)

pub overflow_add-result : goal.overflow_add-result
overflow_add-result c = omega (arith, c.hash.ensures, hash_small c.args.label.now, c.requires)
