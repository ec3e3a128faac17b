use mathlib.Core.Path.{ap}
use Prim.Native.Nat.{ℕ, ◌+◌, ◌*◌}
use native.Mathlib.Omega.{arith}
use lib.ListN.{set}
use Rattle.store.specs.Held.{places}
use Rattle.store.proofs.Hashes.{hash_small}
use Rattle.edits.proofs.add.note.Goals as goal

pub overflow_cast-place : goal.overflow_cast-place
overflow_cast-place c = omega (arith, c.requires)

pub overflow_mul-slots : goal.overflow_mul-slots
overflow_mul-slots c = omega (arith, c.hash-p.ensures, hash_small c.args.name.now)

pub overflow_add-slots : goal.overflow_add-slots
overflow_add-slots c = omega (arith, c.hash-p.ensures, hash_small c.args.name.now, c.requires)

pub returns : goal.returns
returns c = let a = c.args in ap (λ (p : ℕ). set a.slots.now a.count (p * places + a.at)) c.hash-p.ensures
