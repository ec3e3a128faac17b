use mathlib.Core.Path.{◌≡◌}
use Prim.Native.Nat.{◌<◌}
use lib.ListN.{drop}
use Rattle.store.specs.Held.{hash_from, hash, hashes}
use Rattle.store.proofs.index.hash.Given as goal

abbrev pub invariant-loop-b : goal.invariant-loop-b
invariant-loop-b l = (l.h < hashes) × (hash_from l.h (drop l.b-index l.name) ≡ hash l.name)
