-- A hash is below 32,768: a slot of a place below 131,072 fits 32 bits.
-- Assumes nothing.
use Prim.Native.Nat.{ℕ, ◌+◌, ◌*◌, ◌%◌, ◌<◌}
use native.Mathlib.Omega.{arith}
use mathlib.Core.List.{[], ◌∷◌}
use Rattle.language.specs.Text.{Text}
use Rattle.language.specs.Syntax.{Name}
use Rattle.store.specs.Held.{hash, hash_from, hashes}

hash_below : (h : ℕ) (t : Text) → h < hashes → hash_from h t < hashes
hash_below h [] l = l
hash_below h (b ∷ t) l = hash_below ((h * 31 + b) % hashes) t (omega arith)

pub hash_small : (x : Name) → hash x < hashes
hash_small x = hash_below 0 x (omega arith)
