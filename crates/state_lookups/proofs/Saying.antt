-- A text written at the front of the room.
-- Assumes nothing.
use mathlib.Core.Path.{◌≡◌, ap, ◌∙◌}
use mathlib.Core.List.{List, ◌++◌}
use Prim.Native.Nat.{ℕ, ◌+◌, ◌*◌}
use native.Mathlib.Omega.{arith}
use lib.ListN.{length, drop}
use Rattle.splice.specs.Splices.{over}
use Rattle.state_lookups.specs.Looks.{Says, found}

-- a record's number, and its text at the front
pub says_found : (k : ℕ) (t old new : List ℕ) (r : ℕ) → r ≡ k * 65536 + length t → new ≡ over old 0 t → Says (found k t) old new r
says_found k t old new r n w =
    let z : 0 + length t ≡ length t = omega arith in
    record { number_is = n; written = w ∙ ap (λ (m : ℕ). t ++ drop m old) z }
