-- The line that a command prints when it is done, and its room.
use mathlib.Core.Path.{◌≡◌, subst}
use Prim.Native.Nat.{ℕ, ◌+◌, ◌-◌, ◌*◌, ◌≤◌}
use native.Mathlib.Omega.{arith}
use lib.ListN.{length, take}
use Rattle.language.specs.Text.{Text}
use Rattle.language.specs.State.{Value}
use Rattle.language.specs.Weight.{limit, value_weight}
use Rattle.language.specs.Output.{value_json}
use Rattle.language.specs.Expressions.{value}
use Rattle.language.proofs.Parsing.Printing.{value_json_lem}
use Rattle.values.specs.Encoding.{Holds}
use Rattle.render.specs.Json.{JsonRoom}

-- a value that is not too heavy has room for its line
pub json_room : (v : Value) (t out : Text) (at : ℕ) → Holds v t → value_weight v ≤ limit → at + 28707 ≤ length out → JsonRoom t out at 33
json_room v t out at h light room =
    let short : 2 * length (value_json v) ≤ 7 * value_weight v + 4 = value_json_lem v h.is_valid in
    record { value = v; held = h; room = omega (arith, short, light, room) }

-- a part from place 0 on, as the code writes it
pub from_start : (v : Value) (t : Text) (n : ℕ) → Holds v (take n t) → Holds v (take (n - 0) t)
from_start v t n h = let e : n ≡ n - 0 = omega arith in subst (λ m. Holds v (take m t)) e h
