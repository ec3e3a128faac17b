-- Rows in the part of a buffer that starts at 0.
-- Assumes nothing.
use mathlib.Core.Path.{◌≡◌, ap}
use mathlib.Core.List.{List}
use Prim.Native.Nat.{ℕ, ◌-◌}
use native.Mathlib.Nat.{sub-zero}
use lib.ListN.{take, drop}
use Rattle.language.specs.Text.{Text}
use Rattle.store.specs.Rows.{Row, Rows, SomeRows}

from_start : {A : Type 0} (l : List A) (n : ℕ) → take (n - 0) (drop 0 l) ≡ take n l
from_start l n = ap (λ (k : ℕ). take k l) (sub-zero n)

pub rows_from_start : (rows : List Row) (t : Text) (n count : ℕ) (slots : List ℕ) → Rows rows (take n t) count slots → Rows rows (take (n - 0) (drop 0 t)) count slots
rows_from_start rows t n count slots H = rw (from_start t n) H

pub some_from_start : (t : Text) (n count : ℕ) (slots : List ℕ) → SomeRows (take n t) count slots → SomeRows (take (n - 0) (drop 0 t)) count slots
some_from_start t n count slots S = record { rows = S.rows; held = rows_from_start S.rows t n count slots S.held }
