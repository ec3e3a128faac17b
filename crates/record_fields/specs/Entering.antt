-- Entering a name among those of the records before it.
use Rattle.std.specs.Prelude.{◌≡◌, ℕ, ◌+◌, ◌≤◌, ◌<◌, Bool, true, false, List, T, length, set}
use Rattle.language.specs.Text.{Text, member}
use Rattle.language.specs.Syntax.{Name}
use Rattle.text.specs.Parts.{part}
use Rattle.store.specs.Held.{slot}
use Rattle.store.specs.Rows.{Row, SomeRows, row_names}

-- the records from `at` up to i have their slots, there is room for one more, and the name stands within the text
pub record Entering (t : Text) (at i m n : ℕ) (slots : List ℕ) : Type 0 where
  pub low : at ≤ i
  pub name_low : i + 2 ≤ m
  pub name_high : m ≤ length t
  pub small : length t ≤ 65536
  pub room : n < length slots
  pub some : SomeRows (part t at i) n slots

-- the name x of the record at place k is new, and has its slot; or it is there
abbrev pub Entered : List Row → Name → ℕ → ℕ → List ℕ → List ℕ → Bool → Type 0
Entered rows x k n slots after true = (T (member x (row_names rows)) → ⊥) × (after ≡ set slots n (slot x k))
Entered rows x k n slots after false = T (member x (row_names rows))
