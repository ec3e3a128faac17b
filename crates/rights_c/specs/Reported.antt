-- What the exported search reports, as one number.
use Rattle.std.specs.Prelude.{Option, Some, None, ◌≡◌, List, map, ◌⊎◌, ℕ, ◌≤◌, ◌<◌, length}
use Rattle.chains.specs.Chain.{asked, Searched}
use Rattle.assertion.specs.Packed.{fields}

-- an answer's number: the length of the shortest chain, always below 4,096, or 4,096 for no chain
abbrev pub number_of : Option ℕ → ℕ
number_of (Some n) = n
number_of None = 4096

-- the number of a question that is refused: more than 1,024 principals or more than 2,048 assertions
abbrev pub refused : ℕ
refused = 4097

-- r reports on the packed assertions s, and `rounds` are the rounds begun, which were `old` before: refused, and the rounds as they were;
-- or the number of the right answer, and its rounds
pub record Reported (s : List ℕ) (count variable right principal old r rounds : ℕ) : Type 0 where
  pub refuses : (1024 < count) ⊎ (2048 < length s) → (r ≡ refused) × (rounds ≡ old)
  pub answers : count ≤ 1024 → length s ≤ 2048 → (a : Option ℕ) × Searched (asked (map fields s) count variable right) principal a rounds × (r ≡ number_of a)
