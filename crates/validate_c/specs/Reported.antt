-- What the exported functions say of a state's buffer: one number, and what they write in the room that they are lent.
use Rattle.std.specs.Prelude.{◌≡◌, ◌⊎◌, List, ◌∷◌, map, ℕ, ◌≤◌, ◌<◌, length}
use Rattle.std.proofs.Math.Option.{Option, none, some}
use Rattle.language.specs.Text.{Text}
use Rattle.language.specs.Syntax.{Name}
use Rattle.language.specs.State.{Store}
use Rattle.language.specs.Weight.{store_weight}
use Rattle.language.specs.Decode.{decode}
use Rattle.store.specs.Rows.{position}
use Rattle.named_rights.specs.Numbers.{principals_of, variables, numbered}
use Rattle.state_lookups.specs.Looks.{Look, Says, count_said}
use Rattle.state_figures.specs.Tallies.{flag}

-- the numbers of a buffer that is not well formed, and of a call that is refused
abbrev pub bad : ℕ
bad = 4294967296

abbrev pub refused : ℕ
refused = 4294967297

abbrev pub Answers : (Store → Look) → Option Store → List ℕ → List ℕ → ℕ → Type 0
Answers look none old new r = (r ≡ bad) × (new ≡ old)
Answers look (some s) old new r = Says (look s) old new r

-- what a call answers and leaves, for every buffer and every room
pub record Reported (room : ℕ) (look : Store → Look) (t : Text) (old new : List ℕ) (r : ℕ) : Type 0 where
  pub refuses : (length t ≡ 65536 → ⊥) ⊎ (length old < room) → (r ≡ refused) × (new ≡ old)
  pub answers : length t ≡ 65536 → room ≤ length old → Answers look (decode t) old new r

-- a principal's count, or why there is none; nothing is written
abbrev pub count_in : Option Store → Name → ℕ
count_in none x = bad
count_in (some s) x = count_said s.principals x

pub record CountTold (t : Text) (x : Name) (r : ℕ) : Type 0 where
  pub refuses : (length t ≡ 65536 → ⊥) → r ≡ refused
  pub answers : length t ≡ 65536 → r ≡ count_in (decode t) x

-- open or closed, the weight, how many principals, the number of the default delegator, how many variables, how
-- many assertions, and then the assertions, each in one number
abbrev pub figures : Store → List ℕ
figures s =
    flag s.is_open ∷ store_weight s
    ∷ length s.principals ∷ position (principals_of s) s.delegator
    ∷ length s.variables ∷ length s.assertions
    ∷ map (numbered (principals_of s) (variables s)) s.assertions
