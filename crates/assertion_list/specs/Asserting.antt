-- Entering and withdrawing in a list of numbers, as the language does with assertions.
use Rattle.std.specs.Prelude.{ℕ, Bool, List, [], ◌∷◌, ◌++◌, eqb}
use Rattle.language.specs.Text.{when◌then◌else◌, any}

abbrev pub stands_in : List ℕ → ℕ → Bool
stands_in l a = any (eqb a) l

abbrev pub withdraw_number : List ℕ → ℕ → List ℕ
withdraw_number [] a = []
withdraw_number (b ∷ rest) a = when eqb a b then rest else b ∷ withdraw_number rest a

-- one that stands keeps its place
abbrev pub enter_number : List ℕ → ℕ → List ℕ
enter_number l a = when stands_in l a then l else l ++ (a ∷ [])
