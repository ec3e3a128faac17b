-- The figures of a state by the parts that its check found.
use Rattle.std.specs.Prelude.{Bool, List, [], ◌∷◌, ℕ}
use Rattle.language.specs.Text.{when◌then◌else◌}
use Rattle.validate.specs.declared.Parts.{Parts}

abbrev pub flag : Bool → ℕ
flag b = when b then 1 else 0

-- all but the assertions themselves
abbrev pub tally : Parts → List ℕ
tally p =
    flag p.«open» ∷ p.weight ∷ p.principals ∷ p.delegator ∷ p.vars ∷ p.asserted ∷ []
