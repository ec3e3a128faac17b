-- Document 01, "Commands": what admin delegates to the sender of a set that makes a shared variable.
use Rattle.std.specs.Prelude.{ℕ, ◌+◌, ◌*◌, List, [], ◌∷◌, eqb}
use Rattle.language.specs.Text.{when◌then◌else◌, ◌≟◌}
use Rattle.language.specs.Syntax.{Name}
use Rattle.language.specs.State.{admin}
use Rattle.language.specs.Weight.{name_weight}
use Rattle.assertion.specs.Packed.{pack}

-- its weight, where the variable's name has n bytes
abbrev pub grant_weight : ℕ → Name → ℕ
grant_weight n p = when p ≟ admin then 0 else 4 * (n + 2 + name_weight p)

-- its numbers
abbrev pub grant_numbers : ℕ → ℕ → List ℕ
grant_numbers variable sender =
    when eqb sender 0 then []
    else pack variable 0 0 sender ∷ pack variable 0 1 sender ∷ pack variable 0 2 sender ∷ pack variable 0 3 sender ∷ []
