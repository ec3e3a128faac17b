-- The bytes of a value's text that end a part of a line, and are no weight.
use Rattle.std.specs.Prelude.{ℕ, eqb}
use Rattle.language.specs.Text.{Text, when◌then◌else◌, sum}

-- 1 for a tab or a newline
abbrev pub break_of : ℕ → ℕ
break_of b = when eqb b 9 then 1 else when eqb b 10 then 1 else 0

abbrev pub breaks : Text → ℕ
breaks t = sum break_of t
