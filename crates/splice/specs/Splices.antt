-- What the changes of a buffer and of its slots leave.
use Rattle.std.specs.Prelude.{ℕ, ◌+◌, ◌-◌, List, ◌++◌, map, length, take, drop}
use Rattle.language.specs.Text.{Text}
use Rattle.text.specs.Parts.{part}

-- src written over d, from place `at` on
abbrev pub over : {X : Type 0} → List X → ℕ → List X → List X
over d at src = take at d ++ (src ++ drop (at + length src) d)

-- the text that stands in the first len bytes of d, with src in place of the bytes from `from` up to `to`; the bytes after it as they were
abbrev pub spliced : Text → ℕ → ℕ → ℕ → Text → Text
spliced d len from to src = take from d ++ (src ++ (part d to len ++ drop (from + length src + (len - to)) d))

-- the numbers from place `from` up to `to` go up by new and down by old
abbrev pub shifted : List ℕ → ℕ → ℕ → ℕ → ℕ → List ℕ
shifted slots from to old new = take from slots ++ (map (λ x. x + new - old) (part slots from to) ++ drop to slots)
