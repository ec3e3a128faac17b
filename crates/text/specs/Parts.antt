-- A part of a text.
use Rattle.std.specs.Prelude.{ℕ, ◌-◌, take, drop}
use Rattle.language.specs.Text.{Text}

-- the bytes from place s up to place e, which `&text[s..e]` denotes
abbrev pub part : Text → ℕ → ℕ → Text
part t s e = take (e - s) (drop s t)
