-- The line of an assertion from its parts (document 01, "State text").
use Rattle.std.specs.Prelude.{ℕ, [], ◌∷◌}
use Rattle.language.specs.Text.{Text, bytes}
use Rattle.language.specs.Encode.{line_of}

-- `Encode.assertion_text` of an assertion whose right has the letter b
abbrev pub assertion_line : Text → Text → ℕ → Text → Text
assertion_line x q b p = line_of (bytes "A" ∷ x ∷ q ∷ (b ∷ []) ∷ p ∷ [])
