-- The former principals' lines with a count of 0 at the end of each, and the text of now around them.
use Rattle.std.specs.Prelude.{◌≡◌, [], ◌∷◌, ◌++◌, ℕ, ◌+◌, ◌≤◌, eqb, length}
use Rattle.language.specs.Text.{Text, joined, when◌then◌else◌}
use Rattle.language.specs.Encode.{tab, newline, head_text}
use Rattle.text.specs.Parts.{part}
use Rattle.validate.specs.declared.Parts.{Parts}

-- a byte as it stands; before a newline the count 0, which is byte 48
abbrev pub with_count : ℕ → Text
with_count b = when eqb b newline then tab ∷ 48 ∷ newline ∷ [] else b ∷ []

abbrev pub counted : Text → Text
counted t = joined with_count t

-- the first line of now, the principals with their counts, and the rest as it stands
abbrev pub brought_text : Text → Parts → Text
brought_text t p =
    head_text p.«open» ++ (counted (part t p.principals_from p.principals_to) ++ part t p.principals_to p.used)

-- the parts lie within the text, in their order, and the text of now fits the buffer
pub record Bringing (t : Text) (p : Parts) (room : ℕ) : Type 0 where
  pub order : p.principals_from ≤ p.principals_to
  pub rest_order : p.principals_to ≤ p.used
  pub within : p.used ≤ length t
  pub size : room ≡ 65536
  pub fits : length (brought_text t p) + 2 ≤ 65536
