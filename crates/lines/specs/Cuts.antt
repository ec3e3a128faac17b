-- The fields of a line of the state text: a field is cut off where the byte that ends it stands.
use Rattle.std.specs.Prelude.{◌≡◌, ℕ, ◌+◌, ◌≤◌, ◌<◌, Bool, ◌&&◌, ◌∷◌, ◌++◌, T, leb, length, drop, Option, Some, None}
use Rattle.language.specs.Text.{Text, decimal}
use Rattle.language.specs.State.{last_count}
use Rattle.language.specs.Decode.{number}
use Rattle.text.specs.Parts.{part}

-- at place `at` stands a field that passes the test; it ends at e, where the byte `stop` stands
pub record Field (fine : Text → Bool) (stop : ℕ) (t : Text) (at e : ℕ) : Type 0 where
  pub low : at ≤ e
  pub high : e < length t
  pub is_fine : T (fine (part t at e))
  pub here : drop at t ≡ part t at e ++ stop ∷ drop (e + 1) t

abbrev pub CutMeant : (Text → Bool) → ℕ → Text → ℕ → Option ℕ → Type 0
CutMeant fine stop t at (Some e) = Field fine stop t at e
CutMeant fine stop t at None = (x r : Text) → T (fine x) → drop at t ≡ x ++ stop ∷ r → ⊥

abbrev pub is_digit : ℕ → Bool
is_digit b = leb 48 b && leb b 57

-- what digits are worth; of a number that is too large only that
pub record Worth (w : Text) (r : ℕ) : Type 0 where
  pub exact : r ≤ last_count → r ≡ number 0 w
  pub large : last_count < r → last_count < number 0 w

-- the decimal digits of n, up to place e, where the line ends
pub record Digits (t : Text) (at n e : ℕ) : Type 0 where
  pub low : at ≤ e
  pub high : e < length t
  pub bound : n ≤ last_count
  pub here : drop at t ≡ decimal n ++ 10 ∷ drop (e + 1) t

abbrev pub NumberMeant : Text → ℕ → Option (ℕ × ℕ) → Type 0
NumberMeant t at (Some (n, e)) = Digits t at n e
NumberMeant t at None = (n : ℕ) (r : Text) → n ≤ last_count → drop at t ≡ decimal n ++ 10 ∷ r → ⊥
