-- How many digits a number has, and the room that they need.
use Rattle.std.specs.Prelude.{ℕ, zero, suc, ◌+◌, ◌/◌, ◌<◌, ◌≤◌, length}
use Rattle.language.specs.Text.{digits}

-- n has at most one digit more than k
abbrev pub Digits : ℕ → ℕ → Type 0
Digits zero n = n < 10
Digits (suc k) n = Digits k (n / 10)

-- the digits of n, however many are allowed, have room in a text of the given length
pub record DigitsRoom (n at size : ℕ) : Type 0 where
  pub more : ℕ
  pub enough : Digits more n
  pub room : at + length (digits more n) ≤ size
