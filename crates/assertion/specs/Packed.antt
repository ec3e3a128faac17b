-- An assertion in one number below 2 ^ 64: from the top variable, right, from and to, 16 bits each. The upper half, the key, says what
-- the assertion is about, and the lower half who hands it to whom.
use Rattle.std.specs.Prelude.{ℕ, ◌+◌, ◌*◌, ◌/◌, ◌%◌, ◌^◌}
use Rattle.assertion.specs.declared.Assertion as Declared

-- the assertion `variable from right -> to`: the code's record of four numbers
abbrev pub Assertion : Type 0
Assertion = Declared.Assertion

unfoldable pub pack : ℕ → ℕ → ℕ → ℕ → ℕ
pack variable from right to = variable * 2 ^ 48 + right * 2 ^ 32 + from * 2 ^ 16 + to

-- the assertion that a number is
unfoldable pub fields : ℕ → Assertion
fields n = record { variable = n / 2 ^ 48; from = n / 2 ^ 16 % 2 ^ 16; right = n / 2 ^ 32 % 2 ^ 16; to = n % 2 ^ 16 }

-- the key of a variable and a right
abbrev pub key : ℕ → ℕ → ℕ
key variable right = variable * 2 ^ 16 + right

-- the key of a packed assertion
abbrev pub upper : ℕ → ℕ
upper n = n / 2 ^ 32
