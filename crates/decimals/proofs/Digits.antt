-- Laws of a number's digits: one alone, those before the last, and the room for them.
-- Assumes nothing.
use mathlib.Core.Path.{◌≡◌, refl, sym, ap}
use Prim.Native.Nat.{ℕ, zero, suc, ◌+◌, ◌/◌, ◌%◌, ◌≤◌, ◌<◌}
use native.Mathlib.Omega.{arith}
use mathlib.Core.List.{[], ◌∷◌, ◌++◌}
use lib.ListN.{length, length-append}
use borrow.Author.Tests.{lt-ltb, le-ltb}
use Rattle.language.specs.Text.{when◌then◌else◌, digits}
use Rattle.decimals.specs.Digits.{Digits, DigitsRoom}

pub digit_last : (more n : ℕ) → n < 10 → (48 + n) ∷ [] ≡ digits more n
digit_last zero n h = refl
digit_last (suc more) n h = ap (λ c. when c then (48 + n) ∷ [] else digits more (n / 10) ++ ((48 + n % 10) ∷ [])) (sym (lt-ltb n 10 h))

-- more digits follow only where one more is allowed
pub record Longer (more n : ℕ) : Type 0 where
  pub less : ℕ
  pub enough : Digits less (n / 10)
  pub parted : digits more n ≡ digits less (n / 10) ++ ((48 + n % 10) ∷ [])

pub longer : (more n : ℕ) → 10 ≤ n → Digits more n → Longer more n
longer zero n h d = absurd (omega arith)
longer (suc more) n h d = record {
  less = more;
  enough = d;
  parted = ap (λ c. when c then (48 + n) ∷ [] else digits more (n / 10) ++ ((48 + n % 10) ∷ [])) (le-ltb n 10 h);
}

-- room for one digit, or for those before the last
pub digits_room : (n at size : ℕ) → DigitsRoom n at size → n < 10 → at < size
digits_room n at size R h = let e : length (digits R.more n) ≡ 1 = ap length (sym (digit_last R.more n h)) in omega (arith, e, R.room)

pub longer_room : (n at size : ℕ) → DigitsRoom n at size → 10 ≤ n → DigitsRoom (n / 10) at size
longer_room n at size R h =
    let L = longer R.more n h R.enough in
    record {
      more = L.less;
      enough = L.enough;
      room = omega (arith, R.room, ap length L.parted, length-append (digits L.less (n / 10)) ((48 + n % 10) ∷ []));
    }

-- and for the last one after them
pub last_room : (n at size : ℕ) → DigitsRoom n at size → 10 ≤ n → (p : ℕ) → ((more : ℕ) → Digits more (n / 10) → p ≡ at + length (digits more (n / 10))) → p < size
last_room n at size R h p f =
    let L = longer R.more n h R.enough in
    omega (arith, R.room, f L.less L.enough, ap length L.parted, length-append (digits L.less (n / 10)) ((48 + n % 10) ∷ []))
