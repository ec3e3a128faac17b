-- `saving::number::letter_of` meets its contract. By the four rights.
-- Assumes nothing.
use mathlib.Core.Path.{◌≡◌, refl}
use mathlib.Core.List.{[], ◌∷◌}
use Prim.Native.Nat.{ℕ}
use native.Mathlib.Omega.{arith}
use Rattle.language.specs.Syntax.{Right, read, write, append, delegate}
use Rattle.language.specs.Encode.{letter}
use Rattle.named_rights.specs.Numbers.{code}
use Rattle.saving.proofs.number.letter_of.Goals as goal

is_read : (n : ℕ) → n ≡ 0 → (r : Right) → n ≡ code r → letter r ≡ 114 ∷ []
is_read n h read e = refl
is_read n h write e = absurd (omega arith)
is_read n h append e = absurd (omega arith)
is_read n h delegate e = absurd (omega arith)

is-write : (n : ℕ) → n ≡ 1 → (r : Right) → n ≡ code r → letter r ≡ 119 ∷ []
is-write n h read e = absurd (omega arith)
is-write n h write e = refl
is-write n h append e = absurd (omega arith)
is-write n h delegate e = absurd (omega arith)

is-append : (n : ℕ) → n ≡ 2 → (r : Right) → n ≡ code r → letter r ≡ 97 ∷ []
is-append n h read e = absurd (omega arith)
is-append n h write e = absurd (omega arith)
is-append n h append e = refl
is-append n h delegate e = absurd (omega arith)

is-delegate : (n : ℕ) → (n ≡ 0 → ⊥) → (n ≡ 1 → ⊥) → (n ≡ 2 → ⊥) → (r : Right) → n ≡ code r → letter r ≡ 100 ∷ []
is-delegate n h i j read e = absurd (h e)
is-delegate n h i j write e = absurd (i e)
is-delegate n h i j append e = absurd (j e)
is-delegate n h i j delegate e = refl

pub returns-then-right-eq-READ : goal.returns-then-right-eq-READ
returns-then-right-eq-READ c = is_read c.args.right c.if-right-eq-READ.true

pub returns-then-right-eq-WRITE : goal.returns-then-right-eq-WRITE
returns-then-right-eq-WRITE c = is-write c.args.right c.if-right-eq-WRITE.true

pub returns-then-right-eq-APPEND : goal.returns-then-right-eq-APPEND
returns-then-right-eq-APPEND c = is-append c.args.right c.if-right-eq-APPEND.true

pub returns : goal.returns
returns c = is-delegate c.args.right c.if-right-eq-READ.false c.if-right-eq-WRITE.false c.if-right-eq-APPEND.false
