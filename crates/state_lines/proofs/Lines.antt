-- Laws of lines written from their parts.
-- Assumes nothing.
use mathlib.Core.Path.{◌≡◌, sym, ap}
use Prim.Native.Nat.{ℕ, ◌+◌}
use native.Mathlib.Omega.{arith}
use mathlib.Core.List.{[], ◌∷◌, ◌++◌, append_assoc}
use lib.ListN.{length, length-append}
use Rattle.language.specs.Text.{Text}
use Rattle.language.specs.State.{Assertion}
use Rattle.language.specs.Encode.{letter, assertion_text}
use Rattle.value_text.specs.Writing.{Written}
use Rattle.state_lines.specs.Lines.{assertion_line}

-- ---- the same lines as the language's

pub assertion_line_lem : (a : Assertion) (b : ℕ) → letter a.right ≡ b ∷ [] → assertion_line a.variable a.from b a.to ≡ assertion_text a
assertion_line_lem a b e = ap (λ l. 65 ∷ 9 ∷ (a.variable ++ 9 ∷ (a.from ++ 9 ∷ (l ++ 9 ∷ (a.to ++ (10 ∷ [])))))) (sym e)

-- its parts, each with the byte that ends it
pub assertion_parts : (x q : Text) (b : ℕ) (p : Text)
    → (65 ∷ 9 ∷ []) ++ ((x ++ (9 ∷ [])) ++ ((q ++ (9 ∷ [])) ++ ((b ∷ []) ++ ((9 ∷ []) ++ (p ++ (10 ∷ [])))))) ≡ assertion_line x q b p
assertion_parts x q b p = simp append_assoc

pub part_ends : (t : Text) (b : ℕ) {a c : Text} {at r : ℕ} → Written a at (t ++ (b ∷ [])) r c → r ≡ at + length t + 1
part_ends t b w = omega (arith, w.ends, length-append t (b ∷ []))
