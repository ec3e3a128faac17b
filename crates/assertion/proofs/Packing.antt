-- Packed and taken apart.
use mathlib.Core.Path.{◌≡◌, ap, ◌∙◌}
use Prim.Native.Nat.{ℕ, ◌<◌, ◌^◌}
use native.Mathlib.Omega.{arith}
use Rattle.assertion.specs.Packed.{Assertion, pack, fields}

-- an assertion is its four numbers
pub assertion_is : (a : Assertion) (v f r t : ℕ) → a.variable ≡ v → a.from ≡ f → a.right ≡ r → a.to ≡ t → a ≡ record { variable = v; from = f; right = r; to = t }
assertion_is a v f r t ev ef er et =
    ap (λ (x : ℕ). record { variable = x; from = a.from; right = a.right; to = a.to }) ev
    ∙ ap (λ (x : ℕ). record { variable = v; from = x; right = a.right; to = a.to }) ef
    ∙ ap (λ (x : ℕ). record { variable = v; from = f; right = x; to = a.to }) er
    ∙ ap (λ (x : ℕ). record { variable = v; from = f; right = r; to = x }) et

-- four numbers of 16 bits, packed, come back
module _ (v f r t : ℕ) (v-fits : v < 2 ^ 16) (f-fits : f < 2 ^ 16) (r-fits : r < 2 ^ 16) (t-fits : t < 2 ^ 16) where
  pub fields_pack : fields (pack v f r t) ≡ record { variable = v; from = f; right = r; to = t }
  unfolding pack fields
  fields_pack = assertion_is (fields (pack v f r t)) v f r t (omega arith) (omega arith) (omega arith) (omega arith)
