-- Elements that are written as long as they are light.
-- Assumes nothing.
use mathlib.Core.Path.{◌≡◌, sym, subst}
use Prim.Native.Nat.{ℕ, ◌≤◌, ◌<◌}
use native.Mathlib.Decide.{dec_le}
use native.Mathlib.Omega.{arith}
use mathlib.Core.List.{List}
use lib.ListN.{length, take}
use Rattle.language.specs.Text.{Text}
use Rattle.language.specs.State.{Element, list}
use Rattle.language.specs.Weight.{limit, value_weight}
use Rattle.language.specs.Outcomes.{Outcome, gives, fails, fills}
use Rattle.foreach_piece.specs.declared.Draft.{Draft}
use Rattle.foreach_piece.specs.Drafts.{Light, Heavy, Drafted}

module _ (H : List Element → Text → Type 0) (o : Outcome (List Element)) (out : Text) where
  heavy_as : (es : List Element) → o ≡ gives es → limit < value_weight (list es) → Heavy o
  heavy_as es e h = go o e
    where
      go : (q : Outcome (List Element)) → q ≡ gives es → Heavy q
      go (gives fs) e = let k : fs ≡ es = cc in subst (λ (l : List Element). limit < value_weight (list l)) (sym k) h
      go fails e = absurd (let z : ◌≡◌ {A = ℕ} 0 1 = cc in omega arith)
      go fills e = tt

  pub all_drafted : (es : List Element) → o ≡ gives es → (n w : ℕ) → H es (take n out) → n ≤ length out → w ≡ value_weight (list es) → w ≤ 8193
      → Drafted H o out (record { len = n; weight = w })
  all_drafted es e n w h k q l = record {
    small = l;
    within = k;
    light = λ p. record { result = es; is_result = e; held = h; weighs = q };
    heavy = λ p. heavy_as es e (omega (arith, p, q));
  }

  pub heavy_drafted : Heavy o → Drafted H o out (record { len = 0; weight = 8193 })
  heavy_drafted h = record {
    small = omega arith;
    within = omega arith;
    light = λ p. absurd (omega (arith, p));
    heavy = λ p. h;
  }

-- what fails has no draft
pub not_drafted : (H : List Element → Text → Type 0) (out : Text) (d : Draft) → Drafted H fails out d → ⊥
not_drafted H out d D =
    elim (dec_le d.weight limit) [
      | yes h ↦ none_given (D.light h)
      | no h ↦ D.heavy (omega (arith, h))
    ]
  where
    none_given : Light H fails out d → ⊥
    none_given L = let e : fails ≡ gives L.result = L.is_result in let z : ◌≡◌ {A = ℕ} 0 1 = cc in omega arith
