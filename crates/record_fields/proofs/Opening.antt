-- The bytes at a place, and what is left behind them.
-- Assumes nothing.
use mathlib.Core.Path.{◌≡◌, sym, ap, ◌∙◌}
use Prim.Native.Nat.{ℕ, suc, ◌+◌, ◌-◌, ◌≤◌, ◌<◌}
use native.Mathlib.Omega.{arith}
use native.Mathlib.Numerals.{add-one}
use native.Mathlib.Decide.{dec_le}
use mathlib.Core.List.{[], ◌∷◌}
use lib.ListN.{length, get_or, drop, length-drop, get_or-eq_default}
use lib.Seq.{drop-cons, length-take-le, get_or-drop}
use Rattle.language.specs.Text.{Text}
use Rattle.language.specs.Identifiers.{is_name}
use Rattle.language.proofs.StateText.Clean.{name_length}
use Rattle.lines.specs.Cuts.{Field}
use Rattle.text.specs.Parts.{part}

-- a byte that is not 0 stands within the text
pub inside : (t : Text) (at : ℕ) → 0 < get_or t at 0 → at < length t
inside t at h = elim (dec_le (length t) at) [
  | yes l ↦ absurd (let z : get_or t at 0 ≡ 0 = get_or-eq_default t 0 l in omega arith)
  | no l ↦ omega arith
]

pub opened : (t : Text) (at c : ℕ) → 0 < c → get_or t at 0 ≡ c → drop at t ≡ c ∷ drop (at + 1) t
opened t at c h e = drop-cons t at 0 (inside t at (omega arith)) ∙ ap (λ (b : ℕ). b ∷ drop (suc at) t) e ∙ ap (λ (k : ℕ). c ∷ drop k t) (sym (add-one at))

pub twice : (t : Text) (at c d : ℕ) → 0 < c → 0 < d → get_or t at 0 ≡ c → get_or t (at + 1) 0 ≡ d → drop at t ≡ c ∷ d ∷ drop (at + 2) t
twice t at c d hc hd e f =
    let n : at + 1 + 1 ≡ at + 2 = omega arith in
    opened t at c hc e ∙ ap (λ (l : Text). c ∷ l) (opened t (at + 1) d hd f ∙ ap (λ (k : ℕ). d ∷ drop k t) n)

abbrev tail : Text → Text
tail [] = []
tail (b ∷ l) = l

pub tail_of : (a b : ℕ) (s t : Text) → a ∷ s ≡ b ∷ t → s ≡ t
tail_of a b s t e = ap tail e

-- the byte at a place, from what stands there
pub byte_here : (t : Text) (at : ℕ) (u : Text) → drop at t ≡ u → get_or t at 0 ≡ get_or u 0 0
byte_here t at u e = ap (λ (k : ℕ). get_or t k 0) (omega arith) ∙ sym (get_or-drop at t 0 0) ∙ ap (λ (l : Text). get_or l 0 0) e

pub next_here : (t : Text) (at : ℕ) (u : Text) → drop at t ≡ u → get_or t (at + 1) 0 ≡ get_or u 1 0
next_here t at u e = sym (get_or-drop at t 1 0) ∙ ap (λ (l : Text). get_or l 1 0) e

pub part_length : (t : Text) (s e : ℕ) → s ≤ e → e ≤ length t → length (part t s e) ≡ e - s
part_length t s e l h = length-take-le (e - s) (drop s t) (omega (arith, length-drop s t))

-- a name is short
pub name_fits : (stop : ℕ) (t : Text) (at e : ℕ) → Field is_name stop t at e → e - at ≤ 255
name_fits stop t at e f =
    let h = name_length (part t at e) f.is_fine in
    omega (arith, h.1, part_length t at e f.low (omega (arith, f.high)))
