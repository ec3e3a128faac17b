-- Lines copied byte by byte, with a count of 0 at the end of each.
-- Assumes nothing.
use mathlib.Core.Path.{◌≡◌, sym, ap, ◌∙◌}
use mathlib.Core.Bool.{Bool, true, false}
use mathlib.Core.List.{[], ◌∷◌, ◌++◌}
use Prim.Native.Nat.{ℕ, ◌+◌, ◌-◌, ◌≤◌, ◌<◌}
use native.Mathlib.Omega.{arith}
use native.Mathlib.Numerals.{add-one}
use borrow.Author.Tests.{eq-eqb, ne_eqb}
use lib.Dec.{eqb}
use lib.ListN.{length, get_or, take, drop, replicate, length-append}
use Rattle.language.specs.Text.{Text, when◌then◌else◌}
use Rattle.language.specs.Encode.{tab, newline, head_text, padded, buffer_size}
use Rattle.text.specs.Parts.{part}
use Rattle.validate.specs.declared.Parts.{Parts}
use Rattle.store.proofs.Records.{joined_split, joined_suc}
use Rattle.value_text.specs.Writing.{Written}
use Rattle.value_text.proofs.Pieces.{◌▸◌, rewritten, written_length, written_take}
use Rattle.state_lines.proofs.Zeros.{padded_is}
use Rattle.bring.specs.Counts.{with_count, counted, brought_text}

pub line_end : (b : ℕ) → b ≡ 10 → tab ∷ 48 ∷ newline ∷ [] ≡ with_count b
line_end b e = sym (ap (λ (c : Bool). when c then tab ∷ 48 ∷ newline ∷ [] else b ∷ []) (eq-eqb b 10 e))

pub inner_byte : (b : ℕ) → (b ≡ 10 → ⊥) → b ∷ [] ≡ with_count b
inner_byte b n = sym (ap (λ (c : Bool). when c then tab ∷ 48 ∷ newline ∷ [] else b ∷ []) (ne_eqb b 10 n))

some_byte : (b : ℕ) → 1 ≤ length (with_count b)
some_byte b = go (eqb b 10)
  where
    go : (c : Bool) → 1 ≤ length (when c then tab ∷ 48 ∷ newline ∷ [] else b ∷ [])
    go true = omega arith
    go false = omega arith

module _ (t : Text) (i : ℕ) (h : i < length t) where
  next_byte : counted (take i t) ++ with_count (get_or t i 0) ≡ counted (take (i + 1) t)
  next_byte = sym (ap (λ (k : ℕ). counted (take k t)) (add-one i) ∙ joined_suc with_count t i 0 h)

  -- a byte is still to come
  pub byte_left : length (counted (take i t)) + 1 ≤ length (counted t)
  byte_left =
      let a : Text = counted (take i t) in
      let b : Text = with_count (get_or t i 0) in
      let c : Text = counted (drop (i + 1) t) in
      let e : counted t ≡ (a ++ b) ++ c = joined_split with_count t (i + 1) ∙ ap (λ (x : Text). x ++ c) (sym next_byte) in
      omega (arith, ap length e, length-append (a ++ b) c, length-append a b, some_byte (get_or t i 0))

  pub one_more : {before out after : Text} {at p r : ℕ} → Written before at (counted (take i t)) p out → Written out p (with_count (get_or t i 0)) r after → Written before at (counted (take (i + 1) t)) r after
  one_more w x = rewritten next_byte (w ▸ x)

-- ---- the whole text

pub brought_length : (t : Text) (p : Parts)
    → length (brought_text t p) ≡ length (head_text p.«open») + (length (counted (part t p.principals_from p.principals_to)) + length (part t p.principals_to p.used))
brought_length t p =
    let a : Text = head_text p.«open» in
    let b : Text = counted (part t p.principals_from p.principals_to) in
    let c : Text = part t p.principals_to p.used in
    length-append a (b ++ c) ∙ ap (λ (n : ℕ). length a + n) (length-append b c)

-- and zeros after it
pub brought_padded : (t : Text) (p : Parts) (before after : Text) (r : ℕ) → length before ≡ buffer_size → Written before 0 (brought_text t p) r after
    → take r after ++ replicate (length after - r) 0 ≡ padded (brought_text t p)
brought_padded t p before after r h w = padded_is (brought_text t p) after r (written_length w ∙ h) (w.ends ∙ omega arith) (written_take w)
