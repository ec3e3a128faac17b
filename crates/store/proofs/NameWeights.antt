-- The weight of names, and of those that rows have.
-- Assumes nothing.
use mathlib.Core.Path.{◌≡◌, ap, ◌∙◌}
use mathlib.Core.Bool.{Bool, true, false, ◌||◌}
use mathlib.Core.List.{List}
use Prim.Native.Nat.{ℕ, ◌+◌, ◌≤◌, ◌<◌}
use native.Mathlib.Omega.{arith}
use lib.Dec.{T}
use lib.ListN.{length}
use Rattle.language.specs.Text.{Text, when◌then◌else◌, ◌≟◌}
use Rattle.language.specs.Identifiers.{is_name}
use Rattle.language.specs.State.{admin, anyone}
use Rattle.language.specs.Weight.{name_weight}
use Rattle.language.proofs.StateText.Clean.{name_length}
use Rattle.text.specs.Parts.{part}
use Rattle.store.specs.Rows.{Row, Rows, row_at, start_of, Placed}
use Rattle.store.specs.declared.index.Place.{Place}
use Rattle.store.proofs.Records.{name_part, name_valid}

pub weighs_one : (x : Text) → ((x ≟ admin) || (x ≟ anyone)) ≡ true → name_weight x ≡ 1
weighs_one x e = ap (λ (b : Bool). when b then 1 else length x) e

pub weighs_all : (x : Text) → (x ≟ admin) ≡ false → (x ≟ anyone) ≡ false → name_weight x ≡ length x
weighs_all x e f = ap (λ (b : Bool). when b || (x ≟ anyone) then 1 else length x) e ∙ ap (λ (b : Bool). when b then 1 else length x) f

pub name_light : (x : Text) → T (is_name x) → (1 ≤ name_weight x) × (name_weight x ≤ 255)
name_light x h = go ((x ≟ admin) || (x ≟ anyone)) (name_length x h)
  where
    go : (b : Bool) → (1 ≤ length x) × (length x ≤ 255) → (1 ≤ (when b then 1 else length x)) × ((when b then 1 else length x) ≤ 255)
    go true l = (omega arith, omega arith)
    go false l = l

module _ (rows : List Row) (t : Text) (count : ℕ) (slots : List ℕ) (H : Rows rows t count slots) (k : ℕ) (h : k < count) where
  pub row_light : name_weight (row_at rows k).name ≤ 255
  row_light = (name_light (row_at rows k).name (name_valid rows t count slots H k h)).1

  -- the name, from the place of its row
  pub name_is : (p : Place) → Placed rows k p → (s : ℕ) → s ≡ p.start + 2 → part t s p.mid ≡ (row_at rows k).name
  name_is p P s e =
      let q : s ≡ start_of rows k + 2 = omega (arith, e, P.starts) in
      ap (λ (n : ℕ). part t n p.mid) q ∙ name_part rows t count slots H k h p.mid P.name_ends
