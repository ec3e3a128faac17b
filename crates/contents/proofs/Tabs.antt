-- The last tab of a line, found from its end: what follows it is the line's last field.
-- Assumes nothing.
use mathlib.Core.Path.{◌≡◌, sym, ap, subst, ◌∙◌}
use mathlib.Core.Bool.{not, ◌&&◌}
use mathlib.Core.List.{[], ◌∷◌, ◌++◌, append_assoc}
use Prim.Native.Nat.{ℕ, zero, suc, ◌+◌, ◌-◌, ◌≤◌, ◌<◌}
use native.Mathlib.Omega.{arith}
use lib.Dec.{T, eqb}
use lib.ListN.{length, get_or, drop, length-append, get_or-append}
use lib.Seq.{get_or-drop, get_or-append_seam, drop-drop, drop-append_seam}
use Rattle.language.specs.Text.{Text, all, decimal}
use Rattle.language.specs.Encode.{tab, newline}
use Rattle.language.proofs.Logic.Tests.{both, and, all_append}
use Rattle.language.proofs.StateText.Clean.{digits_clean}
use Rattle.language.proofs.StateText.Lines.{is_clean}
use Rattle.store.specs.Rows.{count_text}
use Rattle.contents.specs.Contents.{LastTab}

-- ---- the scan

-- no tab stands from place i up to `to`
abbrev pub NoTab : Text → ℕ → ℕ → Type 0
NoTab t i to = (j : ℕ) → i ≤ j → j < to → get_or t j 0 ≡ tab → ⊥

-- ---- the field after it

abbrev Tabless : Text → Type 0
Tabless w = T (all (λ b. not (eqb b tab)) w)

tabless_at : (w : Text) (j : ℕ) → Tabless w → get_or w j 0 ≡ tab → ⊥
tabless_at [] j h q = omega arith
tabless_at (b ∷ w) zero h q = subst (λ (x : ℕ). T (not (eqb x tab))) q (both (not (eqb b tab)) (all (λ b. not (eqb b tab)) w) h).0
tabless_at (b ∷ w) (suc j) h q = tabless_at w j (both (not (eqb b tab)) (all (λ b. not (eqb b tab)) w) h).1 q

clean_tabless : (w : Text) → T (is_clean w) → Tabless w
clean_tabless [] h = tt
clean_tabless (b ∷ w) h =
    let (h₁, h₂) = both (not (eqb b tab) && not (eqb b newline)) (is_clean w) h in
    and (not (eqb b tab)) (all (λ b. not (eqb b tab)) w) (both (not (eqb b tab)) (not (eqb b newline)) h₁).0 (clean_tabless w h₂)

pub count_tabless : (n : ℕ) → Tabless (count_text n)
count_tabless n = all_append (λ b. not (eqb b tab)) (decimal n) (newline ∷ []) (clean_tabless (decimal n) (digits_clean 9 n)) tt

-- a line that starts at s and ends at e, its last field w
module _ (t a w rest : Text) (s e : ℕ) (here : drop s t ≡ (a ++ tab ∷ w) ++ rest) (ends : e ≡ s + length (a ++ tab ∷ w)) where
  line_size_lem : e ≡ s + length a + 1 + length w
  line_size_lem = omega (arith, ends, length-append a (tab ∷ w))

  line_here : drop s t ≡ a ++ tab ∷ (w ++ rest)
  line_here = here ∙ append_assoc a (tab ∷ w) rest

  tab_there : get_or t (s + length a) 0 ≡ tab
  tab_there = sym (get_or-drop s t (length a) 0) ∙ ap (λ (l : Text). get_or l (length a) 0) line_here ∙ get_or-append_seam a tab (w ++ rest) 0

  pub field_here : drop (s + length a + 1) t ≡ w ++ rest
  field_here =
      let q : s + length a + 1 ≡ s + (length a + 1) = omega arith in
      ap (λ (n : ℕ). drop n t) q ∙ sym (drop-drop (length a + 1) s t) ∙ ap (drop (length a + 1)) line_here
      ∙ sym (drop-drop 1 (length a) (a ++ tab ∷ (w ++ rest))) ∙ ap (drop 1) (drop-append_seam a (tab ∷ (w ++ rest)))

  pub rest_here : drop e t ≡ rest
  rest_here =
      ap (λ (n : ℕ). drop n t) line_size_lem ∙ sym (drop-drop (length w) (s + length a + 1) t) ∙ ap (drop (length w)) field_here
      ∙ drop-append_seam w rest

  field_byte : (j : ℕ) → j < length w → get_or t (s + length a + 1 + j) 0 ≡ get_or w j 0
  field_byte j h = sym (get_or-drop (s + length a + 1) t j 0) ∙ ap (λ (l : Text). get_or l j 0) field_here ∙ get_or-append w rest 0 j h

  pub last_field : Tabless w → (from r : ℕ) → LastTab t from e r → r ≡ s + length a + 1
  last_field f from r L =
      let low : r ≤ s + length a → ⊥ = λ h. L.no_later (s + length a) h (omega (arith, line_size_lem)) tab_there in
      let j : ℕ = r - 1 - (s + length a + 1) in
      let high : s + length a + 1 < r → ⊥ = λ h.
      let q : s + length a + 1 + j ≡ r - 1 = omega arith in
      tabless_at w j f (sym (field_byte j (omega (arith, line_size_lem, L.high))) ∙ ap (λ (n : ℕ). get_or t n 0) q ∙ L.after_tab)
      in
      omega arith
