-- What stands after the name in a principal's and in a variable's record.
-- Assumes nothing.
use mathlib.Core.Path.{◌≡◌, refl, sym, ap, ◌∙◌}
use mathlib.Core.Option.{Option, none, some}
use mathlib.Core.List.{List, [], ◌∷◌, ◌++◌, map, append-nil, append_assoc}
use Prim.Native.Nat.{ℕ, suc, ◌+◌, ◌-◌, ◌<◌}
use native.Mathlib.Omega.{arith}
use lib.ListN.{length, get_or, take, drop, length-append}
use lib.Seq.{take-append_seam, take-take, get_or-drop}
use Rattle.language.specs.Text.{Text, joined}
use Rattle.language.specs.State.{Principal, Variable, list}
use Rattle.language.specs.Encode.{tab, value_text}
use Rattle.store.specs.Held.{Principals, Variables}
use Rattle.text.specs.Parts.{part}
use Rattle.store.specs.Rows.{Row, Rows, row_at, no_row, start_of, row_text, body_text, password_letter, password_body, count_text, principal_row, variable_row, Placed}
use Rattle.store.specs.Contents.{principal_at, variable_at}
use Rattle.contents.specs.Contents.{kept_at, LastTab, CountAt, PasswordAt, ValueAt}
use Rattle.store.specs.declared.index.Place.{Place}
use Rattle.std.specs.Prelude.{None}
use Rattle.store.proofs.Records.{start_next, row_here, body_part}
use Rattle.store.proofs.Places.{lies}
use Rattle.store.proofs.Holders.{principals_rows, variables_rows}
use Rattle.store.proofs.Answers.{map_at}
use Rattle.contents.proofs.Tabs.{count_tabless, field_here, rest_here, last_field}

-- the front of a part
shorter : (t : Text) (s e d : ℕ) (w v : Text) → d - s ≡ length w → part t s e ≡ w ++ v → e - s ≡ length (w ++ v) → part t s d ≡ w
shorter t s e d w v n q l =
    ap (λ (m : ℕ). take m (drop s t)) n ∙ sym (take-take (length w) (e - s) (drop s t) (omega (arith, l, length-append w v)))
    ∙ ap (take (length w)) q ∙ take-append_seam w v

-- a row's second byte
pub second_byte : (rows : List Row) (t : Text) (count : ℕ) (slots : List ℕ) → Rows rows t count slots → (k : ℕ) → k < count → (p : Place)
    → Placed rows k p → get_or t (p.start + 1) 0 ≡ tab
second_byte rows t count slots H k h p P =
    ap (λ (n : ℕ). get_or t (n + 1) 0) P.starts ∙ sym (get_or-drop (start_of rows k) t 1 0) ∙ ap (λ (l : Text). get_or l 1 0) (row_here rows t count slots H k h)

-- what stands before the tab that the count follows
abbrev fore : Option Text → Text
fore none = []
fore (some w) = tab ∷ w

abbrev line_fore : Principal → Text
line_fore k = password_letter k.password ∷ tab ∷ (k.name ++ fore k.password)

split_line : (k : Principal) → row_text (principal_row k) ≡ line_fore k ++ tab ∷ count_text k.count
split_line k = go k.password
  where
    go : (o : Option Text) → password_letter o ∷ tab ∷ (k.name ++ tab ∷ password_body o k.count) ≡ (password_letter o ∷ tab ∷ (k.name ++ fore o)) ++ tab ∷ count_text k.count
    go none = ap (λ (l : Text). 78 ∷ tab ∷ (l ++ tab ∷ count_text k.count)) (sym (append-nil k.name))
    go (some w) = ap (λ (l : Text). 80 ∷ tab ∷ l) (sym (append_assoc k.name (tab ∷ w) (tab ∷ count_text k.count)))

module _ (ks : List Principal) (t : Text) (count : ℕ) (slots : List ℕ) (K : Principals ks t count slots) (k : ℕ) (h : k < count) (p : Place) (P : Placed (map principal_row ks) k p) where
  row_is : row_at (map principal_row ks) k ≡ principal_row (principal_at ks k)
  row_is =
      let l : k < length ks = omega (arith, K.counted) in
      map_at principal_row ks k (record { name = []; password = none; count = 0 }) no_row l

  line_here : drop p.start t ≡ (line_fore (principal_at ks k) ++ tab ∷ count_text (principal_at ks k).count) ++ joined row_text (drop (suc k) (map principal_row ks))
  line_here =
      let H = principals_rows ks t count slots K in
      ap (λ (n : ℕ). drop n t) P.starts ∙ row_here (map principal_row ks) t count slots H k h
      ∙ ap (λ (l : Text). l ++ joined row_text (drop (suc k) (map principal_row ks))) (ap row_text row_is ∙ split_line (principal_at ks k))

  line_ends : p.end ≡ p.start + length (line_fore (principal_at ks k) ++ tab ∷ count_text (principal_at ks k).count)
  line_ends =
      let H = principals_rows ks t count slots K in
      let n : start_of (map principal_row ks) (suc k) ≡ start_of (map principal_row ks) k + length (row_text (row_at (map principal_row ks) k)) = start_next (map principal_row ks) t count slots H k h in
      let l : length (row_text (row_at (map principal_row ks) k)) ≡ length (line_fore (principal_at ks k) ++ tab ∷ count_text (principal_at ks k).count) = ap length (ap row_text row_is ∙ split_line (principal_at ks k)) in
      omega (arith, P.starts, P.ends)

  pub count_there : (from r : ℕ) → LastTab t from p.end r → CountAt ks t k r
  count_there from r L =
      let a : Text = line_fore (principal_at ks k) in
      let w : Text = count_text (principal_at ks k).count in
      let rest : Text = joined row_text (drop (suc k) (map principal_row ks)) in
      let q : r ≡ p.start + length a + 1 = last_field t a w rest p.start p.end line_here line_ends (count_tabless (principal_at ks k).count) from r L in
      record {
        size = omega (arith, q, line_ends, P.ends, length-append a (tab ∷ w));
        is_count = ap (λ (n : ℕ). drop n t) q ∙ field_here t a w rest p.start p.end line_here line_ends
            ∙ ap (λ (l : Text). w ++ l) (sym (rest_here t a w rest p.start p.end line_here line_ends) ∙ ap (λ (n : ℕ). drop n t) P.ends);
      }

  first_is : get_or t p.start 0 ≡ password_letter (principal_at ks k).password
  first_is =
      let q : p.start ≡ p.start + 0 = omega arith in
      ap (λ (n : ℕ). get_or t n 0) q ∙ sym (get_or-drop p.start t 0 0) ∙ ap (λ (l : Text). get_or l 0 0) line_here

  pub no_password : (get_or t p.start 0 ≡ 80 → ⊥) → PasswordAt ks t k None
  no_password n = record { within = tt; meant = go (principal_at ks k).password (λ e. n (first_is ∙ e)) }
    where
      go : (o : Option Text) → (password_letter o ≡ 80 → ⊥) → none ≡ o
      go none f = refl
      go (some w) f = absurd (f refl)

  pub kept_password : get_or t p.start 0 ≡ 80 → (r : ℕ) → CountAt ks t k r → PasswordAt ks t k (kept_at (p.mid + 1) (r - 1))
  kept_password e r C = go (principal_at ks k).password refl
    where
      go : (o : Option Text) → o ≡ (principal_at ks k).password → PasswordAt ks t k (kept_at (p.mid + 1) (r - 1))
      go none q = absurd (let z : 78 ≡ 80 = ap password_letter q ∙ sym first_is ∙ e in omega (arith, z))
      go (some w) q =
          let H = principals_rows ks t count slots K in
          let n : ℕ = (principal_at ks k).count in
          let b : (row_at (map principal_row ks) k).body ≡ some (w ++ tab ∷ count_text n) = ap (λ (x : Row). x.body) row_is ∙ ap (λ (o : Option Text). some (password_body o n)) (sym q) in
          let l : length (body_text (row_at (map principal_row ks) k).body) ≡ suc (length (w ++ tab ∷ count_text n)) = ap (λ (o : Option Text). length (body_text o)) b in
          let z : p.end - (p.mid + 1) ≡ length (w ++ tab ∷ count_text n) =
          omega (arith, P.name_ends, P.ends, start_next (map principal_row ks) t count slots H k h, l, length-append (row_at (map principal_row ks) k).name (body_text (row_at (map principal_row ks) k).body)) in
          let y : part t (p.mid + 1) p.end ≡ w ++ tab ∷ count_text n = (λ i. part t (P.name_ends i + 1) (P.ends i)) ∙ body_part (map principal_row ks) t count slots H k h (w ++ tab ∷ count_text n) b in
          let m : p.mid < p.end = (lies (map principal_row ks) t count slots H k h p P).middle in
          let c : length (w ++ tab ∷ count_text n) ≡ length w + suc (length (count_text n)) = length-append w (tab ∷ count_text n) in
          let s : r - 1 - (p.mid + 1) ≡ length w = omega (arith, C.size, P.ends) in
          record {
            within = (omega (arith, C.size, P.ends), omega (arith, C.size, P.ends, (lies (map principal_row ks) t count slots H k h p P).last));
            meant = ap some (shorter t (p.mid + 1) p.end (r - 1) w (tab ∷ count_text n) s y z) ∙ q;
          }

pub value_there : (vs : List Variable) (t : Text) (count : ℕ) (slots : List ℕ) → Variables vs t count slots → (k : ℕ) → k < count → (p : Place)
    → Placed (map variable_row vs) k p → ValueAt vs t k (p.mid + 1) p.end
value_there vs t count slots W k h p P =
    let rows : List Row = map variable_row vs in
    let H = variables_rows vs t count slots W in
    let L = lies rows t count slots H k h p P in
    let l : k < length vs = omega (arith, W.counted) in
    let b : (row_at rows k).body ≡ some (value_text (variable_at vs k).value) = ap (λ (r : Row). r.body) (map_at variable_row vs k (record { name = []; value = list [] }) no_row l) in
    record {
      order = omega (arith, L.middle);
      within = L.last;
      is_value = (λ i. part t (P.name_ends i + 1) (P.ends i)) ∙ body_part rows t count slots H k h (value_text (variable_at vs k).value) b;
    }
