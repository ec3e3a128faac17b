-- Rows one after the other in a text: where the row of a number starts and ends, and what its slot says.
-- Assumes nothing.
use mathlib.Core.Path.{◌≡◌, refl, sym, ap, ◌∙◌}
use mathlib.Core.Bool.{Bool, true}
use mathlib.Core.Option.{Option, none, some}
use mathlib.Core.List.{List, [], ◌∷◌, ◌++◌, append_assoc, append-nil}
use Prim.Native.Nat.{ℕ, zero, suc, ◌+◌, ◌*◌, ◌-◌, ◌/◌, ◌%◌, ◌≤◌, ◌<◌}
use native.Mathlib.Nat.{not-suc-le-zero, le_of_suc-le-suc}
use native.Mathlib.Omega.{arith}
use lib.Dec.{T}
use lib.ListN.{length, get_or, take, drop, length-append, length-take, take-append-drop}
use lib.Seq.{take-suc, drop-cons, take-length, take-append_seam, drop-append_seam, drop-drop, get_or-take, get_or-drop}
use Rattle.language.specs.Text.{Text, joined, all, front}
use Rattle.language.specs.Syntax.{Name}
use Rattle.language.specs.Bytes.{word_byte}
use Rattle.language.specs.Identifiers.{is_name}
use Rattle.language.proofs.Logic.Tests.{both, true_of}
use Rattle.language.proofs.StateText.Clean.{name_word}
use Rattle.store.specs.Held.{hash, slot, slots_from, places}
use Rattle.text.specs.Parts.{part}
use Rattle.store.specs.Rows.{Row, row_text, body_text, Rows, row_at, no_row, start_of}

-- ---- records one after the other

module _ {A : Type 0} (f : A → Text) where
  pub joined_append : (l m : List A) → joined f (l ++ m) ≡ joined f l ++ joined f m
  joined_append [] m = refl
  joined_append (a ∷ l) m = ap (λ (t : Text). f a ++ t) (joined_append l m) ∙ sym (append_assoc (f a) (joined f l) (joined f m))

  pub joined_split : (l : List A) (k : ℕ) → joined f l ≡ joined f (take k l) ++ joined f (drop k l)
  joined_split l k = ap (joined f) (sym (take-append-drop k l)) ∙ joined_append (take k l) (drop k l)

  -- where the next one starts
  pub joined_suc : (l : List A) (k : ℕ) (d : A) → k < length l → joined f (take (suc k) l) ≡ joined f (take k l) ++ f (get_or l k d)
  joined_suc l k d h =
      ap (joined f) (take-suc l k d h) ∙ joined_append (take k l) (get_or l k d ∷ [])
      ∙ ap (λ (t : Text). joined f (take k l) ++ t) (append-nil (f (get_or l k d)))

module _ {A : Type 0} (name : A → Name) (f : A → Text) where
  pub length_slots : (at : ℕ) (l : List A) → length (slots_from name f at l) ≡ length l
  length_slots at [] = refl
  length_slots at (a ∷ l) = ap suc (length_slots (at + length (f a)) l)

  pub slot_at : (at : ℕ) (l : List A) (k : ℕ) (d : A) → k < length l
      → get_or (slots_from name f at l) k 0 ≡ slot (name (get_or l k d)) (at + length (joined f (take k l)))
  slot_at at [] k d h = absurd (not-suc-le-zero h)
  slot_at at (a ∷ l) zero d h = omega arith
  slot_at at (a ∷ l) (suc k) d h =
      slot_at (at + length (f a)) l k d (le_of_suc-le-suc h)
      ∙ ap (slot (name (get_or l k d))) (omega (arith, length-append (f a) (joined f (take k l))))

-- a slot's two parts
pub slot_hash : (p at : ℕ) → at < places → (p * places + at) / places ≡ p
slot_hash p at h = omega arith

pub slot_place : (p at : ℕ) → at < places → (p * places + at) % places ≡ at
slot_place p at h = omega arith

-- ---- names

-- a name before a tab or a newline ends there
pub name_run : (x : Text) (o : Option Text) (rest : Text) → T (all word_byte x) → front word_byte (x ++ (body_text o ++ rest)) ≡ x
name_run [] none rest h = refl
name_run [] (some t) rest h = refl
name_run (b ∷ x) o rest h =
    let (h₁, h₂) = both (word_byte b) (all word_byte x) h in
    let e : word_byte b ≡ true = true_of (word_byte b) h₁ in
    rw e (ap (λ (l : Text). b ∷ l) (name_run x o rest h₂))

pub all_at : {A : Type 0} (f : A → Bool) (l : List A) (k : ℕ) (d : A) → T (all f l) → k < length l → T (f (get_or l k d))
all_at f [] k d h i = absurd (not-suc-le-zero i)
all_at f (a ∷ l) zero d h i = (both (f a) (all f l) h).0
all_at f (a ∷ l) (suc k) d h i = all_at f l k d (both (f a) (all f l) h).1 (le_of_suc-le-suc i)

-- ---- the row of a number

first_byte_lem : (o : Option Text) (rest : Text) → get_or (body_text o ++ rest) 0 0 ≡ get_or (body_text o) 0 0
first_byte_lem none rest = refl
first_byte_lem (some t) rest = refl

body_some : (o : Option Text) → 1 ≤ length (body_text o)
body_some none = omega arith
body_some (some t) = omega arith

module _ (rows : List Row) (t : Text) (count : ℕ) (slots : List ℕ) (H : Rows rows t count slots) where
  pub slots_long : count ≤ length slots
  slots_long =
      let e : length (take count slots) ≡ length rows = ap length H.indexed ∙ length_slots (λ r. r.name) row_text 0 rows in
      omega (arith, e, length-take count slots, H.counted)

  pub text_size : start_of rows count ≡ length t
  text_size =
      let e : take count rows ≡ rows = ap (λ (n : ℕ). take n rows) H.counted ∙ take-length rows in
      ap (λ (l : List Row). length (joined row_text l)) e ∙ ap length (sym H.is_text_lem)

  pub row_text_lem : (k : ℕ) → t ≡ joined row_text (take k rows) ++ joined row_text (drop k rows)
  row_text_lem k = H.is_text_lem ∙ joined_split row_text rows k

  pub start_in : (k : ℕ) → start_of rows k ≤ length t
  start_in k =
      let e : length t ≡ length (joined row_text (take k rows) ++ joined row_text (drop k rows)) = ap length (row_text_lem k) in
      omega (arith, e, length-append (joined row_text (take k rows)) (joined row_text (drop k rows)))

  module _ (k : ℕ) (h : k < count) where
    row_there : k < length rows
    row_there = omega (arith, H.counted)

    pub start_next : start_of rows (suc k) ≡ start_of rows k + length (row_text (row_at rows k))
    start_next =
        ap length (joined_suc row_text rows k no_row row_there)
        ∙ length-append (joined row_text (take k rows)) (row_text (row_at rows k))

    pub start_before : start_of rows k + 2 + length (row_at rows k).name < start_of rows (suc k)
    start_before =
        let e = length-append (row_at rows k).name (body_text (row_at rows k).body) in
        omega (arith, start_next, e, body_some (row_at rows k).body)

    pub slot_there : get_or slots k 0 ≡ slot (row_at rows k).name (start_of rows k)
    slot_there =
        sym (get_or-take count slots k 0 h) ∙ ap (λ (l : List ℕ). get_or l k 0) H.indexed
        ∙ slot_at (λ r. r.name) row_text 0 rows k no_row row_there ∙ ap (slot (row_at rows k).name) (omega arith)

    start_small : start_of rows k < places
    start_small = omega (arith, start_before, start_in (suc k), H.small)

    pub place_there : get_or slots k 0 % places ≡ start_of rows k
    place_there = ap (λ (n : ℕ). n % places) slot_there ∙ slot_place (hash (row_at rows k).name) (start_of rows k) start_small

    pub hash_there : get_or slots k 0 / places ≡ hash (row_at rows k).name
    hash_there = ap (λ (n : ℕ). n / places) slot_there ∙ slot_hash (hash (row_at rows k).name) (start_of rows k) start_small

    -- the row's text, and what follows it
    pub row_here : drop (start_of rows k) t ≡ row_text (row_at rows k) ++ joined row_text (drop (suc k) rows)
    row_here =
        ap (drop (start_of rows k)) (row_text_lem k) ∙ drop-append_seam (joined row_text (take k rows)) (joined row_text (drop k rows))
        ∙ ap (joined row_text) (drop-cons rows k no_row row_there)

    pub name_valid : T (is_name (row_at rows k).name)
    name_valid = all_at (λ (r : Row). is_name r.name) rows k no_row H.named row_there

    -- from its name on
    name_here : drop (start_of rows k + 2) t ≡ (row_at rows k).name ++ (body_text (row_at rows k).body ++ joined row_text (drop (suc k) rows))
    name_here =
        sym (drop-drop 2 (start_of rows k) t) ∙ ap (drop 2) row_here
        ∙ append_assoc (row_at rows k).name (body_text (row_at rows k).body) (joined row_text (drop (suc k) rows))

    pub name_front : front word_byte (drop (start_of rows k + 2) t) ≡ (row_at rows k).name
    name_front =
        ap (front word_byte) name_here
        ∙ name_run (row_at rows k).name (row_at rows k).body (joined row_text (drop (suc k) rows)) (name_word (row_at rows k).name name_valid)

    pub name_part : (mid : ℕ) → mid ≡ start_of rows k + 2 + length (row_at rows k).name → part t (start_of rows k + 2) mid ≡ (row_at rows k).name
    name_part mid q =
        let e : mid - (start_of rows k + 2) ≡ length (row_at rows k).name = omega arith in
        (λ i. take (e i) (name_here i)) ∙ take-append_seam (row_at rows k).name (body_text (row_at rows k).body ++ joined row_text (drop (suc k) rows))

    -- what follows the name
    after_name : drop (start_of rows k + 2 + length (row_at rows k).name) t ≡ body_text (row_at rows k).body ++ joined row_text (drop (suc k) rows)
    after_name =
        sym (drop-drop (length (row_at rows k).name) (start_of rows k + 2) t) ∙ ap (drop (length (row_at rows k).name)) name_here
        ∙ drop-append_seam (row_at rows k).name (body_text (row_at rows k).body ++ joined row_text (drop (suc k) rows))

    -- the byte after the name: a tab, or the line's end
    pub byte_after : get_or t (start_of rows k + 2 + length (row_at rows k).name) 0 ≡ get_or (body_text (row_at rows k).body) 0 0
    byte_after =
        let m : ℕ = start_of rows k + 2 + length (row_at rows k).name in
        let e : m + 0 ≡ m = omega arith in
        ap (λ (n : ℕ). get_or t n 0) (sym e) ∙ sym (get_or-drop m t 0 0) ∙ ap (λ (l : Text). get_or l 0 0) after_name
        ∙ first_byte_lem (row_at rows k).body (joined row_text (drop (suc k) rows))

    pub body_part : (b : Text) → (row_at rows k).body ≡ some b → part t (start_of rows k + 2 + length (row_at rows k).name + 1) (start_of rows (suc k)) ≡ b
    body_part b q =
        let m : ℕ = start_of rows k + 2 + length (row_at rows k).name in
        let l : length (body_text (row_at rows k).body) ≡ suc (length b) = ap (λ (o : Option Text). length (body_text o)) q in
        let e : start_of rows (suc k) - (m + 1) ≡ length b =
        omega (arith, start_next, l, length-append (row_at rows k).name (body_text (row_at rows k).body)) in
        let d : drop (m + 1) t ≡ b ++ joined row_text (drop (suc k) rows) =
        sym (drop-drop 1 m t) ∙ ap (drop 1) (after_name ∙ ap (λ (o : Option Text). body_text o ++ joined row_text (drop (suc k) rows)) q) in
        (λ i. take (e i) (d i)) ∙ take-append_seam b (joined row_text (drop (suc k) rows))
