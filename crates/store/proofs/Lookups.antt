-- A look-up by number, and one by name: the rows passed have other names.
-- Assumes nothing.
use mathlib.Core.Path.{◌≡◌, sym, ap, ◌∙◌}
use mathlib.Core.Bool.{true, false}
use mathlib.Core.List.{List, []}
use Rattle.std.specs.Prelude.{None}
use Prim.Native.Nat.{ℕ, suc, ◌+◌, ◌%◌, ◌≤◌, ◌<◌}
use native.Mathlib.Decide.{dec_le}
use native.Mathlib.Numerals.{add-one}
use native.Mathlib.Omega.{arith}
use borrow.Author.Tests.{lt-ltb, le-ltb}
use lib.ListN.{length, get_or, drop, length-map, get_or-map}
use Rattle.language.specs.Text.{Text, ◌≟◌, front}
use Rattle.language.specs.Syntax.{Name}
use Rattle.language.specs.Bytes.{word_byte}
use Rattle.language.proofs.Logic.Tests.{==→≡, false_of}
use Rattle.store.specs.Held.{hash, places}
use Rattle.store.specs.Rows.{Row, Rows, row_at, no_row, start_of, row_names, position, found_at, place}
use Rattle.store.specs.Scans.{FirstHit}
use Rattle.store.proofs.Positions.{position_at, position_none}
use Rattle.store.proofs.Records.{text_size, place_there, hash_there, name_front, start_before, start_in}

-- ---- by number

module _ (rows : List Row) (t : Text) (count : ℕ) (slots : List ℕ) (H : Rows rows t count slots) (k : ℕ) (h : k < count) where
  pub name_starts : (s : ℕ) → s ≡ get_or slots k 0 % places → s + 2 ≤ length t
  name_starts s e =
      omega (arith, e, place_there rows t count slots H k h, start_before rows t count slots H k h, start_in rows t count slots H (suc k))

  pub starts_at : (s : ℕ) → s ≡ get_or slots k 0 % places → s ≡ start_of rows k
  starts_at s e = e ∙ place_there rows t count slots H k h

  pub name_ends_at : (s m : ℕ) → s ≡ get_or slots k 0 % places → m ≡ s + 2 + length (front word_byte (drop (s + 2) t))
      → m ≡ start_of rows k + 2 + length (row_at rows k).name
  name_ends_at s m e q =
      q ∙ ap (λ (n : ℕ). n + 2 + length (front word_byte (drop (n + 2) t))) (starts_at s e)
      ∙ ap (λ (x : Text). start_of rows k + 2 + length x) (name_front rows t count slots H k h)

  pub ends_before : (e : ℕ) → k + 1 < count → e ≡ get_or slots (k + 1) 0 % places → e ≡ start_of rows (suc k)
  ends_before e l q = q ∙ place_there rows t count slots H (k + 1) l ∙ ap (start_of rows) (add-one k)

  pub ends_last : count ≤ k + 1 → length t ≡ start_of rows (suc k)
  ends_last l =
      let e : count ≡ suc k = omega arith in
      sym (text_size rows t count slots H) ∙ ap (start_of rows) e

-- ---- by name

-- none of the first i rows has the name
abbrev pub Passed : List Row → Name → ℕ → Type 0
Passed rows x i = (j : ℕ) → j < i → ((row_at rows j).name ≟ x) ≡ false

hashes_differ : (y x : Name) → (hash y ≡ hash x → ⊥) → (y ≟ x) ≡ false
hashes_differ y x n = false_of (y ≟ x) (λ h. n (ap hash (==→≡ y x h)))

pub passed_on : (rows : List Row) (t : Text) (count : ℕ) (slots : List ℕ) → Rows rows t count slots → (x : Name) (i p k : ℕ)
    → p ≡ hash x → FirstHit slots i count p k → Passed rows x i → Passed rows x k
passed_on rows t count slots H x i p k e F P j l = elim (dec_le (suc j) i) [
  | yes h ↦ P j h
  | no h ↦
      hashes_differ (row_at rows j).name x
      (λ q. F.none_before j l (omega arith) (hash_there rows t count slots H j (omega (arith, F.high)) ∙ q ∙ sym e))
]

name_of : (rows : List Row) (j : ℕ) → get_or (row_names rows) j [] ≡ (row_at rows j).name
name_of rows j = get_or-map (λ (r : Row). r.name) rows j no_row

passed_names : (rows : List Row) (x : Name) (k : ℕ) → Passed rows x k → (j : ℕ) → j < k → (get_or (row_names rows) j [] ≟ x) ≡ false
passed_names rows x k P j h = ap (λ (y : Name). y ≟ x) (name_of rows j) ∙ P j h

names_count : (rows : List Row) → length (row_names rows) ≡ length rows
names_count rows = length-map rows (λ (r : Row). r.name)

pub placed_at : (rows : List Row) (x : Name) (k : ℕ) → k < length rows → Passed rows x k → ((row_at rows k).name ≟ x) ≡ true
    → found_at k (start_of rows k) (start_of rows (suc k)) ≡ place rows x
placed_at rows x k h P e =
    let q : position (row_names rows) x ≡ k =
    position_at (row_names rows) x k (omega (arith, names_count rows)) (passed_names rows x k P) (ap (λ (y : Name). y ≟ x) (name_of rows k) ∙ e) in
    rw (q, lt-ltb k (length rows) h)

pub placed_none : (rows : List Row) (x : Name) (count : ℕ) → count ≡ length rows → Passed rows x count → None ≡ place rows x
placed_none rows x count c P =
    let q : position (row_names rows) x ≡ length rows =
    position_none (row_names rows) x (λ j h. passed_names rows x count P j (omega (arith, c, names_count rows))) ∙ names_count rows in
    rw (q, le-ltb (length rows) (length rows) (omega arith))
