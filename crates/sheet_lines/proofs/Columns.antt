-- The columns of a line: its pieces, one after the other, are the line.
-- Assumes nothing.
use mathlib.Core.Path.{◌≡◌, refl, sym, ap, ◌∙◌}
use mathlib.Core.Bool.{Bool, true, false}
use mathlib.Core.List.{[], ◌∷◌, ◌++◌}
use Prim.Native.Nat.{ℕ, ◌-◌, ◌≤◌, ◌<◌}
use borrow.Author.Tests.{le-leb, lt-leb}
use lib.ListN.{length, take, replicate}
use Rattle.language.specs.Text.{bytes, when◌then◌else◌}
use Rattle.language.specs.Syntax.{Name, read, write, append, delegate}
use Rattle.language.specs.Sheet.{space, shown_name, shown_line}
use Rattle.language.proofs.Histories.Sheets.{byte_shown, line_is}
use Rattle.sheet_lines.specs.declared.Had.{Had}
use Rattle.sheet_lines.specs.Rights.{had_by}

-- a name that fits its columns, and one that is cut
pub short_name : (p : Name) → length p ≤ 34 → p ++ replicate (34 - length p) space ≡ shown_name p
short_name p h = sym (ap (λ (b : Bool). when b then p ++ replicate (34 - length p) space else take 33 p ++ bytes "~") (le-leb (length p) 34 h))

pub cut_name : (p : Name) → 34 < length p → take 33 p ++ (126 ∷ []) ≡ shown_name p
cut_name p h = sym (ap (λ (b : Bool). when b then p ++ replicate (34 - length p) space else take 33 p ++ bytes "~") (lt-leb (length p) 34 h))

-- a right's byte, by whether it is had
pub with_letter : {b : Bool} {l : ℕ} → b ≡ true → l ∷ [] ≡ (when b then l else 46) ∷ []
with_letter {l = l} e = sym (ap (λ (t : Bool). (when t then l else 46) ∷ []) e)

pub with_point : {b : Bool} (l : ℕ) → b ≡ false → 46 ∷ [] ≡ (when b then l else 46) ∷ []
with_point l e = sym (ap (λ (t : Bool). (when t then l else 46) ∷ []) e)

-- the byte of each right's column
byte_read : (b : Bool) → (when b then 114 else 46) ≡ byte_shown b read
byte_read true = refl
byte_read false = refl

byte_write : (b : Bool) → (when b then 119 else 46) ≡ byte_shown b write
byte_write true = refl
byte_write false = refl

byte_append : (b : Bool) → (when b then 97 else 46) ≡ byte_shown b append
byte_append true = refl
byte_append false = refl

byte_delegate : (b : Bool) → (when b then 100 else 46) ≡ byte_shown b delegate
byte_delegate true = refl
byte_delegate false = refl

-- the line from its pieces, the name first
pub line_pieces : (p : Name) (h : Had)
    → shown_name p
    ++ ((space ∷ [])
    ++ (((when h.read then 114 else 46) ∷ [])
    ++ (((when h.write then 119 else 46) ∷ []) ++ (((when h.append then 97 else 46) ∷ []) ++ (((when h.delegate then 100 else 46) ∷ []) ++ (10 ∷ [])))))) ≡ shown_line p (had_by h)
line_pieces p h =
    (λ i. shown_name p ++ (space ∷ byte_read h.read i ∷ byte_write h.write i ∷ byte_append h.append i ∷ byte_delegate h.delegate i ∷ 10 ∷ []))
    ∙ sym (line_is p (had_by h))
