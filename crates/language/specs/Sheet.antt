-- Document 02, M-102: who may do what to one shared variable, a line of 40 bytes for each principal in order of creation (02's sheet).
use Rattle.std.specs.Prelude.{ℕ, ◌*◌, ◌-◌, Bool, ◌∷◌, ◌++◌, length, take, drop, replicate, leb}
use Rattle.language.specs.Text.{Text, bytes, joined, when◌then◌else◌}
use Rattle.language.specs.Syntax.{Name, Right, read, write, append, delegate, rights}
use Rattle.language.specs.State.{Principal, Store}
use Rattle.language.specs.Chains.{has}
use Rattle.language.specs.Encode.{letter}

abbrev pub space : ℕ
space = 32

-- a name in 34 columns; of a longer one the first 33 characters and `~`
abbrev pub shown_name : Name → Text
shown_name p = when leb (length p) 34 then p ++ replicate (34 - length p) space else take 33 p ++ bytes "~"

-- a right's letter, or a point where it is missing
abbrev pub shown_right : Bool → Right → Text
shown_right had r = when had then letter r else bytes "."

-- a principal's line, by which rights it has
abbrev pub shown_line : Name → (Right → Bool) → Text
shown_line p had = shown_name p ++ (space ∷ (joined (λ r. shown_right (had r) r) rights ++ bytes "\n"))

abbrev pub sheet_line : Store → Name → Principal → Text
sheet_line s x k = shown_line k.name (λ r. has s r x k.name)

abbrev pub sheet_text : Store → Name → Text
sheet_text s x = joined (sheet_line s x) s.principals

-- ---- where to look in a sheet

abbrev pub line_size : ℕ
line_size = 40

-- the line of number i, counted from 0
abbrev pub line_at : ℕ → Text → Text
line_at i t = take line_size (drop (line_size * i) t)

-- the column of a right, counted from 0
abbrev pub column : Right → ℕ
column read = 35
column write = 36
column append = 37
column delegate = 38

-- what stands in a right's column of a line
abbrev pub cell : Right → Text → Text
cell r line = take 1 (drop (column r) line)
