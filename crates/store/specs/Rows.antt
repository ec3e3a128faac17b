-- What principals and variables have in common in a state text: a letter, a tab, the name, and then either the line's end or a tab and
-- more. The look-ups are stated of such rows, once for both.
use Rattle.std.specs.Prelude.{◌≡◌, ℕ, suc, ◌+◌, List, [], ◌∷◌, ◌++◌, map, ltb, length, take, get_or}
use Rattle.std.specs.Prelude.{Some, None}
use Rattle.std.specs.Prelude as Std
use Rattle.std.proofs.Math.Option.{Option, none, some}
use Rattle.language.specs.Text.{Text, joined, decimal, when◌then◌else◌, ◌≟◌}
use Rattle.language.specs.Syntax.{Name}
use Rattle.language.specs.State.{Principal, Variable}
use Rattle.language.specs.Encode.{tab, newline, value_text}
use Rattle.language.specs.Former.{Form, current, former}
use Rattle.store.specs.Held.{Held}
use Rattle.store.specs.declared.index.Found.{Found}
use Rattle.store.specs.declared.index.Place.{Place}

pub record Row : Type 0 where
  pub letter : ℕ
  pub name : Name
  -- what follows the name and a tab
  pub body : Option Text

abbrev pub body_text : Option Text → Text
body_text none = newline ∷ []
body_text (some t) = tab ∷ t

abbrev pub row_text : Row → Text
row_text r = r.letter ∷ tab ∷ (r.name ++ body_text r.body)

abbrev pub Rows : List Row → Text → ℕ → List ℕ → Type 0
Rows rows = Held (λ r. r.name) row_text rows

-- the text and the slots hold some rows
pub record SomeRows (t : Text) (count : ℕ) (slots : List ℕ) : Type 0 where
  pub rows : List Row
  pub held : Rows rows t count slots

-- ---- principals and variables as rows

abbrev pub password_letter : Option Text → ℕ
password_letter none = 78
password_letter (some t) = 80

-- a count ends its line
abbrev pub count_text : ℕ → Text
count_text n = decimal n ++ (newline ∷ [])

abbrev pub password_body : Option Text → ℕ → Text
password_body none n = count_text n
password_body (some t) n = t ++ (tab ∷ count_text n)

abbrev pub principal_row : Principal → Row
principal_row k = record { letter = password_letter k.password; name = k.name; body = some (password_body k.password k.count) }

abbrev pub former_body : Option Text → Option Text
former_body none = none
former_body (some t) = some (t ++ (newline ∷ []))

abbrev pub former_row : Principal → Row
former_row k = record { letter = password_letter k.password; name = k.name; body = former_body k.password }

abbrev pub row_in : Form → Principal → Row
row_in current = principal_row
row_in former = former_row

abbrev pub variable_row : Variable → Row
variable_row v = record { letter = 86; name = v.name; body = some (value_text v.value) }

-- ---- places

-- the place of a name in a list of names, or the length where it is not there
abbrev pub position : List Name → Name → ℕ
position [] x = 0
position (y ∷ rest) x = when y ≟ x then 0 else suc (position rest x)

abbrev pub row_names : List Row → List Name
row_names rows = map (λ r. r.name) rows

-- the row of a number
abbrev pub no_row : Row
no_row = record { letter = 0; name = []; body = none }

abbrev pub row_at : List Row → ℕ → Row
row_at rows k = get_or rows k no_row

-- where the row of a number starts in the text; the row before ends there
abbrev pub start_of : List Row → ℕ → ℕ
start_of rows k = length (joined row_text (take k rows))

abbrev pub found_at : ℕ → ℕ → ℕ → Std.Option Found
found_at k s e = Some (record { number = k; start = s; end = e })

-- where a name's row stands
abbrev pub place : List Row → Name → Std.Option Found
place rows x =
    let k = position (row_names rows) x in
    when ltb k (length rows) then found_at k (start_of rows k) (start_of rows (suc k)) else None

-- the place of a number's row: where it starts, where its name ends, where it ends
pub record Placed (rows : List Row) (k : ℕ) (p : Place) : Type 0 where
  pub starts : p.start ≡ start_of rows k
  pub name_ends : p.mid ≡ start_of rows k + 2 + length (row_at rows k).name
  pub ends : p.end ≡ start_of rows (suc k)
