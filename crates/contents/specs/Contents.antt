-- What stands in a record: a principal's password and count, a variable's value.
use Rattle.std.specs.Prelude.{◌≡◌, ℕ, suc, ◌+◌, ◌-◌, ◌≤◌, ◌<◌, List, [], ◌++◌, map, length, get_or, drop}
use Rattle.std.specs.Prelude as Std
use Rattle.std.specs.Prelude.{Some, None}
use Rattle.std.proofs.Math.Option.{Option, none, some}
use Rattle.language.specs.Text.{Text}
use Rattle.language.specs.State.{Value, Principal, Variable}
use Rattle.language.specs.Encode.{tab, value_text}
use Rattle.text.specs.Parts.{part}
use Rattle.store.specs.Rows.{start_of, count_text, principal_row}
use Rattle.store.specs.Contents.{principal_at, variable_at}
use Rattle.text.specs.declared.Span.{Span}

-- the bytes of a value, none where there is none: a value's text is never empty
abbrev pub value_bytes : Option Value → Text
value_bytes none = []
value_bytes (some v) = value_text v

-- the bytes are the text of the value that there is
pub record IsText (t : Text) (o : Option Value) : Type 0 where
  pub value : Value
  pub is_value : o ≡ some value
  pub bytes : t ≡ value_text value

-- a password stands there
abbrev pub kept_at : ℕ → ℕ → Std.Option Span
kept_at s e = Some (record { start = s; end = e })

abbrev pub password_meant : Text → Std.Option Span → Option Text
password_meant t (Some p) = some (part t p.start p.end)
password_meant t None = none

abbrev pub PasswordIn : Text → Std.Option Span → Type 0
PasswordIn t (Some p) = (p.start ≤ p.end) × (p.end ≤ length t)
PasswordIn t None = Unit {0}

-- the answer r is the password of principal k
pub record PasswordAt (ks : List Principal) (t : Text) (k : ℕ) (r : Std.Option Span) : Type 0 where
  pub within : PasswordIn t r
  pub meant : password_meant t r ≡ (principal_at ks k).password

-- r follows the last tab of the bytes from `from` up to `to`
pub record LastTab (t : Text) (from to r : ℕ) : Type 0 where
  pub low : from < r
  pub high : r ≤ to
  pub after_tab : get_or t (r - 1) 0 ≡ tab
  pub no_later : (j : ℕ) → r ≤ j → j < to → get_or t j 0 ≡ tab → ⊥

-- the count of principal k starts at place s, and the next line where its own line ends
pub record CountAt (ks : List Principal) (t : Text) (k s : ℕ) : Type 0 where
  pub size : s + length (count_text (principal_at ks k).count) ≡ start_of (map principal_row ks) (suc k)
  pub is_count : drop s t ≡ count_text (principal_at ks k).count ++ drop (start_of (map principal_row ks) (suc k)) t

-- the bytes from s up to e are the value of variable k
pub record ValueAt (vs : List Variable) (t : Text) (k s e : ℕ) : Type 0 where
  pub order : s ≤ e
  pub within : e ≤ length t
  pub is_value : part t s e ≡ value_text (variable_at vs k).value
