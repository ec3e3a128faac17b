-- Changes of records kept as text: what each asks, and what it leaves alone.
use Rattle.std.specs.Prelude.{◌≡◌, ℕ, suc, ◌+◌, ◌≤◌, ◌<◌, List, ◌++◌, map, T, length, set, drop}
use Rattle.std.proofs.Math.Option.{none, some}
use Rattle.language.specs.Text.{Text, joined, distinct}
use Rattle.language.specs.Syntax.{Name}
use Rattle.language.specs.State.{Element, Value, list, Principal, Variable, value_in, put}
use Rattle.language.specs.Encode.{element_text, principals_text, variables_text, value_text}
use Rattle.language.specs.Commands.{changed}
use Rattle.store.specs.Held.{Principals, Variables}
use Rattle.store.specs.Contents.{principal_at}
use Rattle.store.specs.Rows.{Row, Rows, row_text, row_at, start_of, position}

abbrev pub principal_names : List Principal → List Name
principal_names ks = map (λ k. k.name) ks

abbrev pub variable_names : List Variable → List Name
variable_names vs = map (λ v. v.name) vs

-- of the buffer nothing from place r on is changed, and of the slots nothing from `count` on
pub record Outside (old new : Text) (r : ℕ) (slots slots' : List ℕ) (count : ℕ) : Type 0 where
  pub within : r ≤ length old
  pub bytes_kept : drop r new ≡ drop r old
  pub slots_kept : drop count slots' ≡ drop count slots

-- ---- within one row

-- the places `from` up to `to` lie in the row of number k
pub record SomeSpot (t : Text) (count : ℕ) (slots : List ℕ) (k from to : ℕ) : Type 0 where
  pub rows : List Row
  pub held : Rows rows t count slots
  pub below : k < count
  pub low : start_of rows k ≤ from
  pub order : from ≤ to
  pub high : to ≤ start_of rows (suc k)

-- the row of number k, with src in place of what stands from `from` up to `to`, is the text of `row`
pub record Respelled (rows : List Row) (k from to : ℕ) (src : Text) (row : Row) : Type 0 where
  pub before : Text
  pub old : Text
  pub after : Text
  pub was : row_text (row_at rows k) ≡ before ++ (old ++ after)
  pub becomes : row_text row ≡ before ++ (src ++ after)
  pub from_is : from ≡ start_of rows k + length before
  pub to_is : to ≡ from + length old
  pub same_name : row.name ≡ (row_at rows k).name

-- ---- what the changes ask

-- variable x has number k, src is the text of a value, and there is room for it
pub record SomeValue (t : Text) (count : ℕ) (slots : List ℕ) (k : ℕ) (src : Text) (room : ℕ) : Type 0 where
  pub variables : List Variable
  pub name : Name
  pub value : Value
  pub held : Variables variables t count slots
  pub below : k < count
  pub number : k ≡ position (variable_names variables) name
  pub is_text_lem : src ≡ value_text value
  pub fits : length (variables_text (put name value variables)) ≤ room

-- variable x has number k and is a list, src is the text of more elements, and there is room for them
pub record SomeElements (t : Text) (count : ℕ) (slots : List ℕ) (k : ℕ) (src : Text) (room : ℕ) : Type 0 where
  pub variables : List Variable
  pub name : Name
  pub elements : List Element
  pub more : List Element
  pub held : Variables variables t count slots
  pub below : k < count
  pub number : k ≡ position (variable_names variables) name
  pub is_list : value_in variables name ≡ some (list elements)
  pub is_text_lem : src ≡ joined element_text more
  pub fits : length (variables_text (put name (list (elements ++ more)) variables)) ≤ room

-- a principal with another password
abbrev pub passworded : Text → Principal → Principal
passworded w k = record { name = k.name; password = some w; count = k.count }

-- principal k with another password
abbrev pub with_password : List Principal → ℕ → Text → List Principal
with_password ks k w = set ks k (passworded w (principal_at ks k))

-- principal k has no password
pub record SomeBare (t : Text) (count : ℕ) (slots : List ℕ) (k : ℕ) : Type 0 where
  pub principals : List Principal
  pub held : Principals principals t count slots
  pub below : k < count
  pub bare : (principal_at principals k).password ≡ none

-- principal k has a password, and there is room for src in its place
pub record SomeKept (t : Text) (count : ℕ) (slots : List ℕ) (k : ℕ) (src : Text) (room : ℕ) : Type 0 where
  pub principals : List Principal
  pub old : Text
  pub held : Principals principals t count slots
  pub below : k < count
  pub kept : (principal_at principals k).password ≡ some old
  pub fits : length (principals_text (with_password principals k src)) ≤ room

-- principal p has number k, and there is room for src as its password
pub record SomePassword (t : Text) (count : ℕ) (slots : List ℕ) (k : ℕ) (src : Text) (room : ℕ) : Type 0 where
  pub principals : List Principal
  pub name : Name
  pub held : Principals principals t count slots
  pub below : k < count
  pub apart : T (distinct (principal_names principals))
  pub number : k ≡ position (principal_names principals) name
  pub fits : length (principals_text (map (changed name src) principals)) ≤ room
