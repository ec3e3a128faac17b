-- The marks that a sheet is written from: for each right a list, with a mark for each principal in order of creation.
use Rattle.std.specs.Prelude.{◌≡◌, List, map, ℕ, ◌*◌, ◌≤◌, ◌<◌, get_or}
use Rattle.language.specs.Text.{Text, present}
use Rattle.language.specs.Syntax.{Name, read, write, append, delegate}
use Rattle.language.specs.State.{Store}
use Rattle.language.specs.Chains.{chain_length}
use Rattle.store.specs.Rows.{SomeRows}
use Rattle.named_rights.specs.Numbers.{principals_of, length_marked}
use Rattle.sheet_lines.specs.declared.Had.{Had}

-- the marks say how long the shortest chains for each right on x are, for all principals in order of creation
pub record Marked (s : Store) (x : Name) (reads writes appends delegates : List ℕ) : Type 0 where
  pub reads_are : map length_marked reads ≡ map (chain_length s read x) (principals_of s)
  pub writes_are : map length_marked writes ≡ map (chain_length s write x) (principals_of s)
  pub appends_are : map length_marked appends ≡ map (chain_length s append x) (principals_of s)
  pub delegates_are : map length_marked delegates ≡ map (chain_length s delegate x) (principals_of s)

-- the rights of the principal of number i, by its marks
pub record HadAt (reads writes appends delegates : List ℕ) (i : ℕ) (h : Had) : Type 0 where
  pub read_is : h.read ≡ present (length_marked (get_or reads i 0))
  pub write_is : h.write ≡ present (length_marked (get_or writes i 0))
  pub append_is : h.append ≡ present (length_marked (get_or appends i 0))
  pub delegate_is : h.delegate ≡ present (length_marked (get_or delegates i 0))

-- number i has marks in lists of these lengths
pub record Within (i reads writes appends delegates : ℕ) : Type 0 where
  pub in_reads : i < reads
  pub in_writes : i < writes
  pub in_appends : i < appends
  pub in_delegates : i < delegates

-- the text and the slots hold `count` records, lists of marks of these lengths have a mark for each, and there is room for all lines
pub record Printable (text : Text) (slots : List ℕ) (count reads writes appends delegates room : ℕ) : Type 0 where
  pub some_rows : SomeRows text count slots
  pub reads_long : count ≤ reads
  pub writes_long : count ≤ writes
  pub appends_long : count ≤ appends
  pub delegates_long : count ≤ delegates
  pub fits : 40 * count ≤ room
