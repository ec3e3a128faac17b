-- What the printing of a sheet asks: few principals, few assertions and room; and what its tables say.
use Rattle.std.specs.Prelude.{◌≡◌, List, ℕ, ◌≤◌, ◌<◌, T, length}
use Rattle.language.specs.Text.{Text, member}
use Rattle.language.specs.Syntax.{Name}
use Rattle.language.specs.State.{Store}
use Rattle.language.specs.Valid.{valid_store}
use Rattle.language.specs.Encode.{buffer_size, padded}
use Rattle.store.specs.Held.{Principals}
use Rattle.store.specs.Rows.{position}
use Rattle.named_rights.specs.Numbers.{variables, Standing}

-- count principals, of whom admin and anyone are two; the first n assertions stand
pub record Few (count n number : ℕ) (assertions : List ℕ) : Type 0 where
  pub two : 1 < count
  pub few : count ≤ 1024
  pub within : n ≤ length assertions
  pub few_asserted : n ≤ 2048
  pub number_fits : number < 65536

-- the tables are those of a valid store, and the number is that of its variable x
pub record SheetTables (s : Store) (x : Name) (text : Text) (slots : List ℕ) (count n number : ℕ) (assertions : List ℕ) : Type 0 where
  pub is_valid : T (valid_store s)
  pub principals : Principals s.principals text count slots
  pub standing : Standing s n assertions
  pub variable_known : T (member x (variables s))
  pub variable_is : number ≡ position (variables s) x

-- there is such a store, and room for its sheet
pub record SomeSheet (text : Text) (slots : List ℕ) (count n number : ℕ) (assertions : List ℕ) (room : ℕ) : Type 0 where
  pub state : Store
  pub name : Name
  pub tables : SheetTables state name text slots count n number assertions
  pub numbers : Few count n number assertions
  pub size : room ≡ buffer_size

-- the whole sheet, then zeros; and how many bytes it has
pub record Printed (sheet : Text) (r : ℕ) (after : Text) : Type 0 where
  pub bytes : r ≡ length sheet
  pub page : after ≡ padded sheet
