-- Assertions on each of some variables, from one principal to another.
use Rattle.std.specs.Prelude.{◌≡◌, ℕ, ◌≤◌, List, map, T, length, take}
use Rattle.language.specs.Text.{all}
use Rattle.language.specs.Syntax.{Name, Right}
use Rattle.language.specs.Values.{Session, is_shared}
use Rattle.store.specs.Rows.{position}
use Rattle.named_rights.specs.Numbers.{code, variables}
use Rattle.session.specs.declared.Layout.{Layout}
use Rattle.session.specs.Sessions.{Slices, Running}
use Rattle.delegation_rules.specs.Numbered.{Numbered}

-- the first `count` of `targets` are the numbers of the shared variables xs, and q, right and p those of two principals and of a right
pub record Delegates (s : Session) (l : Layout) (b : Slices) (targets : List ℕ) (count q right p : ℕ) (xs : List Name) (from : Name) (r : Right) (to : Name) : Type 0 where
  pub running : Running s l b
  pub within : count ≤ length targets
  pub targets_are : take count targets ≡ map (position (variables s.store)) xs
  pub all_shared : T (all (is_shared s) xs)
  pub giver : Numbered s.store from q
  pub right_is : right ≡ code r
  pub taker : Numbered s.store to p

pub record SomeDelegates (l : Layout) (b : Slices) (targets : List ℕ) (count q right p : ℕ) : Type 0 where
  pub session : Session
  pub variables_named : List Name
  pub from : Name
  pub of_right : Right
  pub to : Name
  pub delegates : Delegates session l b targets count q right p variables_named from of_right to
