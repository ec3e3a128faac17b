-- The names that a delegation speaks of, and their numbers.
use Rattle.std.specs.Prelude.{◌≡◌, ℕ, List, T, length}
use Rattle.language.specs.Text.{member}
use Rattle.language.specs.Syntax.{Name}
use Rattle.language.specs.State.{Store}
use Rattle.language.specs.Valid.{valid_store}
use Rattle.store.specs.Rows.{position}
use Rattle.named_rights.specs.Numbers as Numbers
use Rattle.named_rights.specs.Numbers.{variables, Standing}

-- p is a principal of the store s, and k is its number
pub record Numbered (s : Store) (p : Name) (k : ℕ) : Type 0 where
  pub known : T (member p (Numbers.principals_of s))
  pub number : k ≡ position (Numbers.principals_of s) p

-- the first `asserted` of `assertions` are the assertions of the store s, which is valid; so many principals and variables it has
pub record Counted (s : Store) (assertions : List ℕ) (asserted principals vars : ℕ) : Type 0 where
  pub is_valid : T (valid_store s)
  pub assertions_held : Standing s asserted assertions
  pub everyone : principals ≡ length (Numbers.principals_of s)
  pub every_variable : vars ≡ length (variables s)
