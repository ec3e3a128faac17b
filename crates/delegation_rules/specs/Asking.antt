-- What a delegation names, by numbers. A name that is missing has the number after the last.
use Rattle.std.specs.Prelude.{◌≡◌, ℕ, ◌≤◌, List}
use Rattle.language.specs.Syntax.{Name, Target, every, only}
use Rattle.language.specs.Values.{Session}
use Rattle.store.specs.Rows.{position}
use Rattle.named_rights.specs.Numbers.{principals_of, variables}
use Rattle.session.specs.declared.Layout.{Layout}
use Rattle.session.specs.Sessions.{Slices, Running}
use Rattle.delegation_rules.specs.declared.Aim.{Aim}
use Rattle.delegation_rules.specs.declared.Aim.TheVariants.{All, One}
use Rattle.delegation_rules.specs.declared.Ask.{Ask}

abbrev pub aim_of : List Name → Target → Aim
aim_of xs every = All
aim_of xs (only x) = One (position xs x)

-- no session has more than 4,096 variables
abbrev pub Few : Aim → Type 0
Few All = Unit
Few (One n) = n ≤ 4096

-- the numbers k are those of the target t and of the principals' names
pub record Names (s : Session) (t : Target) (from to : Name) (k : Ask) : Type 0 where
  pub aim_is : k.aim ≡ aim_of (variables s.store) t
  pub giver_is : k.giver ≡ position (principals_of s.store) from
  pub taker_is : k.taker ≡ position (principals_of s.store) to

-- the session s, of whose buffers only the assertions are at hand
pub record Runs (s : Session) (l : Layout) (b : Slices) (assertions : List ℕ) : Type 0 where
  pub running : Running s l b
  pub stood : b.assertions ≡ assertions

pub record SomeRuns (l : Layout) (assertions : List ℕ) : Type 0 where
  pub session : Session
  pub buffers : Slices
  pub runs : Runs session l buffers assertions
