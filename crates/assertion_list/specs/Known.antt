-- The names that an assertion speaks of.
use Rattle.std.specs.Prelude.{Bool, ◌&&◌, List}
use Rattle.language.specs.Text.{member}
use Rattle.language.specs.Syntax.{Name}
use Rattle.language.specs.State.{Assertion}

-- every name in the assertion is one of these
abbrev pub known : List Name → List Name → Assertion → Bool
known ps xs a = member a.variable xs && member a.from ps && member a.to ps
