-- The end of a program whose login is right, by its commands: a completed one counts for its sender.
-- Assumes nothing.
use mathlib.Core.Path.{◌≡◌, refl}
use mathlib.Core.Option.{Option, none, some}
use mathlib.Core.List.{List}
use Rattle.language.specs.Syntax.{Command}
use Rattle.language.specs.State.{Store, named}
use Rattle.language.specs.Grammar.{Opening}
use Rattle.language.specs.Run.{right, login_as, tallied, run}
use Rattle.parser.specs.Bodies.{with_body}
use Rattle.outcome.specs.Ends.{end_on}
use Rattle.ending.specs.Endings.{end_or}
use Rattle.admission.proofs.Programs.{opened, by_login}

pub commands_performed : (s : Store) (p : Opening) (o : Option (List Command)) → login_as p.password (named s.principals p.sender) ≡ right
    → run s (with_body p o) ≡ tallied p.sender (end_or (end_on (opened s p) o))
commands_performed s p none h = refl
commands_performed s p (some cs) h = by_login s p cs right h
