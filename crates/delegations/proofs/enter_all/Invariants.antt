use mathlib.Core.List.{List}
use lib.ListN.{take}
use Rattle.language.specs.Syntax.{Name, Right}
use Rattle.language.specs.Values.{Session}
use Rattle.language.specs.Commands.{assertions_on}
use Rattle.session.specs.Sessions.{slices, Running}
use Rattle.assertion_changes.specs.Entering.{entered}
use Rattle.delegations.specs.Delegates.{Delegates}
use Rattle.delegations.proofs.enter_all.Given as goal

abbrev pub invariant-loop-target : goal.invariant-loop-target
invariant-loop-target l = (s : Session) (xs : List Name) (from : Name) (of : Right) (to : Name)
    → Delegates s l.initial.k (slices l.principals l.principal_slots l.vars l.variable_slots l.locals l.local_slots l.initial.assertions) l.targets l.count l.q l.right l.p xs from of to
    → Running (entered s (assertions_on (take l.target-index xs) from of to)) l.k (slices l.principals l.principal_slots l.vars l.variable_slots l.locals l.local_slots l.assertions)
