use Rattle.language.specs.Syntax.{Name}
use Rattle.language.specs.Values.{Session}
use Rattle.session.specs.Sessions.{slices, Running}
use Rattle.creation.specs.Creating.{Gives}
use Rattle.creation.proofs.Giving.{first_given}
use Rattle.creation.proofs.delegate_rights.Given as goal

abbrev pub invariant-loop-right : goal.invariant-loop-right
invariant-loop-right l = (s : Session) (from to : Name)
    → Gives s l.initial.k (slices l.principals l.principal_slots l.vars l.variable_slots l.locals l.local_slots l.initial.assertions) l.q l.p from to
    → Running (first_given s from to l.right) l.k (slices l.principals l.principal_slots l.vars l.variable_slots l.locals l.local_slots l.assertions)
