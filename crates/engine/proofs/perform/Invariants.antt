use Prim.Native.Nat.{◌-◌, ◌≤◌}
use lib.ListN.{length}
use Rattle.language.specs.Values.{Session}
use Rattle.session.specs.Sessions.{Running, slices}
use Rattle.engine.proofs.Stages.{Stage}
use Rattle.engine.proofs.perform.Given as goal

-- whatever session the buffers held, the program has come to p
abbrev pub invariant-loop-read : goal.invariant-loop-read
invariant-loop-read l = record {
  within : l.p ≤ length l.text;
  stage : (s : Session) → Running s l.initial.l (slices l.initial.principals l.initial.principal_slots l.initial.vars l.initial.variable_slots l.initial.locals l.initial.local_slots l.initial.assertions)
      → Stage s l.text l.at l.initial.output l.l (slices l.principals l.principal_slots l.vars l.variable_slots l.locals l.local_slots l.assertions) l.p l.n l.lines l.output;
}

abbrev pub decreases-loop-read : goal.decreases-loop-read
decreases-loop-read l = length l.text - l.p
