-- How a command ends that may be sent and can be done: by the weight of the session after it.
use mathlib.Core.Path.{◌≡◌}
use mathlib.Core.Bool.{false}
use Prim.Native.Nat.{◌<◌}
use native.Mathlib.Omega.{arith}
use borrow.Author.Tests.{lt-ltb, le-ltb}
use Rattle.language.specs.Syntax.{Command}
use Rattle.language.specs.Weight.{limit}
use Rattle.language.specs.Outcomes.{gives}
use Rattle.language.specs.Values.{Session}
use Rattle.language.specs.Commands.{Effect, effect, denied, session_weight, refused, FULL, step}
use Rattle.session.specs.declared.Layout.{Layout}
use Rattle.session.specs.Sessions.{Slices, Running}
use Rattle.session.specs.Endings.{Succeeds}
use Rattle.session.proofs.Steps.{is_full, is_done}

module _ (s : Session) (c : Command) (f : Effect) (d : denied s c ≡ false) (e : effect s c ≡ gives f) where
  pub ends_full : limit < session_weight f.after → step s c ≡ refused FULL
  ends_full h = is_full s c f d e (lt-ltb limit (session_weight f.after) h)

  pub ends_done : (k : Layout) (b : Slices) → Running f.after k b → Succeeds (step s c) k b
  ends_done k b R = record {
    effect = f;
    is_step = is_done s c f d e (le-ltb limit (session_weight f.after) (omega (arith, R.weighed, R.light)));
    running = R;
  }
