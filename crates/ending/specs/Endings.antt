-- How a program's commands end (document 01, "A run").
use Rattle.std.proofs.Math.Option.{Option, none, some}
use Rattle.language.specs.Text.{Text}
use Rattle.language.specs.Syntax.{Name}
use Rattle.language.specs.Commands.{FAILED}
use Rattle.language.specs.Run.{End, refusal}
use Rattle.session.specs.Sessions.{Slices}
use Rattle.outcome.specs.declared.Performed.{Performed}
use Rattle.outcome.specs.Ends.{Ends}

-- the end of a text: one that is no program is FAILED
abbrev pub end_or : Option End → End
end_or none = refusal FAILED
end_or (some e) = e

-- a program was performed, to some end, or its text turned out to be none
pub record SomeEnd (d : Performed) (b : Slices) (out : Text) : Type 0 where
  pub sender : Name
  pub end : Option End
  pub before : Text
  pub ends : Ends d sender end b before out
