-- How all the commands of a program in turn end (document 01, "A run").
use Rattle.std.specs.Prelude.{◌≡◌, ℕ, ◌≤◌, Bool, true, false, List, length, Some, None}
use Rattle.std.specs.Prelude as Code
use Rattle.std.proofs.Math.Option.{Option, none, some}
use Rattle.language.specs.Text.{Text}
use Rattle.language.specs.Syntax.{Name, Command}
use Rattle.language.specs.Values.{Session}
use Rattle.language.specs.Run.{End, refusal, completed, perform, line_count}
use Rattle.value_text.specs.Writing.{Written}
use Rattle.session.specs.declared.Layout.{Layout}
use Rattle.session.specs.Sessions.{Slices, Running}
use Rattle.refusal.specs.declared.Refusal.{Refusal}
use Rattle.refusal.specs.Refusals.{refusal_meant}
use Rattle.outcome.specs.declared.Performed.{Performed}
use Rattle.outcome.specs.declared.Performed.TheVariants.{Broken, Refused, Completed}

-- the lines that follow start within the text
abbrev pub RestWithin : Text → Code.Option ℕ → Type 0
RestWithin t (Some n) = n ≤ length t
RestWithin t None = Unit

-- the answer where a command is refused, by whether the rest of the text is that of a program
abbrev pub unless_broken : Bool → Refusal → Performed
unless_broken true how = Refused how
unless_broken false how = Broken

-- the end of a program's commands on the session s, where they are there
abbrev pub end_on : Session → Option (List Command) → Option End
end_on s none = none
end_on s (some cs) = some (perform s cs)

-- the program that p sent is completed: what it leaves is in the buffers, and its lines stand in the first n bytes of the output
pub record Completes (p : Name) (e : Option End) (l : Layout) (n count : ℕ) (b : Slices) (before after : Text) : Type 0 where
  pub session : Session
  pub sent : session.sender ≡ p
  pub lines : Text
  pub is_end : e ≡ some (completed lines session.store)
  pub running : Running session l b
  pub printed : Written before 0 lines n after
  pub counted : count ≡ line_count lines

abbrev pub Ends : Performed → Name → Option End → Slices → Text → Text → Type 0
Ends Broken p e b before after = e ≡ none
Ends (Refused f) p e b before after = e ≡ some (refusal (refusal_meant f))
Ends (Completed l n count) p e b before after = Completes p e l n count b before after
