-- What the commands ask.
use Rattle.std.specs.Prelude.{◌≡◌, Bool, true, false, ℕ, List, T, length}
use Rattle.language.specs.Text.{Text}
use Rattle.language.specs.Identifiers.{is_identifier}
use Rattle.text.specs.declared.Span.{Span}
use Rattle.text.specs.Meaning.{part, Within}
use Rattle.syntax.specs.declared.Expr as Read
use Rattle.session.specs.declared.Verdict.{Verdict}
use Rattle.session.specs.declared.Verdict.TheVariants as Ends
use Rattle.lookup.specs.Looks.{Said}
use Rattle.evaluated.specs.declared.Answered.{Answered}
use Rattle.evaluated.specs.declared.Answered.TheVariants as Told
use Rattle.assignment.specs.declared.Assigned.{Assigned}
use Rattle.assignment.specs.declared.Assigned.TheVariants.{Full, Done}
use Rattle.settlement.specs.declared.Settled.{Settled}
use Rattle.settlement.specs.declared.Settled.TheVariants.{Over, Value}

-- the program's text names a variable, and says an expression
pub record Names (t : Text) (x : Span) (e : Read.Expr) : Type 0 where
  pub within : Within t x
  pub name_holds : T (is_identifier (part t x))
  pub said : Said t e

-- room to work in
pub record Scratch (value : Text) (labels : List ℕ) : Type 0 where
  pub value_size : length value ≡ 45056
  pub labels_size : length labels ≡ 4096

-- how a command ends that does the assignment
abbrev pub verdict_of : Assigned → Verdict
verdict_of Full = Ends.Full
verdict_of (Done l) = Ends.Done l

-- what an answer leaves of a command, which can be done with any value or with none
abbrev pub settlement : Answered → Bool → Settled
settlement Told.Denied fits = Over Ends.Denied
settlement Told.Missing fits = Over Ends.Failed
settlement Told.Heavy true = Over Ends.Full
settlement Told.Heavy false = Over Ends.Failed
settlement (Told.Value n w) true = Value n w
settlement (Told.Value n w) false = Over Ends.Failed
