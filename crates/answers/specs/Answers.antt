-- The number and the values of document 01 that each case of an answer says.
use Rattle.std.specs.Prelude.{ℕ}
use Rattle.std.proofs.Math.Option.{Option, none, some}
use Rattle.language.specs.Syntax.{Right}
use Rattle.language.specs.Run as Run
use Rattle.language.specs.Calls as Calls
use Rattle.named_rights.specs.Numbers.{code}
use Rattle.refusal.specs.Refusals.{refusal_meant}
use Rattle.answers.specs.declared.Kind.{Kind}
use Rattle.answers.specs.declared.Kind.TheVariants.{Returned, Exited, Refused}
use Rattle.answers.specs.declared.Finish.{Finish}
use Rattle.answers.specs.declared.Answer.{Answer}
use Rattle.answers.specs.declared.Answer.TheVariants.{Wrong, Ended, Yes, No, Ready, Listed}

abbrev pub kind_meant : Kind → Run.Kind
kind_meant Returned = Run.returned
kind_meant Exited = Run.exited
kind_meant (Refused f) = Run.stopped (refusal_meant f)

abbrev pub finish_meant : Finish → Run.Result
finish_meant f = record { kind = kind_meant f.kind; lines = f.lines; size = f.bytes }

abbrev pub answer_meant : Answer → Calls.Answer
answer_meant (Wrong n) = Calls.wrong n
answer_meant (Ended f) = Calls.ended (finish_meant f)
answer_meant (Yes n) = Calls.yes n
answer_meant No = Calls.no
answer_meant Ready = Calls.ready
answer_meant (Listed n k) = Calls.listed n k

-- an answer, and what is lent after it
abbrev pub replied : {Lent : Type 0} → Answer → Lent → Calls.Reply Lent
replied a lent = record { answer = answer_meant a; lent = lent }

-- the number of the right that a byte names, 4 where it names none
abbrev pub right_code : Option Right → ℕ
right_code none = 4
right_code (some r) = code r
