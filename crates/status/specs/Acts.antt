-- What a command did: refused, or the step made with the status that it prints, or a value returned.
use Rattle.std.specs.Prelude.{◌≡◌, ℕ}
use Rattle.language.specs.Text.{Text, bytes}
use Rattle.language.specs.Values.{Session}
use Rattle.language.specs.Commands.{Effect, Step, refused, went}
use Rattle.session.specs.declared.Layout.{Layout}
use Rattle.session.specs.Sessions.{Slices, Running}
use Rattle.session.specs.Endings.{Succeeds}
use Rattle.render.specs.Lines.{status_line}
use Rattle.refusal.specs.Refusals.{refusal_meant}
use Rattle.returning.specs.Returns.{Returns}
use Rattle.status.specs.declared.Status.{Status}
use Rattle.status.specs.declared.Status.TheVariants as Word
use Rattle.status.specs.declared.Acted.{Acted}
use Rattle.status.specs.declared.Acted.TheVariants as Act

abbrev pub word_of : Status → Text
word_of Word.CreatePrincipal = bytes "CREATE_PRINCIPAL"
word_of Word.ChangePassword = bytes "CHANGE_PASSWORD"
word_of Word.Set = bytes "SET"
word_of Word.Append = bytes "APPEND"
word_of Word.Local = bytes "LOCAL"
word_of Word.Foreach = bytes "FOREACH"
word_of Word.Filtereach = bytes "FILTEREACH"
word_of Word.SetDelegation = bytes "SET_DELEGATION"
word_of Word.DeleteDelegation = bytes "DELETE_DELEGATION"
word_of Word.DefaultDelegator = bytes "DEFAULT_DELEGATOR"
word_of Word.Exiting = bytes "EXITING"

-- where the step is made, its line is the status of that word
abbrev pub Says : Step → Text → Type 0
Says k word = (f : Effect) → k ≡ went f → f.line ≡ status_line word

-- the step was made, and prints a status
pub record Speaks (k : Step) (l : Layout) (b : Slices) (word : Text) : Type 0 where
  pub succeeds : Succeeds k l b
  pub line : succeeds.effect.line ≡ status_line word

-- the step returns the value in the first n bytes, and the session stays as it is
pub record Hands (k : Step) (s : Session) (l : Layout) (b : Slices) (value : Text) (n : ℕ) : Type 0 where
  pub running : Running s l b
  pub returned : Returns k s value n

abbrev pub Acts : Acted → Step → Session → Layout → Slices → Text → Type 0
Acts (Act.Refused f) k s l b value = k ≡ refused (refusal_meant f)
Acts (Act.Done after word) k s l b value = Speaks k after b (word_of word)
Acts (Act.Value n) k s l b value = Hands k s l b value n

pub record SomeActed (a : Acted) (l : Layout) (value : Text) : Type 0 where
  pub step : Step
  pub session : Session
  pub buffers : Slices
  pub acts : Acts a step session l buffers value
