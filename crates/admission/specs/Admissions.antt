-- What is known of a text once its login was read (document 01, "A run").
use Rattle.std.specs.Prelude.{◌≡◌, ℕ, ◌≤◌, length, Result, Ok, Err}
use Rattle.language.specs.Text.{Text}
use Rattle.language.specs.State.{Store, named}
use Rattle.language.specs.Grammar.{Opening}
use Rattle.language.specs.Programs.{longest, parse}
use Rattle.language.specs.Run.{refusal, right, login_as, run}
use Rattle.store.specs.Rows.{position}
use Rattle.named_rights.specs.Numbers.{principals_of}
use Rattle.parser.specs.Bodies.{body_from, with_body}
use Rattle.refusal.specs.Refusals.{refusal_meant}
use Rattle.refusal.specs.declared.Refusal.{Refusal}
use Rattle.admission.specs.declared.Sender.{Sender}

-- its login is right: the sender's number, and where the commands start
pub record Sent (s : Store) (text : Text) (sender at : ℕ) : Type 0 where
  pub opening : Opening
  pub parsed : parse text ≡ with_body opening (body_from text at)
  pub placed : at ≤ length text
  pub not_longer : length text ≤ longest
  pub logged_in : login_as opening.password (named s.principals opening.sender) ≡ right
  pub numbered : sender ≡ position (principals_of s) opening.sender

-- it is refused, whatever its commands would do; or its login is right
abbrev pub Admits : Result Sender Refusal → Store → Text → Type 0
Admits (Err f) s text = run s (parse text) ≡ refusal (refusal_meant f)
Admits (Ok x) s text = Sent s text x.number x.at
