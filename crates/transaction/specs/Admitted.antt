-- What is known of a text whose login is right (document 01, "A run").
use Rattle.std.specs.Prelude.{ℕ, List}
use Rattle.language.specs.Text.{Text}
use Rattle.validate.specs.Checked.{Understood}
use Rattle.validate.specs.declared.Parts.{Parts}
use Rattle.admission.specs.Admissions.{Sent}

-- its login on a checked state is right: the sender's number, and where the commands start
pub record Admitted (t : Text) (slots-p slots_v assertions : List ℕ) (p : Parts) (text : Text) (sender at : ℕ) : Type 0 where
  pub understood : Understood t slots-p slots_v assertions p
  pub sent_by : Sent understood.state text sender at
