-- A buffer that was checked has what a login and the beginning of a session ask.
-- Assumes nothing.
use Prim.Native.Nat.{ℕ}
use mathlib.Core.List.{List}
use Rattle.language.specs.Text.{Text}
use Rattle.validate.specs.Checked.{Understood}
use Rattle.validate.specs.declared.Parts.{Parts}
use Rattle.validate.proofs.States.{store_valid}
use Rattle.opening.specs.Beginnings.{SomeValid}

module _ (t : Text) (slots-p slots_v assertions : List ℕ) (p : Parts) (U : Understood t slots-p slots_v assertions p) where
  pub checked_some_valid : SomeValid t slots-p slots_v assertions p
  checked_some_valid = record { state = U.state; is_valid = store_valid U; represents = U.represents }
