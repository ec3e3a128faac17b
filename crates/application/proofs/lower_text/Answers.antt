-- `application::lower_text` meets its contract. By the length.
-- Assumes nothing.
use mathlib.Core.Path.{refl, sym}
use native.Mathlib.Omega.{arith}
use lib.ListN.{length-map}
use Rattle.language.specs.Functions.{lower_byte}
use Rattle.language.proofs.Meaning.ValidValues.{lower_valid}
use Rattle.evaluated.proofs.Putting.{value_put}
use Rattle.application.proofs.Heavier.{lower_heavy, lower_light}
use Rattle.application.proofs.lower_text.Goals as goal

pub returns-then-weight-gt8192 : goal.returns-then-weight-gt8192
returns-then-weight-gt8192 c = lower_heavy c.args.text.now (omega (arith, c.if-weight-gt8192.true))

pub returns : goal.returns
returns c =
    let t = c.args.text.now in
    value_put _ _ _ _ _ _ _ (lower_light t c.if-weight-gt8192.false) (record { is_valid = lower_valid t c.requires.0; is_text_lem = refl }) c.put_lower-len.ensures (sym (length-map t lower_byte)) c.if-weight-gt8192.false
