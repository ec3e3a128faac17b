-- `evaluate::operand::put_text` meets its contract. A light string fits.
-- Assumes nothing.
use Rattle.language.specs.State.{string, single}
use Rattle.evaluated.proofs.Weighing.{weighed_heavy}
use Rattle.evaluated.proofs.Putting.{string_put}
use Rattle.evaluate.proofs.operand.put_text.Goals as goal

pub returns-then-weight-gt8192 : goal.returns-then-weight-gt8192
returns-then-weight-gt8192 c = weighed_heavy (single (string c.args.text.now)) c.if-weight-gt8192.true

pub returns : goal.returns
returns c = string_put c.args.text.now _ _ _ c.requires.0 c.put_string-len.ensures c.if-weight-gt8192.false
