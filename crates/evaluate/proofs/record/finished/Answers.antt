-- `evaluate::record::finished` meets its contract. By the weight.
-- Assumes nothing.
use Rattle.evaluate.proofs.Fieldwise.{record_light, record_heavy}
use Rattle.evaluate.proofs.record.finished.Goals as goal

pub returns-then-weight-gt8192 : goal.returns-then-weight-gt8192
returns-then-weight-gt8192 c fs out slots D n = record_heavy fs out slots c.args.d D n c.if-weight-gt8192.true

pub returns : goal.returns
returns c fs out slots D n = record_light fs out slots c.args.d D n c.if-weight-gt8192.false
