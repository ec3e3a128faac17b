-- `evaluate::operand::put_value` meets its contract. Nothing read is no value; a light one fits, since its text has at most three bytes for each of its weight.
-- Assumes nothing.
use mathlib.Core.Path.{ap}
use native.Mathlib.Omega.{arith}
use Rattle.evaluated.specs.Weighed.{by_weight}
use Rattle.evaluated.proofs.Weighing.{light_value, heavy_value}
use Rattle.evaluate.proofs.Found.{nothing_read, something_read, value_text_lem}
use Rattle.scopes.proofs.Bounds.{text_bound}
use Rattle.evaluated.proofs.Putting.{value_put}
use Rattle.evaluate.proofs.operand.put_value.Goals as goal

pub returns-then-value-eq0 : goal.returns-then-value-eq0
returns-then-value-eq0 c o r = ap by_weight (nothing_read o c.args.value.now r c.if-value-eq0.true)

pub weigh-weight-requires : goal.weigh-weight-requires
weigh-weight-requires c = value_text_lem c.requires.0.value c.args.value.now c.requires.0.held c.if-value-eq0.false

pub returns-then-weight-gt8192 : goal.returns-then-weight-gt8192
returns-then-weight-gt8192 c o r =
    let S = something_read o c.args.value.now r c.if-value-eq0.false in
    heavy_value o S.value S.is_value (omega (arith, c.if-weight-gt8192.true, c.weigh-weight.ensures S.value S.held))

pub copy_in-len-requires : goal.copy_in-len-requires
copy_in-len-requires c =
    let S = something_read c.requires.0.value c.args.value.now c.requires.0.held c.if-value-eq0.false in
    omega (arith, c.requires.1, c.if-weight-gt8192.false, text_bound S.value c.args.value.now S.held, c.weigh-weight.ensures S.value S.held)

pub returns : goal.returns
returns c o r =
    let S = something_read o c.args.value.now r c.if-value-eq0.false in
    let weighs = c.weigh-weight.ensures S.value S.held in
    value_put (by_weight o) S.value _ _ c.args.value.now _ _ (light_value o S.value S.is_value (omega (arith, c.if-weight-gt8192.false, weighs))) S.held
    c.copy_in-len.ensures weighs c.if-weight-gt8192.false
