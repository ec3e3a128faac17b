-- `application::concat` meets its contract. By the two lengths.
-- Assumes nothing.
use mathlib.Core.Path.{refl, sym}
use mathlib.Core.List.{◌++◌}
use native.Mathlib.Omega.{arith}
use lib.ListN.{length-append}
use Rattle.language.specs.Bytes.{string_byte}
use Rattle.language.specs.State.{single, string}
use Rattle.language.proofs.Logic.Tests.{all_append}
use Rattle.evaluated.proofs.Putting.{value_put}
use Rattle.application.proofs.Heavier.{second_heavy, concat_heavy, concat_light}
use Rattle.application.proofs.concat.Goals as goal

pub returns-then-n-gt8192 : goal.returns-then-n-gt8192
returns-then-n-gt8192 c = let a = c.args in second_heavy a.first.now a.second.now (single (string (a.first.now ++ a.second.now))) c.if-n-gt8192.true

pub returns-then-n-m : goal.returns-then-n-m
returns-then-n-m c = let a = c.args in concat_heavy a.first.now a.second.now (omega (arith, c.if-n-m.true, c.if-n-gt8192.false))

pub returns : goal.returns
returns c =
    let a = c.args in
    let t = a.first.now in
    let u = a.second.now in
    value_put _ _ _ _ _ _ _ (concat_light t u (omega (arith, c.if-n-m.false, c.if-n-gt8192.false))) (record { is_valid = all_append string_byte t u c.requires.0 c.requires.1; is_text_lem = refl }) c.put_joined-len.ensures (sym (length-append t u)) (omega (arith, c.if-n-m.false, c.if-n-gt8192.false))
