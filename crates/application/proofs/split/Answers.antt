-- `application::split` meets its contract. By the two lengths.
-- Assumes nothing.
use mathlib.Core.Path.{refl, sym}
use native.Mathlib.Omega.{arith}
use lib.ListN.{length}
use Rattle.language.specs.Functions.{cut}
use Rattle.language.proofs.Meaning.ValidValues.{cut_valid}
use Rattle.evaluated.proofs.Putting.{value_put}
use Rattle.application.proofs.Heavier.{second_heavy, cut_weighs, split_heavy, split_light}
use Rattle.application.proofs.split.Goals as goal

pub returns-then-at-gt8192 : goal.returns-then-at-gt8192
returns-then-at-gt8192 c = let a = c.args in second_heavy a.first.now a.second.now (cut a.first.now (length a.second.now)) (omega (arith, c.if-at-gt8192.true))

pub returns-then-m-gt8184 : goal.returns-then-m-gt8184
returns-then-m-gt8184 c = let a = c.args in split_heavy a.first.now a.second.now (omega (arith, c.if-m-gt8184.true))

pub returns : goal.returns
returns c =
    let a = c.args in
    let t = a.first.now in
    let u = a.second.now in
    value_put _ _ _ _ _ _ _ (split_light t u c.if-m-gt8184.false c.if-at-gt8192.false) (record { is_valid = cut_valid t (length u) c.requires.0; is_text_lem = refl }) c.put_cut-len.ensures (sym (cut_weighs t u)) (omega (arith, c.if-m-gt8184.false))
