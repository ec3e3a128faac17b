use Rattle.std.proofs.Common.{rules, tests, not, arith}
use Rattle.std.proofs.lemmas.Iterator.{YieldsList-from_slice}
use Rattle.std.proofs.lemmas.Iterator.Search.{position_from_yields_List}
use Rattle.text.specs.Meaning.{in_alphabet}
use Rattle.text.proofs.Runs.{run_found, run_whole}
use Rattle.text.proofs.run_end.Goals as goal

pub returns-in-Some-clause-ends : goal.returns-in-Some-clause-ends
returns-in-Some-clause-ends c =
    let answer = position_from_yields_List (λ x. not (in_alphabet c.args.a x)) _ _ c.position.result c.position.ensures.ran (YieldsList-from_slice _ c.iter.ensures.rest) (λ x b q k. search (rules, tests)) in
    omega (arith, run_found (in_alphabet c.args.a) c.args.text.now c.args.at _ answer c.in-Some.i c.in-Some.is)

pub returns-in-None-clause-ends : goal.returns-in-None-clause-ends
returns-in-None-clause-ends c =
    let answer = position_from_yields_List (λ x. not (in_alphabet c.args.a x)) _ _ c.position.result c.position.ensures.ran (YieldsList-from_slice _ c.iter.ensures.rest) (λ x b q k. search (rules, tests)) in
    run_whole (in_alphabet c.args.a) c.args.text.now c.args.at _ answer c.requires c.in-None.is
