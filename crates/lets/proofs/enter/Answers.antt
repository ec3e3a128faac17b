use Rattle.std.proofs.Common.{sym, arith}
use Rattle.text.specs.Meaning.{part}
use Rattle.lets.proofs.Stepping.{deep_enough, entered, restacked}
use Rattle.lets.proofs.enter.Goals as goal

pub push-requires-clause-depth_in_bounds : goal.push-requires-clause-depth_in_bounds
push-requires-clause-depth_in_bounds c =
    let P = c.requires in
    let Z = P.sized in
    let d = deep_enough P.reached P.no_term (part c.args.text.now c.in-Some.field-0) c.read_let.new.scanner.at (sym c.in-Some.ensures.meant) in
    (omega (arith, d, Z.deep.heads_size), omega (arith, d, Z.deep.lens_size), omega (arith, d, Z.deep.counts_size), omega (arith, d, Z.deep.bounds_size))

pub returns : goal.returns
returns c s x b base number R out =
    let P = c.requires in
    let p = c.in-Some.ensures.placed in
    let e = c.push.ensures in
    let E = entered R P.no_term (part c.args.text.now c.in-Some.field-0) c.read_let.new.scanner.at (sym c.in-Some.ensures.meant) p.2 P.sized.deep in
    (restacked _ _ _ _ _ _ _ _ e.0 e.1 e.2 e.3 E, p.1)
