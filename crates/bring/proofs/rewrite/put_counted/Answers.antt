use native.Mathlib.Omega.{arith}
use Rattle.value_text.proofs.Pieces.{written_length}
use Rattle.bring.proofs.Copying.{byte_left, one_more}
use Rattle.bring.proofs.rewrite.put_counted.Goals as goal

pub put_one-p-requires : goal.put_one-p-requires
put_one-p-requires c =
    let l = c.loop-b in
    omega (arith, l.invariant.ends, written_length l.invariant, byte_left c.args.text.now l.b-index c.loop-b-test.true, c.requires)

pub loop-b-preserved : goal.loop-b-preserved
loop-b-preserved c = one_more c.args.text.now c.loop-b.b-index c.loop-b-test.true c.loop-b.invariant c.put_one-p.ensures
