-- `stream::with_byte` meets its contract. Assumes nothing.
use native.Mathlib.Omega.{arith}
use lib.ListN.{length-append, length-set}
use Rattle.stream.proofs.Streaming.{kept_more, kept_full}
use Rattle.stream.proofs.with_byte.Goals as goal

pub returns-then-len-program : goal.returns-then-len-program
returns-then-len-program c stream r =
    record {
      many = simp (length-append, length-set) (omega (arith, r.many));
      same = kept_more stream _ _ _ r.many c.if-len-program.true r.same;
      line = c.more_stars-stars.ensures stream r.line;
    }

pub returns : goal.returns
returns c stream r =
    record {
      many = simp length-append (omega (arith, r.many));
      same = kept_full stream _ _ _ r.many c.if-len-program.false r.same;
      line = c.more_stars-stars.ensures stream r.line;
    }
