-- `stream::kept` meets its contract. Assumes nothing.
use native.Mathlib.Omega.{arith}
use Rattle.stream.proofs.kept.Goals as goal

pub returns-then-len-program : goal.returns-then-len-program
returns-then-len-program c =
    record {
      upper_bound = omega arith;
      program_value = λ stream reads. reads.same;
    }

pub returns : goal.returns
returns c =
    record {
      upper_bound = omega arith;
      program_value = λ stream reads. absurd (omega (arith, reads.many));
    }
