use Rattle.std.proofs.Common.{length, sym, ap, ◌∙◌, arith}
use Rattle.lines.specs.Cuts.{is_digit}
use Rattle.text.proofs.Runs.{run_on, run_stop, run_none}
use Rattle.lines.proofs.digits_end.Goals as goal

pub returns-then-not-is_ascii_digit : goal.returns-then-not-is_ascii_digit
returns-then-not-is_ascii_digit c =
    omega (arith, ap length (run_stop is_digit c.args.text.now c.loop-i.i (omega arith) (sym c.is_ascii_digit.ensures.value ∙ c.if-not-is_ascii_digit.true)))

pub loop-i-preserved : goal.loop-i-preserved
loop-i-preserved c =
    omega (arith, ap length (run_on is_digit c.args.text.now c.loop-i.i (omega arith) (sym c.is_ascii_digit.ensures.value ∙ c.if-not-is_ascii_digit.false)))

pub returns : goal.returns
returns c = omega (arith, ap length (run_none is_digit c.args.text.now c.loop-i.i (omega arith)))
