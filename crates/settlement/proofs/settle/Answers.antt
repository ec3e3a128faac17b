-- `settlement::settle` meets its contract. By cases.
-- Assumes nothing.
use mathlib.Core.Path.{sym, ap}
use Rattle.evaluated.specs.declared.Answered.{Answered}
use Rattle.settlement.specs.Commands.{settlement}
use borrow.Author.Rules.{rules}
use Rattle.settlement.proofs.settle.Reads as reads
use Rattle.settlement.proofs.settle.Lts as lts
use Rattle.settlement.proofs.settle.Goals as goal

pub returns-then-fits : goal.returns-then-fits
returns-then-fits c = sym (λ i. settlement (c.in-Heavy.is i) (c.if-fits.true i))

pub returns-then-fits-2 : goal.returns-then-fits-2
returns-then-fits-2 c = sym (λ i. settlement (c.in-Value.is i) (c.if-fits-2.true i))

pub returns-in-Denied : goal.returns-in-Denied
returns-in-Denied c = sym (ap (λ (v : Answered). settlement v c.args.fits) c.in-Denied.is)

pub returns-in-Missing : goal.returns-in-Missing
returns-in-Missing c = sym (ap (λ (v : Answered). settlement v c.args.fits) c.in-Missing.is)

pub returns-else-fits : goal.returns-else-fits
returns-else-fits c = sym (λ i. settlement (c.in-Heavy.is i) (c.if-fits.false i))

pub returns-else-fits-2 : goal.returns-else-fits-2
returns-else-fits-2 c = sym (λ i. settlement (c.in-Value.is i) (c.if-fits-2.false i))
