-- `ask::question::right_code` meets its contract. A letter's right, and no right for any other byte.
-- Assumes nothing.
use Rattle.ask.proofs.question.right_code.Goals as goal

pub returns-in-114 : goal.returns-in-114
returns-in-114 c = rw c.in-114.is

pub returns-in-119 : goal.returns-in-119
returns-in-119 c = rw c.in-119.is

pub returns-in-97 : goal.returns-in-97
returns-in-97 c = rw c.in-97.is

pub returns-in-100 : goal.returns-in-100
returns-in-100 c = rw c.in-100.is
