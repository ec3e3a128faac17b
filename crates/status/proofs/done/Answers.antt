-- `status::done` meets its contract. A refusal is passed on.
-- Assumes nothing.
use borrow.Author.Rules.{rules}
use Rattle.session.specs.declared.Verdict.{Verdict}
use Rattle.session.specs.Endings.{Ended}
use Rattle.tokens.proofs.Reading.{known}
use Rattle.status.proofs.done.Goals as goal

pub returns-in-Denied : goal.returns-in-Denied
returns-in-Denied c k b s l value E says = known (λ (v : Verdict). Ended v k b) E c.in-Denied.is

pub returns-in-Failed : goal.returns-in-Failed
returns-in-Failed c k b s l value E says = known (λ (v : Verdict). Ended v k b) E c.in-Failed.is

pub returns-in-Full : goal.returns-in-Full
returns-in-Full c k b s l value E says = known (λ (v : Verdict). Ended v k b) E c.in-Full.is

pub returns-in-Done : goal.returns-in-Done
returns-in-Done c k b s l value E says =
    let S = known (λ (v : Verdict). Ended v k b) E c.in-Done.is in
    record { succeeds = S; line = says S.effect S.is_step }
