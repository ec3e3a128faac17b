-- `returning::value` meets its contract. The answer for the expression says how the ending goes.
-- Assumes nothing.
use mathlib.Core.Path.{sym, subst}
use native.Mathlib.Omega.{arith}
use Rattle.language.specs.Commands.{step}
use Rattle.language.specs.Syntax.{return}
use Rattle.session.specs.Sessions.{Slices, slices}
use Rattle.lookup.proofs.Looking.{scoped, sending, copyable}
use Rattle.returning.specs.Returns.{Given}
use Rattle.returning.proofs.Judging.{given_by}
use borrow.Author.Rules.{rules}
use Rattle.returning.proofs.value.Reads as reads
use Rattle.returning.proofs.value.Lts as lts
use Rattle.lookup.proofs.any_answer.Reads as any-answer-reads
use Rattle.returning.proofs.answered.Reads as answered-reads
use Rattle.returning.proofs.value.Goals as goal

pub any_answer-r-requires : goal.any_answer-r-requires
any_answer-r-requires c =
    let lent : Slices = let a = c.args in slices a.principals.now a.principal_slots.now a.vars.now a.variable_slots.now a.locals.now a.local_slots.now a.assertions.now in
    record {
      some_scoped = (record { session = c.requires.some_running.session; scoped = scoped c.requires.some_running.session _ lent c.requires.some_running.running }, record { session = c.requires.some_running.session; sending = sending c.requires.some_running.session _ lent c.requires.some_running.running });
      said = (record { expression = c.requires.some_expr.0; short = c.requires.some_expr.1 }, c.requires.lent);
      copyable = copyable c.requires.some_running.session _ lent c.requires.some_running.running;
    }

pub returns : goal.returns
returns c s x R m =
    let lent : Slices = let a = c.args in slices a.principals.now a.principal_slots.now a.vars.now a.variable_slots.now a.locals.now a.local_slots.now a.assertions.now in
    subst (λ r. Given r (step s (return x)) s c.any_answer-r.new.value) (sym c.answered.ensures)
    (given_by s x (omega (arith, R.weighed, R.light)) c.any_answer-r.result c.any_answer-r.new.value (c.any_answer-r.ensures s x (scoped s _ lent R) (sending s _ lent R) m))
