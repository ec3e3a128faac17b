-- `status::print` meets its contract. Each status is written as its word.
-- Assumes nothing.
use mathlib.Core.Path.{sym, ap}
use borrow.Author.Rules.{rules}
use Rattle.render.specs.Lines.{status_line}
use Rattle.value_text.proofs.Pieces.{rewritten}
use Rattle.status.specs.declared.Status.{Status}
use Rattle.status.specs.Acts.{word_of}
use Rattle.status.proofs.print.Goals as goal

pub returns-in-CreatePrincipal : goal.returns-in-CreatePrincipal
returns-in-CreatePrincipal c = rewritten (ap (λ (w : Status). status_line (word_of w)) (sym c.in-CreatePrincipal.is)) c.status.ensures

pub returns-in-ChangePassword : goal.returns-in-ChangePassword
returns-in-ChangePassword c = rewritten (ap (λ (w : Status). status_line (word_of w)) (sym c.in-ChangePassword.is)) c.status-in-ChangePassword.ensures

pub returns-in-Set : goal.returns-in-Set
returns-in-Set c = rewritten (ap (λ (w : Status). status_line (word_of w)) (sym c.in-Set.is)) c.status-in-Set.ensures

pub returns-in-Append : goal.returns-in-Append
returns-in-Append c = rewritten (ap (λ (w : Status). status_line (word_of w)) (sym c.in-Append.is)) c.status-in-Append.ensures

pub returns-in-Local : goal.returns-in-Local
returns-in-Local c = rewritten (ap (λ (w : Status). status_line (word_of w)) (sym c.in-Local.is)) c.status-in-Local.ensures

pub returns-in-Foreach : goal.returns-in-Foreach
returns-in-Foreach c = rewritten (ap (λ (w : Status). status_line (word_of w)) (sym c.in-Foreach.is)) c.status-in-Foreach.ensures

pub returns-in-Filtereach : goal.returns-in-Filtereach
returns-in-Filtereach c = rewritten (ap (λ (w : Status). status_line (word_of w)) (sym c.in-Filtereach.is)) c.status-in-Filtereach.ensures

pub returns-in-SetDelegation : goal.returns-in-SetDelegation
returns-in-SetDelegation c = rewritten (ap (λ (w : Status). status_line (word_of w)) (sym c.in-SetDelegation.is)) c.status-in-SetDelegation.ensures

pub returns-in-DeleteDelegation : goal.returns-in-DeleteDelegation
returns-in-DeleteDelegation c = rewritten (ap (λ (w : Status). status_line (word_of w)) (sym c.in-DeleteDelegation.is)) c.status-in-DeleteDelegation.ensures

pub returns-in-DefaultDelegator : goal.returns-in-DefaultDelegator
returns-in-DefaultDelegator c = rewritten (ap (λ (w : Status). status_line (word_of w)) (sym c.in-DefaultDelegator.is)) c.status-in-DefaultDelegator.ensures

pub returns-in-Exiting : goal.returns-in-Exiting
returns-in-Exiting c = rewritten (ap (λ (w : Status). status_line (word_of w)) (sym c.in-Exiting.is)) c.status-in-Exiting.ensures
