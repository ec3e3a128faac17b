-- `administration::act` meets its contract. One arm for each command: what the program's text says is what the command asks for, what the
-- command leaves is what the step leaves, and `done` says which line it prints.
-- Assumes nothing.
use mathlib.Core.Path.{◌≡◌, refl, sym, ap, ◌∙◌}
use native.Mathlib.Omega.{arith}
use borrow.Author.Rules.{rules}
use mathlib.Core.Option.{some_inj}
use Rattle.language.specs.Syntax.{Command, create_principal, change_password, set_delegation, delete_delegation, default_delegator, exit}
use Rattle.language.specs.Commands.{step}
use Rattle.language.proofs.Meaning.Printed.{line_is}
use Rattle.text.specs.Meaning.{part}
use Rattle.command_readers.specs.declared.Command.TheVariants.{Administer}
use Rattle.command_readers.specs.declared.Administration as Read
use Rattle.command_readers.specs.declared.Administration.TheVariants as Is
use Rattle.forms.specs.Forms.{target_meant, right_meant}
use Rattle.command_readers.specs.Commands.{administration_meant, SomeCommand}
use Rattle.tokens.proofs.Reading.{known}
use Rattle.session.specs.Sessions.{slices}
use Rattle.status.specs.Acts.{Acts}
use Rattle.administration.proofs.Spoken.{valid_as}
use Rattle.administration.proofs.act.Reads as reads
use Rattle.administration.proofs.act.Lts as lts
use Rattle.delegations.proofs.delete_delegation.Reads as delete-delegation-reads
use Rattle.delegations.proofs.set_delegation.Reads as set-delegation-reads
use Rattle.passwords.proofs.change_password.Reads as change-password-reads
use Rattle.principals.proofs.create_principal.Reads as create-principal-reads
use Rattle.server_commands.proofs.default_delegator.Reads as default-delegator-reads
use Rattle.server_commands.proofs.exit.Reads as exit-reads
use Rattle.status.proofs.done.Reads as done-reads
use Rattle.administration.proofs.act.Goals as goal

pub create_principal-v-requires : goal.create_principal-v-requires
create_principal-v-requires c =
    let spoken : (k : Read.Administration) → c.args.c ≡ k → SomeCommand c.args.text.now (Administer k) = λ k e. known (λ (d : Read.Administration). SomeCommand c.args.text.now (Administer d)) c.requires.some_command.0 e in
    let t = c.args.text.now in
    let S = spoken (Is.CreatePrincipal c.in-CreatePrincipal.p c.in-CreatePrincipal.w) c.in-CreatePrincipal.is in record {
      some_running = c.requires.some_running;
      within = (S.within.0, S.within.1, valid_as (create_principal (part t c.in-CreatePrincipal.p) (part t c.in-CreatePrincipal.w)) refl S, c.requires.some_command.1);
      targets_len = c.requires.labels_len;
    }

pub change_password-v-requires : goal.change_password-v-requires
change_password-v-requires c =
    let spoken : (k : Read.Administration) → c.args.c ≡ k → SomeCommand c.args.text.now (Administer k) = λ k e. known (λ (d : Read.Administration). SomeCommand c.args.text.now (Administer d)) c.requires.some_command.0 e in
    let t = c.args.text.now in
    let S = spoken (Is.ChangePassword c.in-ChangePassword.p c.in-ChangePassword.w) c.in-ChangePassword.is in record {
      some_running = c.requires.some_running;
      within = (S.within.0, S.within.1, valid_as (change_password (part t c.in-ChangePassword.p) (part t c.in-ChangePassword.w)) refl S, c.requires.some_command.1);
    }

pub set_delegation-v-requires : goal.set_delegation-v-requires
set_delegation-v-requires c =
    let spoken : (k : Read.Administration) → c.args.c ≡ k → SomeCommand c.args.text.now (Administer k) = λ k e. known (λ (d : Read.Administration). SomeCommand c.args.text.now (Administer d)) c.requires.some_command.0 e in
    let t = c.args.text.now in
    let S = spoken (Is.SetDelegation c.in-SetDelegation.x c.in-SetDelegation.q c.in-SetDelegation.r c.in-SetDelegation.p) c.in-SetDelegation.is in record {
      some_running = c.requires.some_running;
      target_within = (S.within.0, S.within.1, S.within.2, omega (arith, c.requires.labels_len));
    }

pub delete_delegation-v-requires : goal.delete_delegation-v-requires
delete_delegation-v-requires c =
    let spoken : (k : Read.Administration) → c.args.c ≡ k → SomeCommand c.args.text.now (Administer k) = λ k e. known (λ (d : Read.Administration). SomeCommand c.args.text.now (Administer d)) c.requires.some_command.0 e in
    let t = c.args.text.now in
    let S = spoken (Is.DeleteDelegation c.in-DeleteDelegation.x c.in-DeleteDelegation.q c.in-DeleteDelegation.r c.in-DeleteDelegation.p) c.in-DeleteDelegation.is in record {
      some_running = c.requires.some_running;
      target_within = (S.within.0, S.within.1, S.within.2, omega (arith, c.requires.labels_len));
    }

pub default_delegator-v-requires : goal.default_delegator-v-requires
default_delegator-v-requires c =
    let spoken : (k : Read.Administration) → c.args.c ≡ k → SomeCommand c.args.text.now (Administer k) = λ k e. known (λ (d : Read.Administration). SomeCommand c.args.text.now (Administer d)) c.requires.some_command.0 e in
    let t = c.args.text.now in
    let S = spoken (Is.DefaultDelegator c.in-DefaultDelegator.p) c.in-DefaultDelegator.is in record {
      some_running = c.requires.some_running;
      within = (S.within, valid_as (default_delegator (part t c.in-DefaultDelegator.p)) refl S);
    }

pub returns-in-CreatePrincipal : goal.returns-in-CreatePrincipal
returns-in-CreatePrincipal c s k value R m =
    let t = c.args.text.now in
    let b = slices c.create_principal-v.new.principals c.create_principal-v.new.principal_slots c.args.vars.now c.args.variable_slots.now c.args.locals.now c.args.local_slots.now c.create_principal-v.new.assertions in
    known (λ (j : Command). Acts c.done.result (step s j) s c.args.l b value)
    (c.done.ensures (step s (create_principal (part t c.in-CreatePrincipal.p) (part t c.in-CreatePrincipal.w))) b s c.args.l value (c.create_principal-v.ensures s R) (λ f h. line_is s (create_principal (part t c.in-CreatePrincipal.p) (part t c.in-CreatePrincipal.w)) f tt h))
    (some_inj.0 (sym (ap (administration_meant t) c.in-CreatePrincipal.is) ∙ m))

pub returns-in-ChangePassword : goal.returns-in-ChangePassword
returns-in-ChangePassword c s k value R m =
    let t = c.args.text.now in
    let b = slices c.change_password-v.new.principals c.change_password-v.new.principal_slots c.args.vars.now c.args.variable_slots.now c.args.locals.now c.args.local_slots.now c.args.assertions.now in
    known (λ (j : Command). Acts c.done-in-ChangePassword.result (step s j) s c.args.l b value)
    (c.done-in-ChangePassword.ensures (step s (change_password (part t c.in-ChangePassword.p) (part t c.in-ChangePassword.w))) b s c.args.l value (c.change_password-v.ensures s R) (λ f h. line_is s (change_password (part t c.in-ChangePassword.p) (part t c.in-ChangePassword.w)) f tt h))
    (some_inj.0 (sym (ap (administration_meant t) c.in-ChangePassword.is) ∙ m))

pub returns-in-SetDelegation : goal.returns-in-SetDelegation
returns-in-SetDelegation c s k value R m =
    let t = c.args.text.now in
    let b = slices c.args.principals.now c.args.principal_slots.now c.args.vars.now c.args.variable_slots.now c.args.locals.now c.args.local_slots.now c.set_delegation-v.new.assertions in
    known (λ (j : Command). Acts c.done-in-SetDelegation.result (step s j) s c.args.l b value)
    (c.done-in-SetDelegation.ensures (step s (set_delegation (target_meant t c.in-SetDelegation.x) (part t c.in-SetDelegation.q) (right_meant c.in-SetDelegation.r) (part t c.in-SetDelegation.p))) b s c.args.l value (c.set_delegation-v.ensures s R) (λ f h. line_is s (set_delegation (target_meant t c.in-SetDelegation.x) (part t c.in-SetDelegation.q) (right_meant c.in-SetDelegation.r) (part t c.in-SetDelegation.p)) f tt h))
    (some_inj.0 (sym (ap (administration_meant t) c.in-SetDelegation.is) ∙ m))

pub returns-in-DeleteDelegation : goal.returns-in-DeleteDelegation
returns-in-DeleteDelegation c s k value R m =
    let t = c.args.text.now in
    let b = slices c.args.principals.now c.args.principal_slots.now c.args.vars.now c.args.variable_slots.now c.args.locals.now c.args.local_slots.now c.delete_delegation-v.new.assertions in
    known (λ (j : Command). Acts c.done-in-DeleteDelegation.result (step s j) s c.args.l b value)
    (c.done-in-DeleteDelegation.ensures (step s (delete_delegation (target_meant t c.in-DeleteDelegation.x) (part t c.in-DeleteDelegation.q) (right_meant c.in-DeleteDelegation.r) (part t c.in-DeleteDelegation.p))) b s c.args.l value (c.delete_delegation-v.ensures s R) (λ f h. line_is s (delete_delegation (target_meant t c.in-DeleteDelegation.x) (part t c.in-DeleteDelegation.q) (right_meant c.in-DeleteDelegation.r) (part t c.in-DeleteDelegation.p)) f tt h))
    (some_inj.0 (sym (ap (administration_meant t) c.in-DeleteDelegation.is) ∙ m))

pub returns-in-DefaultDelegator : goal.returns-in-DefaultDelegator
returns-in-DefaultDelegator c s k value R m =
    let t = c.args.text.now in
    let b = slices c.args.principals.now c.args.principal_slots.now c.args.vars.now c.args.variable_slots.now c.args.locals.now c.args.local_slots.now c.args.assertions.now in
    known (λ (j : Command). Acts c.done-in-DefaultDelegator.result (step s j) s c.args.l b value)
    (c.done-in-DefaultDelegator.ensures (step s (default_delegator (part t c.in-DefaultDelegator.p))) b s c.args.l value (c.default_delegator-v.ensures s R) (λ f h. line_is s (default_delegator (part t c.in-DefaultDelegator.p)) f tt h))
    (some_inj.0 (sym (ap (administration_meant t) c.in-DefaultDelegator.is) ∙ m))

pub returns-in-Exit : goal.returns-in-Exit
returns-in-Exit c s k value R m =
    let t = c.args.text.now in
    let b = slices c.args.principals.now c.args.principal_slots.now c.args.vars.now c.args.variable_slots.now c.args.locals.now c.args.local_slots.now c.args.assertions.now in
    known (λ (j : Command). Acts c.done-in-Exit.result (step s j) s c.args.l b value)
    (c.done-in-Exit.ensures (step s (exit)) b s c.args.l value (c.exit-v.ensures s R) (λ f h. line_is s (exit) f tt h))
    (some_inj.0 (sym (ap (administration_meant t) c.in-Exit.is) ∙ m))
