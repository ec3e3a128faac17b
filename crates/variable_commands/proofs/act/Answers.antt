-- `variable_commands::act` meets its contract. One arm for each command: what the program's text says is what the command asks for, what the
-- command leaves is what the step leaves, and `done` or `given` says which line it prints.
-- Assumes nothing.
use mathlib.Core.Path.{◌≡◌, refl, sym, ap, ◌∙◌}
use native.Mathlib.Omega.{arith}
use borrow.Author.Rules.{rules}
use mathlib.Core.Bool.{true, ◌&&◌}
use Rattle.language.specs.Identifiers.{is_identifier}
use Rattle.language.specs.Syntax.{Command, set, append_to, local, foreach, filtereach, return}
use Rattle.language.specs.Commands.{step}
use Rattle.language.proofs.Logic.Tests.{and}
use Rattle.language.proofs.Parsing.ValidPrograms.{valid_expr}
use Rattle.language.proofs.Meaning.Printed.{line_is}
use Rattle.text.specs.Meaning.{part}
use Rattle.command_readers.specs.declared.Command.TheVariants.{Variable}
use Rattle.command_readers.specs.declared.VariableCommand as Read
use Rattle.command_readers.specs.declared.VariableCommand.TheVariants as Is
use Rattle.syntax.specs.Values.{expr_meant}
use Rattle.command_readers.specs.Commands.{variable_meant, SomeCommand}
use Rattle.tokens.proofs.Reading.{known}
use Rattle.session.specs.Sessions.{slices}
use Rattle.status.specs.Acts.{Acts}
use Rattle.variable_commands.proofs.Spoken.{said, expr_of, names}
use Rattle.variable_commands.proofs.act.Reads as reads
use Rattle.variable_commands.proofs.act.Lts as lts
use Rattle.foreach.proofs.foreach.Reads as foreach-reads
use Rattle.filtereach.proofs.filtereach.Reads as filtereach-reads
use Rattle.returning.proofs.value.Reads as value-reads
use Rattle.status.proofs.done.Reads as done-reads
use Rattle.status.proofs.given.Reads as given-reads
use Rattle.append_command.proofs.append.Reads as append-reads
use Rattle.local_command.proofs.local.Reads as local-reads
use Rattle.set_command.proofs.set.Reads as set_Reads
use Rattle.variable_commands.proofs.act.Goals as goal

pub set-v-requires : goal.set-v-requires
set-v-requires c =
    let spoken : (k : Read.VariableCommand) → c.args.c ≡ k → SomeCommand c.args.text.now (Variable k) = λ k e. known (λ (d : Read.VariableCommand). SomeCommand c.args.text.now (Variable d)) c.requires.some_command.0 e in
    let t = c.args.text.now in
    let S = spoken (Is.Set c.in-Set.x c.in-Set.e) c.in-Set.is in
    let X = expr_of t c.in-Set.e (set (part t c.in-Set.x)) (is_identifier (part t c.in-Set.x)) (λ z. refl) S.within.1 S.command S.meant S.is_valid in record {
      some_running = c.requires.some_running;
      names = (names S.within.0 X.0 X.1 c.requires.some_command.1, record { value_size = c.requires.value_len.0; labels_size = c.requires.value_len.1 });
    }

pub append-v-requires : goal.append-v-requires
append-v-requires c =
    let spoken : (k : Read.VariableCommand) → c.args.c ≡ k → SomeCommand c.args.text.now (Variable k) = λ k e. known (λ (d : Read.VariableCommand). SomeCommand c.args.text.now (Variable d)) c.requires.some_command.0 e in
    let t = c.args.text.now in
    let S = spoken (Is.Append c.in-Append.x c.in-Append.e) c.in-Append.is in
    let X = expr_of t c.in-Append.e (append_to (part t c.in-Append.x)) (is_identifier (part t c.in-Append.x)) (λ z. refl) S.within.1 S.command S.meant S.is_valid in record {
      some_running = c.requires.some_running;
      names = (names S.within.0 X.0 X.1 c.requires.some_command.1, record { value_size = c.requires.value_len.0; labels_size = c.requires.value_len.1 });
    }

pub local-v-requires : goal.local-v-requires
local-v-requires c =
    let spoken : (k : Read.VariableCommand) → c.args.c ≡ k → SomeCommand c.args.text.now (Variable k) = λ k e. known (λ (d : Read.VariableCommand). SomeCommand c.args.text.now (Variable d)) c.requires.some_command.0 e in
    let t = c.args.text.now in
    let S = spoken (Is.Local c.in-Local.x c.in-Local.e) c.in-Local.is in
    let X = expr_of t c.in-Local.e (local (part t c.in-Local.x)) (is_identifier (part t c.in-Local.x)) (λ z. refl) S.within.1 S.command S.meant S.is_valid in record {
      some_running = c.requires.some_running;
      names = (names S.within.0 X.0 X.1 c.requires.some_command.1, record { value_size = c.requires.value_len.0; labels_size = c.requires.value_len.1 });
    }

pub foreach-v-requires : goal.foreach-v-requires
foreach-v-requires c =
    let spoken : (k : Read.VariableCommand) → c.args.c ≡ k → SomeCommand c.args.text.now (Variable k) = λ k e. known (λ (d : Read.VariableCommand). SomeCommand c.args.text.now (Variable d)) c.requires.some_command.0 e in
    let t = c.args.text.now in
    let S = spoken (Is.Foreach c.in-Foreach.y c.in-Foreach.x c.in-Foreach.e) c.in-Foreach.is in
    let X = expr_of t c.in-Foreach.e (foreach (part t c.in-Foreach.y) (part t c.in-Foreach.x)) (is_identifier (part t c.in-Foreach.y) && is_identifier (part t c.in-Foreach.x)) (λ z. refl) S.within.2 S.command S.meant S.is_valid in record {
      some_running = c.requires.some_running;
      some_foreach = (
        record {
          says = X.1;
          is_valid = and (is_identifier (part t c.in-Foreach.y) && is_identifier (part t c.in-Foreach.x)) (valid_expr X.1.expression) X.0 X.1.is_valid;
          y_within = S.within.0;
          x_within = S.within.1;
          short = c.requires.some_command.1;
        },
        record { value_size = c.requires.value_len.0; labels_size = omega (arith, c.requires.value_len.1) },
      );
    }

pub filtereach-v-requires : goal.filtereach-v-requires
filtereach-v-requires c =
    let spoken : (k : Read.VariableCommand) → c.args.c ≡ k → SomeCommand c.args.text.now (Variable k) = λ k e. known (λ (d : Read.VariableCommand). SomeCommand c.args.text.now (Variable d)) c.requires.some_command.0 e in
    let t = c.args.text.now in
    let S = spoken (Is.Filtereach c.in-Filtereach.y c.in-Filtereach.x c.in-Filtereach.e) c.in-Filtereach.is in
    let X = expr_of t c.in-Filtereach.e (filtereach (part t c.in-Filtereach.y) (part t c.in-Filtereach.x)) (is_identifier (part t c.in-Filtereach.y) && is_identifier (part t c.in-Filtereach.x)) (λ z. refl) S.within.2 S.command S.meant S.is_valid in record {
      some_running = c.requires.some_running;
      some_filtereach = (
        record {
          says = X.1;
          is_valid = and (is_identifier (part t c.in-Filtereach.y) && is_identifier (part t c.in-Filtereach.x)) (valid_expr X.1.expression) X.0 X.1.is_valid;
          y_within = S.within.0;
          x_within = S.within.1;
          short = c.requires.some_command.1;
        },
        record { value_size = c.requires.value_len.0; labels_size = omega (arith, c.requires.value_len.1) },
      );
    }

pub value-v-requires : goal.value-v-requires
value-v-requires c =
    let spoken : (k : Read.VariableCommand) → c.args.c ≡ k → SomeCommand c.args.text.now (Variable k) = λ k e. known (λ (d : Read.VariableCommand). SomeCommand c.args.text.now (Variable d)) c.requires.some_command.0 e in
    let t = c.args.text.now in
    let S = spoken (Is.Return c.in-Return.e) c.in-Return.is in
    let X = expr_of t c.in-Return.e (return) (true) (λ z. refl) S.within S.command S.meant S.is_valid in record {
      some_running = c.requires.some_running;
      some_expr = (X.1, c.requires.some_command.1);
      lent = record { out_size = omega (arith, c.requires.value_len.0); slots_size = omega (arith, c.requires.value_len.1) };
    }

pub returns-in-Set : goal.returns-in-Set
returns-in-Set c s k R m =
    let t = c.args.text.now in
    let M = said (expr_meant t c.in-Set.e) (set (part t c.in-Set.x)) k (sym (ap (variable_meant t) c.in-Set.is) ∙ m) in
    let b = slices c.args.principals.now c.args.principal_slots.now c.set-v.new.vars c.set-v.new.variable_slots c.set-v.new.locals c.set-v.new.local_slots c.set-v.new.assertions in
    known (λ (j : Command). Acts c.done.result (step s j) s c.args.l b c.set-v.new.value)
    (c.done.ensures (step s (set (part t c.in-Set.x) M.expression)) b s c.args.l c.set-v.new.value (c.set-v.ensures s M.expression R M.meant) (λ f h. line_is s (set (part t c.in-Set.x) M.expression) f tt h))
    M.is_command

pub returns-in-Append : goal.returns-in-Append
returns-in-Append c s k R m =
    let t = c.args.text.now in
    let M = said (expr_meant t c.in-Append.e) (append_to (part t c.in-Append.x)) k (sym (ap (variable_meant t) c.in-Append.is) ∙ m) in
    let b = slices c.args.principals.now c.args.principal_slots.now c.append-v.new.vars c.append-v.new.variable_slots c.append-v.new.locals c.append-v.new.local_slots c.args.assertions.now in
    known (λ (j : Command). Acts c.done-in-Append.result (step s j) s c.args.l b c.append-v.new.value)
    (c.done-in-Append.ensures (step s (append_to (part t c.in-Append.x) M.expression)) b s c.args.l c.append-v.new.value (c.append-v.ensures s M.expression R M.meant) (λ f h. line_is s (append_to (part t c.in-Append.x) M.expression) f tt h))
    M.is_command

pub returns-in-Local : goal.returns-in-Local
returns-in-Local c s k R m =
    let t = c.args.text.now in
    let M = said (expr_meant t c.in-Local.e) (local (part t c.in-Local.x)) k (sym (ap (variable_meant t) c.in-Local.is) ∙ m) in
    let b = slices c.args.principals.now c.args.principal_slots.now c.args.vars.now c.args.variable_slots.now c.local-v.new.locals c.local-v.new.local_slots c.args.assertions.now in
    known (λ (j : Command). Acts c.done-in-Local.result (step s j) s c.args.l b c.local-v.new.value)
    (c.done-in-Local.ensures (step s (local (part t c.in-Local.x) M.expression)) b s c.args.l c.local-v.new.value (c.local-v.ensures s M.expression R M.meant) (λ f h. line_is s (local (part t c.in-Local.x) M.expression) f tt h))
    M.is_command

pub returns-in-Foreach : goal.returns-in-Foreach
returns-in-Foreach c s k R m =
    let t = c.args.text.now in
    let M = said (expr_meant t c.in-Foreach.e) (foreach (part t c.in-Foreach.y) (part t c.in-Foreach.x)) k (sym (ap (variable_meant t) c.in-Foreach.is) ∙ m) in
    let b = slices c.args.principals.now c.args.principal_slots.now c.foreach-v.new.vars c.foreach-v.new.variable_slots c.foreach-v.new.locals c.foreach-v.new.local_slots c.foreach-v.new.assertions in
    known (λ (j : Command). Acts c.done-in-Foreach.result (step s j) s c.args.l b c.foreach-v.new.value)
    (c.done-in-Foreach.ensures (step s (foreach (part t c.in-Foreach.y) (part t c.in-Foreach.x) M.expression)) b s c.args.l c.foreach-v.new.value (c.foreach-v.ensures s M.expression R M.meant) (λ f h. line_is s (foreach (part t c.in-Foreach.y) (part t c.in-Foreach.x) M.expression) f tt h))
    M.is_command

pub returns-in-Filtereach : goal.returns-in-Filtereach
returns-in-Filtereach c s k R m =
    let t = c.args.text.now in
    let M = said (expr_meant t c.in-Filtereach.e) (filtereach (part t c.in-Filtereach.y) (part t c.in-Filtereach.x)) k (sym (ap (variable_meant t) c.in-Filtereach.is) ∙ m) in
    let b = slices c.args.principals.now c.args.principal_slots.now c.filtereach-v.new.vars c.filtereach-v.new.variable_slots c.filtereach-v.new.locals c.filtereach-v.new.local_slots
    c.filtereach-v.new.assertions in
    known (λ (j : Command). Acts c.done-in-Filtereach.result (step s j) s c.args.l b c.filtereach-v.new.value)
    (c.done-in-Filtereach.ensures (step s (filtereach (part t c.in-Filtereach.y) (part t c.in-Filtereach.x) M.expression)) b s c.args.l c.filtereach-v.new.value (c.filtereach-v.ensures s M.expression R M.meant) (λ f h. line_is s (filtereach (part t c.in-Filtereach.y) (part t c.in-Filtereach.x) M.expression) f tt h))
    M.is_command

pub returns-in-Return : goal.returns-in-Return
returns-in-Return c s k R m =
    let t = c.args.text.now in
    let M = said (expr_meant t c.in-Return.e) return k (sym (ap (variable_meant t) c.in-Return.is) ∙ m) in
    let b = slices c.args.principals.now c.args.principal_slots.now c.args.vars.now c.args.variable_slots.now c.args.locals.now c.args.local_slots.now c.args.assertions.now in
    known (λ (j : Command). Acts c.given.result (step s j) s c.args.l b c.value-v.new.value)
    (c.given.ensures (step s (return M.expression)) b s c.args.l c.value-v.new.value R (c.value-v.ensures s M.expression R M.meant))
    M.is_command
