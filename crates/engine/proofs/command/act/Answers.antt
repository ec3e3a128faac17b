-- `engine::command::act` meets its contract. Each group of commands has its function, whose contract is the same for its group.
-- Assumes nothing.
use mathlib.Core.Path.{◌≡◌, sym, ap, ◌∙◌}
use Rattle.command_readers.specs.declared.Command as Read
use Rattle.command_readers.specs.declared.Command.TheVariants as Is
use Rattle.command_readers.specs.Commands.{command_meant, SomeCommand}
use Rattle.tokens.proofs.Reading.{known}
use borrow.Author.Rules.{rules}
use Rattle.engine.proofs.command.act.Reads as reads
use Rattle.engine.proofs.command.act.Lts as lts
use Rattle.administration.proofs.act.Reads as act-reads
use Rattle.variable_commands.proofs.act.Reads as act-reads'
use Rattle.engine.proofs.command.act.Goals as goal

pub act-requires : goal.act-requires
act-requires c =
    let spoken : (k : Read.Command) → c.args.c ≡ k → SomeCommand c.args.text.now k = λ k e. known (λ (d : Read.Command). SomeCommand c.args.text.now d) c.requires.some_command.0 e in
    let S = spoken (Is.Administer c.in-Administer.a) c.in-Administer.is in record {
      some_running = c.requires.some_running;
      labels_len = c.requires.value_len.1;
      some_command = (S, c.requires.some_command.1);
    }

pub act-requires-in-Variable : goal.act-requires-in-Variable
act-requires-in-Variable c =
    let spoken : (k : Read.Command) → c.args.c ≡ k → SomeCommand c.args.text.now k = λ k e. known (λ (d : Read.Command). SomeCommand c.args.text.now d) c.requires.some_command.0 e in
    let S = spoken (Is.Variable c.in-Variable.v) c.in-Variable.is in
    record {
      some_running = c.requires.some_running;
      value_len = c.requires.value_len;
      some_command = (S, c.requires.some_command.1);
    }

pub returns-in-Administer : goal.returns-in-Administer
returns-in-Administer c s k R m = c.act.ensures s k c.args.value.now R (sym (ap (command_meant c.args.text.now) c.in-Administer.is) ∙ m)

pub returns-in-Variable : goal.returns-in-Variable
returns-in-Variable c s k R m = c.act-in-Variable.ensures s k R (sym (ap (command_meant c.args.text.now) c.in-Variable.is) ∙ m)
