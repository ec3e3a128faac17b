-- What a command without an expression says.
-- Assumes nothing.
use mathlib.Core.Path.{◌≡◌, subst, sym, ◌∙◌}
use mathlib.Core.Option.{some, some_inj}
use lib.Dec.{T}
use Rattle.language.specs.Text.{Text}
use Rattle.language.specs.Syntax.{Command}
use Rattle.language.proofs.Parsing.ValidPrograms.{valid_command}
use Rattle.command_readers.specs.declared.Command as ReadCommand
use Rattle.command_readers.specs.Commands.{command_meant, SomeCommand}

pub valid_as : {t : Text} {k : ReadCommand.Command} (m : Command) → command_meant t k ≡ some m → SomeCommand t k → T (valid_command m)
valid_as m e S = subst (λ c. T (valid_command c)) (some_inj.0 (sym S.meant ∙ e)) S.is_valid
