-- What whole lines that were read mean in the terms of document 01, and where their parts stand.
use Rattle.std.specs.Prelude.{Bool, true, false, List, [], ◌∷◌, Some, None}
use Rattle.std.specs.Prelude as Code
use Rattle.std.proofs.Math.Option.{Option, none, some}
use Rattle.language.specs.Text.{Text}
use Rattle.language.specs.Tokens.{Token}
use Rattle.language.specs.Syntax as Syntax
use Rattle.language.specs.Grammar.{Opening}
use Rattle.text.specs.Meaning.{part, Within}
use Rattle.line_readers.specs.declared.Login.{Login}
use Rattle.command_readers.specs.declared.Command.{Command}
use Rattle.command_readers.specs.Commands.{command_meant, CommandWithin}

abbrev pub is_nil : List Token → Bool
is_nil [] = true
is_nil (t ∷ ts) = false

-- ---- a whole line
abbrev pub line_read_meant : Text → Code.Option Command → Option Syntax.Command
line_read_meant t (Some c) = command_meant t c
line_read_meant t None = none

abbrev pub LineWithin : Text → Code.Option Command → Type 0
LineWithin t (Some c) = CommandWithin t c
LineWithin t None = Unit

abbrev pub opening_of : Text → Login → Opening
opening_of t l = record { sender = part t l.sender; password = part t l.password }

abbrev pub OpeningWithin : Text → Login → Type 0
OpeningWithin t l = Within t l.sender × Within t l.password

abbrev pub login_meant : Text → Code.Option Login → Option Opening
login_meant t (Some l) = some (opening_of t l)
login_meant t None = none

abbrev pub LoginWithin : Text → Code.Option Login → Type 0
LoginWithin t (Some l) = OpeningWithin t l
LoginWithin t None = Unit
