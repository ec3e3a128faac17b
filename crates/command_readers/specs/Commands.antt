-- What commands that were read mean in the terms of document 01's grammar, and where their parts stand.
use Rattle.std.specs.Prelude.{ℕ, ◌≡◌, T, List, drop, Some, None}
use Rattle.std.specs.Prelude as Code
use Rattle.std.proofs.Math.Option.{Option, none, some}
use Rattle.language.specs.Text.{Text, ◌>>=◌}
use Rattle.language.specs.Tokens.{Token, lex}
use Rattle.language.specs.Syntax as Syntax
use Rattle.language.specs.Grammar.{Reader, ◌∣◌, create_form, change_form, delete_delegation_form, delegator_form}
use Rattle.language.proofs.Parsing.ValidPrograms.{valid_command}
use Rattle.text.specs.Meaning.{part, Within}
use Rattle.command_readers.specs.declared.Command.{Command}
use Rattle.command_readers.specs.declared.Command.TheVariants.{Administer, Variable}
use Rattle.command_readers.specs.declared.Administration.{Administration}
use Rattle.command_readers.specs.declared.Administration.TheVariants.{CreatePrincipal, ChangePassword, SetDelegation, DeleteDelegation, DefaultDelegator, Exit}
use Rattle.command_readers.specs.declared.VariableCommand.{VariableCommand}
use Rattle.command_readers.specs.declared.VariableCommand.TheVariants.{Set, Append, Local, Foreach, Filtereach, Return}
use Rattle.syntax.specs.Values.{expr_meant, ExprWithin}
use Rattle.forms.specs.Forms.{right_meant, target_meant, TargetWithin}

abbrev pub administration_meant : Text → Administration → Option Syntax.Command
administration_meant t (CreatePrincipal p s) = some (Syntax.create_principal (part t p) (part t s))
administration_meant t (ChangePassword p s) = some (Syntax.change_password (part t p) (part t s))
administration_meant t (SetDelegation x q r p) = some (Syntax.set_delegation (target_meant t x) (part t q) (right_meant r) (part t p))
administration_meant t (DeleteDelegation x q r p) = some (Syntax.delete_delegation (target_meant t x) (part t q) (right_meant r) (part t p))
administration_meant t (DefaultDelegator p) = some (Syntax.default_delegator (part t p))
administration_meant t Exit = some Syntax.exit

abbrev pub variable_meant : Text → VariableCommand → Option Syntax.Command
variable_meant t (Set x e) = expr_meant t e >>= λ v. some (Syntax.set (part t x) v)
variable_meant t (Append x e) = expr_meant t e >>= λ v. some (Syntax.append_to (part t x) v)
variable_meant t (Local x e) = expr_meant t e >>= λ v. some (Syntax.local (part t x) v)
variable_meant t (Foreach y x e) = expr_meant t e >>= λ v. some (Syntax.foreach (part t y) (part t x) v)
variable_meant t (Filtereach y x e) = expr_meant t e >>= λ v. some (Syntax.filtereach (part t y) (part t x) v)
variable_meant t (Return e) = expr_meant t e >>= λ v. some (Syntax.return v)

abbrev pub command_meant : Text → Command → Option Syntax.Command
command_meant t (Administer c) = administration_meant t c
command_meant t (Variable c) = variable_meant t c

-- every place in a command is within the text
abbrev pub AdministrationWithin : Text → Administration → Type 0
AdministrationWithin t (CreatePrincipal p s) = Within t p × Within t s
AdministrationWithin t (ChangePassword p s) = Within t p × Within t s
AdministrationWithin t (SetDelegation x q r p) = TargetWithin t x × Within t q × Within t p
AdministrationWithin t (DeleteDelegation x q r p) = TargetWithin t x × Within t q × Within t p
AdministrationWithin t (DefaultDelegator p) = Within t p
AdministrationWithin t Exit = Unit

abbrev pub VariableWithin : Text → VariableCommand → Type 0
VariableWithin t (Set x e) = Within t x × ExprWithin t e
VariableWithin t (Append x e) = Within t x × ExprWithin t e
VariableWithin t (Local x e) = Within t x × ExprWithin t e
VariableWithin t (Foreach y x e) = Within t y × Within t x × ExprWithin t e
VariableWithin t (Filtereach y x e) = Within t y × Within t x × ExprWithin t e
VariableWithin t (Return e) = ExprWithin t e

abbrev pub CommandWithin : Text → Command → Type 0
CommandWithin t (Administer c) = AdministrationWithin t c
CommandWithin t (Variable c) = VariableWithin t c

-- the program's text says a valid command at these places
pub record SomeCommand (t : Text) (c : Command) : Type 0 where
  pub command : Syntax.Command
  pub meant : command_meant t c ≡ some command
  pub within : CommandWithin t c
  pub is_valid : T (valid_command command)

abbrev pub command_read_meant : Text → Code.Option Command → ℕ → Option (Syntax.Command × List Token)
command_read_meant t (Some c) n = command_meant t c >>= λ k. some (k, lex (drop n t))
command_read_meant t None n = none

-- the commands about principals and what they delegate, but for `set delegation`
abbrev pub about_principals : Reader Syntax.Command
about_principals = create_form ∣ change_form ∣ delete_delegation_form ∣ delegator_form
