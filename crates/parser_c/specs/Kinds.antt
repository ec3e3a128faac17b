-- The kinds of a program's commands, as numbers in the order of document 01's statuses; those of later requests follow.
use Rattle.std.specs.Prelude.{◌≡◌, ℕ, ◌≤◌, ◌<◌, List, ◌++◌, map, length, drop}
use Rattle.std.proofs.Math.Option.{Option, none, some}
use Rattle.language.specs.Text.{Text}
use Rattle.language.specs.Syntax as Syntax
use Rattle.language.specs.Syntax.{create_principal, change_password, set, append_to, local, foreach, filtereach, set_delegation, delete_delegation, default_delegator, exit, return}
use Rattle.language.specs.Programs.{parse}
use Rattle.parser.specs.Bodies.{body_from}
use Rattle.command_readers.specs.declared.Command.{Command}
use Rattle.command_readers.specs.declared.Command.TheVariants.{Administer, Variable}
use Rattle.command_readers.specs.declared.Administration.{Administration}
use Rattle.command_readers.specs.declared.Administration.TheVariants.{CreatePrincipal, ChangePassword, SetDelegation, DeleteDelegation, DefaultDelegator, Exit}
use Rattle.command_readers.specs.declared.VariableCommand.{VariableCommand}
use Rattle.command_readers.specs.declared.VariableCommand.TheVariants.{Set, Append, Local, Foreach, Filtereach, Return}

abbrev pub kind_of : Syntax.Command → ℕ
kind_of (create_principal p t) = 1
kind_of (change_password p t) = 2
kind_of (set x e) = 3
kind_of (append_to x e) = 4
kind_of (local x e) = 5
kind_of (foreach y x e) = 6
kind_of (filtereach y x e) = 12
kind_of (set_delegation t q r p) = 7
kind_of (delete_delegation t q r p) = 8
kind_of (default_delegator p) = 9
kind_of (return e) = 10
kind_of exit = 11

-- of a command by its places
abbrev pub administration_code : Administration → ℕ
administration_code (CreatePrincipal p s) = 1
administration_code (ChangePassword p s) = 2
administration_code (SetDelegation t q r p) = 7
administration_code (DeleteDelegation t q r p) = 8
administration_code (DefaultDelegator p) = 9
administration_code Exit = 11

abbrev pub variable_code : VariableCommand → ℕ
variable_code (Set x e) = 3
variable_code (Append x e) = 4
variable_code (Local x e) = 5
variable_code (Foreach y x e) = 6
variable_code (Filtereach y x e) = 12
variable_code (Return e) = 10

abbrev pub code : Command → ℕ
code (Administer c) = administration_code c
code (Variable c) = variable_code c

-- the commands of a program stand from the line at `at` on
pub record SomeCommands (t : Text) (at : ℕ) : Type 0 where
  pub commands : List Syntax.Command
  pub are : body_from t at ≡ some commands
  pub within : at ≤ length t

-- the kinds of cs stand in the first r bytes, and the others are as they were
pub record Listed (cs : List Syntax.Command) (old new : Text) (r : ℕ) : Type 0 where
  pub count : r ≡ length cs
  pub kinds : new ≡ map kind_of cs ++ drop r old

-- the numbers of a text that does not parse, and of too little room
abbrev pub not_parsed : ℕ
not_parsed = 65536

abbrev pub refused : ℕ
refused = 65537

abbrev pub Answers : Option Syntax.Program → Text → Text → ℕ → Type 0
Answers none old new r = (r ≡ not_parsed) × (new ≡ old)
Answers (some p) old new r = Listed p.commands old new r

-- what the call answers and leaves, for every text and every room
pub record Reported (t old new : Text) (r : ℕ) : Type 0 where
  pub refuses : length old < 16384 → (r ≡ refused) × (new ≡ old)
  pub answers : 16384 ≤ length old → Answers (parse t) old new r
