-- What the answers about a program's login and its commands mean in the terms of document 01.
use Rattle.std.specs.Prelude.{ℕ, ◌+◌, ◌≤◌, ◌≡◌, Bool, true, false, List, [], ◌∷◌, T, length, Some, None}
use Rattle.std.specs.Prelude as Code
use Rattle.std.proofs.Math.Option.{Option, none, some}
use Rattle.language.specs.Text.{Text, ◌>>=◌}
use Rattle.language.specs.Syntax as Syntax
use Rattle.language.specs.Grammar.{Opening}
use Rattle.language.specs.Programs.{body, longest}
use Rattle.language.proofs.Parsing.ValidPrograms.{valid_command, is_ending}
use Rattle.language.proofs.Parsing.Parsing.{command_room}
use Rattle.text.specs.Meaning.{part, Within}
use Rattle.command_readers.specs.declared.Command as Places
use Rattle.command_readers.specs.Commands.{command_meant, CommandWithin}
use Rattle.parser.specs.declared.Head.{Head}
use Rattle.parser.specs.declared.Read.{Read}
use Rattle.program_lines.specs.Lines.{written_from}

-- nothing but `***` is left
abbrev pub is_empty : Option (List Text) → Bool
is_empty none = false
is_empty (some []) = true
is_empty (some (l ∷ ls)) = false

-- the commands and the ending of the lines from place `at` on up to `***`
abbrev pub body_from : Text → ℕ → Option (List Syntax.Command)
body_from t at = written_from t at >>= body

-- ---- the login: the program that has it and the commands that o is
abbrev pub with_body : Opening → Option (List Syntax.Command) → Option Syntax.Program
with_body p o = o >>= λ cs. some (record { sender = p.sender; password = p.password; commands = cs })

-- what the whole text is
abbrev pub head_meant : Text → Code.Option Head → Option Syntax.Program
head_meant t (Some h) = with_body (record { sender = part t h.sender; password = part t h.password }) (body_from t h.at)
head_meant t None = none

abbrev pub HeadWithin : Text → Code.Option Head → Type 0
HeadWithin t (Some h) = Within t h.sender × Within t h.password × (h.at ≤ length t) × (length t ≤ longest)
HeadWithin t None = Unit

-- ---- a command, and what follows it
abbrev pub is_last : Code.Option ℕ → Bool
is_last (Some n) = false
is_last None = true

abbrev pub rest_from : Text → Code.Option ℕ → Option (List Syntax.Command)
rest_from t (Some n) = body_from t n
rest_from t None = some []

-- the command k has room before the next line, or before the text's end
abbrev pub RestPlaced : Text → ℕ → Syntax.Command → Code.Option ℕ → Type 0
RestPlaced t at k (Some n) = (at + command_room k ≤ n) × (n ≤ length t)
RestPlaced t at k None = at + command_room k ≤ length t

-- the command at the places c is the first of the lines from `at` on, and valid
pub record First (t : Text) (at : ℕ) (c : Places.Command) (rest : Code.Option ℕ) : Type 0 where
  pub command : Syntax.Command
  pub meant : command_meant t c ≡ some command
  pub within : CommandWithin t c
  pub is_valid : T (valid_command command)
  pub is_last_lem : is_ending command ≡ is_last rest
  pub placed : RestPlaced t at command rest
  pub all : body_from t at ≡ (rest_from t rest >>= λ cs. some (command ∷ cs))

abbrev pub ReadFrom : Text → ℕ → Code.Option Read → Type 0
ReadFrom t at (Some r) = First t at r.command r.rest
ReadFrom t at None = body_from t at ≡ none
