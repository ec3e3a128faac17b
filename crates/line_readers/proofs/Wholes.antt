-- Laws of whole lines: the tokens of a line end with it, nothing but its end may follow what was read, and that means something.
-- Assumes nothing.
use mathlib.Core.Path.{◌≡◌, refl, ap}
use Prim.Native.Nat.{ℕ}
use mathlib.Core.Bool.{true, false}
use mathlib.Core.Option.{Option, none, some}
use mathlib.Core.List.{List, [], ◌∷◌}
use lib.ListN.{drop}
use Rattle.language.specs.Text.{Text, ◌>>=◌, present}
use Rattle.language.specs.Tokens.{Token, lex}
use Rattle.language.specs.Syntax as Syntax
use Rattle.language.specs.Grammar.{spent, whole, the, any_name, any_string, any_login, any_command, any_ending}
use Rattle.language.specs.Programs.{login_line, command_line, ending_line}
use Rattle.syntax.specs.Values.{expr_meant}
use Rattle.command_readers.specs.Commands.{command_meant, CommandWithin}
use Rattle.syntax.proofs.Said.{bound, expr_there}
use Rattle.command_readers.specs.declared.Command.{Command}
use Rattle.command_readers.specs.declared.Command.TheVariants.{Administer, Variable}
use Rattle.command_readers.specs.declared.Administration.TheVariants.{CreatePrincipal, ChangePassword, SetDelegation, DeleteDelegation, DefaultDelegator, Exit}
use Rattle.command_readers.specs.declared.VariableCommand.TheVariants.{Set, Append, Local, Foreach, Filtereach, Return}
use Rattle.program_lines.specs.Lines.{line_from}
use Rattle.line_readers.specs.WholeLines.{is_nil}
use Rattle.line_readers.proofs.FirstLine.{lex_line}

-- ---- a line is what the tokens of the text from its place on say, for they end with the line
module _ (t : Text) (at : ℕ) where
  pub login_tokens : login_line (line_from t at) ≡ whole any_login (lex (drop at t))
  login_tokens = ap (whole any_login) (lex_line (drop at t))

  pub command_tokens : command_line (line_from t at) ≡ whole any_command (lex (drop at t))
  command_tokens = ap (whole any_command) (lex_line (drop at t))

  pub ending_tokens : ending_line (line_from t at) ≡ whole any_ending (lex (drop at t))
  ending_tokens = ap (whole any_ending) (lex_line (drop at t))

-- ---- the line's end after what was read
module _ {A : Type 0} where
  pub not_spent : (o : Option A) (us : List Token) → is_nil us ≡ false → spent (o >>= λ k. some (k, us)) ≡ none
  not_spent none us e = refl
  not_spent (some a) [] e = cc
  not_spent (some a) (u ∷ us) e = refl

  pub all_spent : (o : Option A) (us : List Token) → is_nil us ≡ true → spent (o >>= λ k. some (k, us)) ≡ o
  all_spent none us e = refl
  all_spent (some a) [] e = refl
  all_spent (some a) (u ∷ us) e = cc

-- ---- what was read means something
pub command_meant_lem : (t : Text) (c : Command) → CommandWithin t c → present (command_meant t c) ≡ true
command_meant_lem t (Administer (CreatePrincipal p s)) h = refl
command_meant_lem t (Administer (ChangePassword p s)) h = refl
command_meant_lem t (Variable (Set x e)) h = bound (expr_meant t e) (λ v. Syntax.set _ v) (expr_there t e h.1)
command_meant_lem t (Variable (Append x e)) h = bound (expr_meant t e) (λ v. Syntax.append_to _ v) (expr_there t e h.1)
command_meant_lem t (Variable (Local x e)) h = bound (expr_meant t e) (λ v. Syntax.local _ v) (expr_there t e h.1)
command_meant_lem t (Variable (Foreach y x e)) h = bound (expr_meant t e) (λ v. Syntax.foreach _ _ v) (expr_there t e h.2)
command_meant_lem t (Variable (Filtereach y x e)) h = bound (expr_meant t e) (λ v. Syntax.filtereach _ _ v) (expr_there t e h.2)
command_meant_lem t (Administer (SetDelegation x q r p)) h = refl
command_meant_lem t (Administer (DeleteDelegation x q r p)) h = refl
command_meant_lem t (Administer (DefaultDelegator p)) h = refl
command_meant_lem t (Administer Exit) h = refl
command_meant_lem t (Variable (Return e)) h = bound (expr_meant t e) (λ v. Syntax.return v) (expr_there t e h)
