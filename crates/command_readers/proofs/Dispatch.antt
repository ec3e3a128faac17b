-- Laws of commands: what the grammar makes of each first word.
-- Assumes nothing.
use mathlib.Core.Path.{◌≡◌, refl, ap, ◌∙◌}
use mathlib.Core.Bool.{true, false}
use mathlib.Core.Option.{Option, none, some}
use mathlib.Core.List.{List, ◌∷◌}
use Rattle.language.specs.Text.{Text, bytes, ◌≟◌, ◌>>=◌}
use Rattle.language.specs.Tokens.{Token, sign, ident}
use Rattle.language.specs.Syntax.{Name, Expr, Command, set, set_delegation, exit, return}
use Rattle.language.specs.Grammar.{the, any_expression, create_form, change_form, append_form, local_form, foreach_form, filtereach_form, delete_delegation_form, any_command, any_ending}
use Rattle.tokens.specs.Readers.{any_sign}
use Rattle.forms.specs.Forms.{of_expr, assign_form, delegation_form}
use Rattle.command_readers.specs.Commands.{about_principals}
use Rattle.text.proofs.Words.{same_true}
use Rattle.tokens.proofs.Reading.{sign_none, or_else_none}

-- a command with an expression, as k makes it
pub of_command : (o : Option Expr) (k : Expr → Command) (us : List Token) → ((o >>= λ v. some (k v)) >>= λ c. some (c, us)) ≡ of_expr o k us
of_command none k us = refl
of_command (some v) k us = refl

-- ---- past a first word
module _ (us : List Token) where
  pub create_is : about_principals (sign (bytes "create") ∷ us) ≡ create_form (sign (bytes "create") ∷ us)
  create_is = or_else_none (create_form (sign (bytes "create") ∷ us))

  pub change_is : about_principals (sign (bytes "change") ∷ us) ≡ change_form (sign (bytes "change") ∷ us)
  change_is = or_else_none (change_form (sign (bytes "change") ∷ us))

  pub delete_is : about_principals (sign (bytes "delete") ∷ us) ≡ delete_delegation_form (sign (bytes "delete") ∷ us)
  delete_is = or_else_none (delete_delegation_form (sign (bytes "delete") ∷ us))

  pub append_is : any_command (sign (bytes "append") ∷ us) ≡ append_form (sign (bytes "append") ∷ us)
  append_is = or_else_none (append_form (sign (bytes "append") ∷ us))

  pub local_is : any_command (sign (bytes "local") ∷ us) ≡ local_form (sign (bytes "local") ∷ us)
  local_is = or_else_none (local_form (sign (bytes "local") ∷ us))

  pub foreach_is : any_command (sign (bytes "foreach") ∷ us) ≡ foreach_form (sign (bytes "foreach") ∷ us)
  foreach_is = or_else_none (foreach_form (sign (bytes "foreach") ∷ us))

  pub filtereach_is : any_command (sign (bytes "filtereach") ∷ us) ≡ filtereach_form (sign (bytes "filtereach") ∷ us)
  filtereach_is = or_else_none (filtereach_form (sign (bytes "filtereach") ∷ us))

  -- the two commands that start with `set`
  pub set_is : (x : Name) → any_command (sign (bytes "set") ∷ ident x ∷ us) ≡ assign_form (bytes "=") set (ident x ∷ us)
  set_is x = or_else_none (assign_form (bytes "=") set (ident x ∷ us))

  pub set_delegation_is : (w : Text) → (w ≟ bytes "delegation") ≡ true → any_command (sign (bytes "set") ∷ sign w ∷ us) ≡ delegation_form set_delegation us
  set_delegation_is w q =
      ap (λ (v : Text). any_command (sign (bytes "set") ∷ sign v ∷ us)) (same_true w (bytes "delegation") q) ∙ or_else_none (delegation_form set_delegation us)

module _ (w : Text) (us : List Token) where
  pub principals_only :
      (w ≟ bytes "set") ≡ false
      → (w ≟ bytes "append") ≡ false
      → (w ≟ bytes "local") ≡ false
      → (w ≟ bytes "foreach") ≡ false
      → (w ≟ bytes "filtereach") ≡ false
      → any_command (sign w ∷ us) ≡ about_principals (sign w ∷ us)
  principals_only s a l f h = rw (s, a, l, f, h)
