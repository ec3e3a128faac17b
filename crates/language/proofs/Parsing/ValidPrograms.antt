-- What the parser lets through: programs whose names, strings and shape are valid.
use mathlib.Core.Bool.{Bool, true, false, ◌&&◌, not}
use mathlib.Core.List.{List, [], ◌∷◌}
use lib.ListN.{length}
use lib.Dec.{ltb}
use Rattle.language.specs.Text.{all}
use Rattle.language.specs.Identifiers.{is_string, is_identifier}
use Rattle.language.specs.Syntax as E
use Rattle.language.specs.Syntax.{Binding, Operand, name, dot, quoted, Term, nothing, Expr, term, let_in, Target, every, only, Command, create_principal, change_password, set, append_to, local, foreach, filtereach, set_delegation, delete_delegation, default_delegator, exit, return, Program}

abbrev pub valid_operand : Operand → Bool
valid_operand (name x) = is_identifier x
valid_operand (dot x y) = is_identifier x && is_identifier y
valid_operand (quoted t) = is_string t

abbrev pub valid_binding : Binding → Bool
valid_binding b = is_identifier b.label && valid_operand b.operand

abbrev pub valid_term : Term → Bool
valid_term (E.single o) = valid_operand o
valid_term nothing = true
valid_term (E.fields bs) = ltb 0 (length bs) && all valid_binding bs
valid_term (E.tolower o) = valid_operand o
valid_term (E.call f o p) = valid_operand o && valid_operand p
valid_term (E.compare c o p) = valid_operand o && valid_operand p

abbrev pub valid_expr : Expr → Bool
valid_expr (term t) = valid_term t
valid_expr (let_in x e f) = is_identifier x && valid_expr e && valid_expr f

abbrev pub valid_target : Target → Bool
valid_target every = true
valid_target (only x) = is_identifier x

abbrev pub valid_command : Command → Bool
valid_command (create_principal p t) = is_identifier p && is_string t
valid_command (change_password p t) = is_identifier p && is_string t
valid_command (set x e) = is_identifier x && valid_expr e
valid_command (append_to x e) = is_identifier x && valid_expr e
valid_command (local x e) = is_identifier x && valid_expr e
valid_command (foreach y x e) = is_identifier y && is_identifier x && valid_expr e
valid_command (filtereach y x e) = is_identifier y && is_identifier x && valid_expr e
valid_command (set_delegation t q r p) = valid_target t && is_identifier q && is_identifier p
valid_command (delete_delegation t q r p) = valid_target t && is_identifier q && is_identifier p
valid_command (default_delegator p) = is_identifier p
valid_command exit = true
valid_command (return e) = valid_expr e

abbrev pub is_ending : Command → Bool
is_ending (create_principal p t) = false
is_ending (change_password p t) = false
is_ending (set x e) = false
is_ending (append_to x e) = false
is_ending (local x e) = false
is_ending (foreach y x e) = false
is_ending (filtereach y x e) = false
is_ending (set_delegation t q r p) = false
is_ending (delete_delegation t q r p) = false
is_ending (default_delegator p) = false
is_ending exit = true
is_ending (return e) = true

-- the last command, and no other, is exit or return
abbrev pub ends_once : List Command → Bool
ends_once [] = false
ends_once (c ∷ []) = is_ending c
ends_once (c ∷ d ∷ rest) = not (is_ending c) && ends_once (d ∷ rest)

abbrev pub valid_program : Program → Bool
valid_program p = is_identifier p.sender && is_string p.password && (all valid_command p.commands && ends_once p.commands)
