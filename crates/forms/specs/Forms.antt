-- What the readers that several commands share mean in the terms of document 01's grammar, and where their parts stand.
use Rattle.std.specs.Prelude.{ℕ, List, drop, Some, None}
use Rattle.std.specs.Prelude as Code
use Rattle.std.proofs.Math.Option.{Option, none, some}
use Rattle.language.specs.Text as Options
use Rattle.language.specs.Text.{Text}
use Rattle.language.specs.Tokens.{Token, lex}
use Rattle.language.specs.Syntax as Syntax
use Rattle.language.specs.Grammar.{Reader, ◌>>=◌, ◌>>◌, give, the_sign, the, any_name, any_string, any_expression, any_target, any_right}
use Rattle.text.specs.Meaning.{part, Within}
use Rattle.forms.specs.declared.Account.{Account}
use Rattle.forms.specs.declared.Assign.{Assign}
use Rattle.forms.specs.declared.Each.{Each}
use Rattle.forms.specs.declared.Delegation.{Delegation}
use Rattle.forms.specs.declared.Right.{Right}
use Rattle.forms.specs.declared.Right.TheVariants as RightIs
use Rattle.forms.specs.declared.Target.{Target}
use Rattle.forms.specs.declared.Target.TheVariants as TargetIs
use Rattle.syntax.specs.Values.{expr_meant, ExprWithin}

-- ---- rights and targets
abbrev pub right_meant : Right → Syntax.Right
right_meant RightIs.Read = Syntax.read
right_meant RightIs.Write = Syntax.write
right_meant RightIs.Append = Syntax.append
right_meant RightIs.Delegate = Syntax.delegate

abbrev pub right_of : Text → Right → Syntax.Right
right_of t r = right_meant r

abbrev pub target_meant : Text → Target → Syntax.Target
target_meant t TargetIs.All = Syntax.every
target_meant t (TargetIs.Only x) = Syntax.only (part t x)

abbrev pub TargetWithin : Text → Target → Type 0
TargetWithin t TargetIs.All = Unit
TargetWithin t (TargetIs.Only x) = Within t x

-- ---- `w p s`, of which k makes a command
abbrev pub account_form : Text → (Syntax.Name → Text → Syntax.Command) → Reader Syntax.Command
account_form w k = do the_sign w; p ← any_name; s ← any_string; give (k p s)

abbrev pub account_meant : (Syntax.Name → Text → Syntax.Command) → Text → Account → Syntax.Command
account_meant k t a = k (part t a.name) (part t a.string)

abbrev pub AccountWithin : Text → Account → Type 0
AccountWithin t a = Within t a.name × Within t a.string

-- ---- `w e`
abbrev pub value_form : Text → Reader Syntax.Expr
value_form w = do the_sign w; any_expression

-- ---- `x w e`, of which k makes a command
abbrev pub assign_form : Text → (Syntax.Name → Syntax.Expr → Syntax.Command) → Reader Syntax.Command
assign_form w k = do x ← any_name; the_sign w; e ← any_expression; give (k x e)

-- what k makes of an expression, and the tokens that follow
abbrev pub of_expr : Option Syntax.Expr → (Syntax.Expr → Syntax.Command) → List Token → Option (Syntax.Command × List Token)
of_expr none k ts = none
of_expr (some v) k ts = some (k v, ts)

abbrev pub assign_meant : Text → (Syntax.Name → Syntax.Expr → Syntax.Command) → Code.Option Assign → ℕ → Option (Syntax.Command × List Token)
assign_meant t k (Some a) n = of_expr (expr_meant t a.value) (k (part t a.name)) (lex (drop n t))
assign_meant t k None n = none

abbrev pub AssignWithin : Text → Assign → Type 0
AssignWithin t a = Within t a.name × ExprWithin t a.value

-- ---- `y in x w e`, of which k makes a command
abbrev pub each_form : Text → (Syntax.Name → Syntax.Name → Syntax.Expr → Syntax.Command) → Reader Syntax.Command
each_form w k = do y ← any_name; the "in"; x ← any_name; the_sign w; e ← any_expression; give (k y x e)

abbrev pub each_meant : Text → (Syntax.Name → Syntax.Name → Syntax.Expr → Syntax.Command) → Code.Option Each → ℕ → Option (Syntax.Command × List Token)
each_meant t k (Some e) n = of_expr (expr_meant t e.value) (k (part t e.element) (part t e.list)) (lex (drop n t))
each_meant t k None n = none

abbrev pub EachWithin : Text → Each → Type 0
EachWithin t e = Within t e.element × Within t e.list × ExprWithin t e.value

-- ---- `t q right -> p`, of which k makes a command
abbrev pub delegation_form : (Syntax.Target → Syntax.Name → Syntax.Right → Syntax.Name → Syntax.Command) → Reader Syntax.Command
delegation_form k = do t ← any_target; q ← any_name; r ← any_right; the "->"; p ← any_name; give (k t q r p)

abbrev pub delegation_meant : (Syntax.Target → Syntax.Name → Syntax.Right → Syntax.Name → Syntax.Command) → Text → Delegation → Syntax.Command
delegation_meant k t d = k (target_meant t d.target) (part t d.from) (right_meant d.right) (part t d.to)

abbrev pub DelegationWithin : Text → Delegation → Type 0
DelegationWithin t d = TargetWithin t d.target × Within t d.from × Within t d.to
