-- What values, fields, functions and expressions that were read mean in the terms of the language's grammar, and where they stand.
use Rattle.std.specs.Prelude.{ℕ, ◌≤◌, ◌<◌, Bool, true, false, List, [], ◌∷◌, T, length, drop, ◌≡◌, Some, None}
use Rattle.std.specs.Prelude as Code
use Rattle.std.proofs.Math.Option.{Option, none, some}
use Rattle.language.specs.Text.{Text, ◌>>=◌, present}
use Rattle.language.specs.Tokens.{Token, lex}
use Rattle.language.specs.Syntax as Syntax
use Rattle.language.specs.Grammar.{Reader, then_read, the, any_name, any_fields, any_expression}
use Rattle.language.proofs.Parsing.ValidPrograms.{valid_term, valid_expr}
use Rattle.text.specs.Meaning.{part, Within}
use Rattle.syntax.specs.declared.Operand.{Operand}
use Rattle.syntax.specs.declared.Operand.TheVariants.{Name, Field, Quoted}
use Rattle.syntax.specs.declared.Field as Fields
use Rattle.syntax.specs.declared.Function.{Function}
use Rattle.syntax.specs.declared.Function.TheVariants.{Split, Concat, Arithmetic}
use Rattle.syntax.specs.declared.Operation.{Operation}
use Rattle.syntax.specs.declared.Operation.TheVariants.{Add, Sub, Times, Per}
use Rattle.syntax.specs.declared.Comparison.{Comparison}
use Rattle.syntax.specs.declared.Comparison.TheVariants.{Equal, NotEqual}
use Rattle.syntax.specs.declared.Term.{Term}
use Rattle.syntax.specs.declared.Term.TheVariants.{Single, Empty, Record, Lower, Call, Compare}
use Rattle.syntax.specs.declared.Expr.{Expr}
use Rattle.syntax.specs.declared.Expr.TheVariants as ExprOf

-- ---- values
abbrev pub operand_meant : Text → Operand → Syntax.Operand
operand_meant t (Name x) = Syntax.name (part t x)
operand_meant t (Field x y) = Syntax.dot (part t x) (part t y)
operand_meant t (Quoted s) = Syntax.quoted (part t s)

abbrev pub OperandWithin : Text → Operand → Type 0
OperandWithin t (Name x) = Within t x
OperandWithin t (Field x y) = Within t x × Within t y
OperandWithin t (Quoted s) = Within t s

-- a dot and the label of a field
abbrev pub dot_label : Reader Text
dot_label ts = then_read (the "." ts) (λ _. any_name)

-- ---- fields
-- the fields of a record that stand from place `at` on, and the tokens past its brace
abbrev pub record_at : Text → ℕ → Option (List Syntax.Binding × List Token)
record_at t at = any_fields (length (lex (drop at t))) (lex (drop at t))

abbrev pub skipped : Option (List Syntax.Binding × List Token) → Option (Unit {0} × List Token)
skipped none = none
skipped (some r) = some (tt, r.1)

-- a field in front of others
abbrev pub before : Syntax.Binding → Option (List Syntax.Binding × List Token) → Option (List Syntax.Binding × List Token)
before b none = none
before b (some r) = some (b ∷ r.0, r.1)

-- the field b, and the others where there are more of them
abbrev pub with_field : Text → Syntax.Binding → Bool → ℕ → Option (List Syntax.Binding × List Token)
with_field t b true n = before b (record_at t n)
with_field t b false n = some (b ∷ [], lex (drop n t))

abbrev pub field_meant : Text → Code.Option Fields.Field → ℕ → Option (List Syntax.Binding × List Token)
field_meant t (Some f) n = with_field t (record { label = part t f.label; operand = operand_meant t f.value }) f.more n
field_meant t None n = none

abbrev pub FieldWithin : Text → Fields.Field → Type 0
FieldWithin t f = Within t f.label × OperandWithin t f.value

-- ---- functions
abbrev pub operation_meant : Operation → Syntax.Operation
operation_meant Add = Syntax.add
operation_meant Sub = Syntax.sub
operation_meant Times = Syntax.times
operation_meant Per = Syntax.per

abbrev pub function_meant : Function → Syntax.Function
function_meant Split = Syntax.split
function_meant Concat = Syntax.concat
function_meant (Arithmetic o) = Syntax.arithmetic (operation_meant o)

abbrev pub comparison_meant : Comparison → Syntax.Comparison
comparison_meant Equal = Syntax.equal
comparison_meant NotEqual = Syntax.notequal

-- ---- terms
abbrev pub term_meant : Text → Term → Option Syntax.Term
term_meant t (Single v) = some (Syntax.single (operand_meant t v))
term_meant t Empty = some Syntax.nothing
term_meant t (Record p) = record_at t p >>= λ r. some (Syntax.fields r.0)
term_meant t (Lower v) = some (Syntax.tolower (operand_meant t v))
term_meant t (Call f v w) = some (Syntax.call (function_meant f) (operand_meant t v) (operand_meant t w))
term_meant t (Compare c v w) = some (Syntax.compare (comparison_meant c) (operand_meant t v) (operand_meant t w))

-- every place in a term is within the text, and a record has its fields
abbrev pub TermWithin : Text → Term → Type 0
TermWithin t (Single v) = OperandWithin t v
TermWithin t Empty = Unit
TermWithin t (Record p) = (p ≤ length t) × (present (record_at t p) ≡ true)
TermWithin t (Lower v) = OperandWithin t v
TermWithin t (Call f v w) = OperandWithin t v × OperandWithin t w
TermWithin t (Compare c v w) = OperandWithin t v × OperandWithin t w

abbrev pub term_read_meant : Text → Code.Option Term → ℕ → Option (Syntax.Term × List Token)
term_read_meant t (Some e) n = term_meant t e >>= λ x. some (x, lex (drop n t))
term_read_meant t None n = none

-- a term whose first word was read before place `at`
abbrev pub TermFollows : Text → ℕ → Code.Option Term → ℕ → Type 0
TermFollows t at (Some e) n = TermWithin t e × (at ≤ n) × (n ≤ length t)
TermFollows t at None n = Unit

-- ---- expressions
-- the expression that stands from place `at` on, and the tokens past it
abbrev pub expression_at : Text → ℕ → Option (Syntax.Expr × List Token)
expression_at t at = any_expression (lex (drop at t))

abbrev pub expr_meant : Text → Expr → Option Syntax.Expr
expr_meant t (ExprOf.Term e) = term_meant t e >>= λ x. some (Syntax.term x)
expr_meant t (ExprOf.Let p) = expression_at t p >>= λ r. some r.0

abbrev pub ExprWithin : Text → Expr → Type 0
ExprWithin t (ExprOf.Term e) = TermWithin t e
ExprWithin t (ExprOf.Let p) = (p ≤ length t) × (present (expression_at t p) ≡ true)

abbrev pub expr_read_meant : Text → Code.Option Expr → ℕ → Option (Syntax.Expr × List Token)
expr_read_meant t (Some e) n = expr_meant t e >>= λ x. some (x, lex (drop n t))
expr_read_meant t None n = none

-- ---- what a text says
-- the program's text says a valid term at these places
pub record SomeTerm (t : Text) (e : Term) : Type 0 where
  pub term : Syntax.Term
  pub meant : term_meant t e ≡ some term
  pub within : TermWithin t e
  pub is_valid : T (valid_term term)

-- a valid expression
pub record SomeExpr (t : Text) (e : Expr) : Type 0 where
  pub expression : Syntax.Expr
  pub meant : expr_meant t e ≡ some expression
  pub within : ExprWithin t e
  pub is_valid : T (valid_expr expression)

-- the program's text says a valid record from place `at` on, past its brace
pub record SomeRecord (t : Text) (at : ℕ) : Type 0 where
  pub bindings : List Syntax.Binding
  pub others : List Token
  pub here : record_at t at ≡ some (bindings, others)
  pub within : at ≤ length t
  pub is_valid : T (valid_term (Syntax.fields bindings))
