-- Document 01, "Program text", and requests M-100, M-104 and M-106: the abstract syntax of expressions, commands and programs.
use Rattle.std.specs.Prelude.{Bool, true, false, List, [], ◌∷◌}
use Rattle.language.specs.Text.{Text}

abbrev pub Name : Type 0
Name = Text

pub data Right : Type 0 where
  read write append delegate : Right

-- the order in which rights are handed out
abbrev pub rights : List Right
rights = read ∷ write ∷ append ∷ delegate ∷ []

abbrev pub same : Right → Right → Bool
same read read = true
same read write = false
same read append = false
same read delegate = false
same write read = false
same write write = true
same write append = false
same write delegate = false
same append read = false
same append write = false
same append append = true
same append delegate = false
same delegate read = false
same delegate write = false
same delegate append = false
same delegate delegate = true

-- what the grammar calls a value: x, x.y or a string
pub data Operand : Type 0 where
  name : Name → Operand
  dot : Name → Name → Operand
  quoted : Text → Operand

pub record Binding : Type 0 where
  pub label : Name
  pub operand : Operand

-- the operations on two prices (request M-104)
pub data Operation : Type 0 where
  add sub times per : Operation

-- the functions of two strings (requests M-100 and M-104)
pub data Function : Type 0 where
  split concat : Function
  arithmetic : Operation → Function

-- whether two values are the same (request M-106)
pub data Comparison : Type 0 where
  equal notequal : Comparison

-- an expression without `let`
pub data Term : Type 0 where
  single : Operand → Term
  nothing : Term
  fields : List Binding → Term
  tolower : Operand → Term
  call : Function → Operand → Operand → Term
  compare : Comparison → Operand → Operand → Term

-- a term, or `let x = e in f` (request M-106)
pub data Expr : Type 0 where
  term : Term → Expr
  let_in : Name → Expr → Expr → Expr

pub data Target : Type 0 where
  every : Target
  only : Name → Target

pub data Command : Type 0 where
  create_principal : Name → Text → Command
  change_password : Name → Text → Command
  set : Name → Expr → Command
  append_to : Name → Expr → Command
  local : Name → Expr → Command
  foreach : Name → Name → Expr → Command
  filtereach : Name → Name → Expr → Command
  set_delegation : Target → Name → Right → Name → Command
  delete_delegation : Target → Name → Right → Name → Command
  default_delegator : Name → Command
  exit : Command
  return : Expr → Command

pub record Program : Type 0 where
  pub sender : Name
  pub password : Text
  pub commands : List Command
