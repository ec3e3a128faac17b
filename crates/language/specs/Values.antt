-- Document 01, "Values": a running program, the values of its names, and what operands and records come to, whatever the rights.
use Rattle.std.specs.Prelude.{Bool, ◌||◌, List, [], ◌∷◌, ◌++◌}
use Rattle.std.proofs.Math.Option.{Option, none, some}
use Rattle.language.specs.Text.{Text, when◌then◌else◌, ◌≟◌, ◌>>=◌, ◌or_else◌, present, each, distinct}
use Rattle.language.specs.Syntax.{Name, Operand, name, dot, quoted, Binding}
use Rattle.language.specs.State as S
use Rattle.language.specs.State.{Field, Element, Value, list, Variable, Store, named, value_in}

-- a running program: the store, who sent it, and the local variables
pub record Session : Type 0 where
  pub store : Store
  pub sender : Name
  pub locals : List Variable

-- ---- names

abbrev pub is_shared : Session → Name → Bool
is_shared s x = present (value_in s.store.variables x)

abbrev pub is_local : Session → Name → Bool
is_local s x = present (value_in s.locals x)

abbrev pub is_defined : Session → Name → Bool
is_defined s x = is_local s x || is_shared s x

abbrev pub is_principal : Session → Name → Bool
is_principal s p = present (named s.store.principals p)

abbrev pub lookup : Session → Name → Option Value
lookup s x = value_in s.locals x or_else value_in s.store.variables x

-- x stands for v, last among the locals
abbrev pub with_name : Session → Name → Value → Session
with_name s x v = record { store = s.store; sender = s.sender; locals = s.locals ++ (record { name = x; value = v } ∷ []) }

-- ---- operands and records: the value, where there is one

abbrev pub as_fields : Value → Option (List Field)
as_fields (S.single (S.string t)) = none
as_fields (S.single (S.fields fs)) = some fs
as_fields (list es) = none

abbrev pub as_string : Value → Option Text
as_string (S.single (S.string t)) = some t
as_string (S.single (S.fields fs)) = none
as_string (list es) = none

abbrev pub as_list : Value → Option (List Element)
as_list (S.single e) = none
as_list (list es) = some es

abbrev pub as_element : Value → Option Element
as_element (S.single e) = some e
as_element (list es) = none

abbrev pub text_of : List Field → Name → Option Text
text_of [] y = none
text_of (f ∷ rest) y = when f.label ≟ y then some f.text else text_of rest y

abbrev pub operand_value : Session → Operand → Option Value
operand_value s (name x) = lookup s x
operand_value s (dot x y) = do
  v ← lookup s x
  fs ← as_fields v
  t ← text_of fs y
  some (S.single (S.string t))
operand_value s (quoted t) = some (S.single (S.string t))

abbrev pub field_value : Session → Binding → Option Field
field_value s b = do
  v ← operand_value s b.operand
  t ← as_string v
  some (record { label = b.label; text = t })

-- the record that bindings make: no label twice
abbrev pub record_value : Session → List Binding → Option Value
record_value s bs = do
  fs ← each (field_value s) bs
  when distinct (S.labels fs) then some (S.single (S.fields fs)) else none

-- the elements of x, where that is a list
abbrev pub list_of : Session → Name → Option (List Element)
list_of s x = lookup s x >>= as_list
