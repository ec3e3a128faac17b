-- Document 01, "Program text", and requests M-100, M-104 and M-106: the grammar of one line, as readers of its tokens.
use Rattle.std.specs.Prelude.{ℕ, zero, suc, List, [], ◌∷◌, length}
use Prim.Native.String.{String}
use Rattle.std.proofs.Math.Option.{Option, none, some}
use Rattle.language.specs.Text.{Text, bytes, when◌then◌else◌, ◌≟◌, ◌or_else◌}
use Rattle.language.specs.Tokens.{Token, sign, ident, text, wrong}
use Rattle.language.specs.Syntax.{Name, Right, read, write, append, delegate, Operand, name, dot, quoted, Binding, Operation, add, sub, times, per, Function, split, concat, arithmetic, Comparison, equal, notequal, Term, single, nothing, fields, tolower, call, compare, Expr, term, let_in}
use Rattle.language.specs.Syntax.{Target, every, only, Command, create_principal, change_password, set, append_to, local, foreach, filtereach, set_delegation, delete_delegation, default_delegator, exit, return}

-- A reader takes what it reads from the front of the tokens.
abbrev pub Reader : Type 0 → Type 0
Reader A = List Token → Option (A × List Token)

abbrev pub then_read : {A B : Type 0} → Option (A × List Token) → (A → Reader B) → Option (B × List Token)
then_read none f = none
then_read (some r) f = f r.0 r.1

infixl 20 ◌>>=◌ ◌>>◌
infixr 15 ◌∣◌
abbrev pub ◌>>=◌ : {A B : Type 0} → Reader A → (A → Reader B) → Reader B
◌>>=◌ m f = λ ts. then_read (m ts) f

abbrev pub ◌>>◌ : {A B : Type 0} → Reader A → Reader B → Reader B
m >> n = m >>= λ _. n

abbrev pub give : {A : Type 0} → A → Reader A
give a = λ ts. some (a, ts)

-- The first of two readers that succeeds. No reading is lost by that: no two forms start alike (`set x` and `set delegation` part at
-- their second token, since a keyword is no name), and `x.y` is tried before `x`, after which no form allows a dot.
abbrev pub ◌∣◌ : {A : Type 0} → Reader A → Reader A → Reader A
m ∣ n = λ ts. m ts or_else n ts

-- a keyword or a mark, by its spelling
abbrev pub the_sign : Text → Reader (Unit {0})
the_sign s [] = none
the_sign s (sign w ∷ ts) = when w ≟ s then some (tt, ts) else none
the_sign s (ident w ∷ ts) = none
the_sign s (text w ∷ ts) = none
the_sign s (wrong ∷ ts) = none

abbrev pub the : String → Reader (Unit {0})
the s = the_sign (bytes s)

abbrev pub any_name : Reader Name
any_name [] = none
any_name (sign w ∷ ts) = none
any_name (ident w ∷ ts) = some (w, ts)
any_name (text w ∷ ts) = none
any_name (wrong ∷ ts) = none

abbrev pub any_string : Reader Text
any_string [] = none
any_string (sign w ∷ ts) = none
any_string (ident w ∷ ts) = none
any_string (text w ∷ ts) = some (w, ts)
any_string (wrong ∷ ts) = none

-- after the name x: a field of x, or x
abbrev pub field_or_variable : Name → Reader Operand
field_or_variable x = (do the "."; y ← any_name; give (dot x y)) ∣ give (name x)

abbrev pub any_operand : Reader Operand
any_operand = (do x ← any_name; field_or_variable x) ∣ (do s ← any_string; give (quoted s))

-- one to n fields, and the brace after them
abbrev pub any_fields : ℕ → Reader (List Binding)
any_fields zero = λ ts. none
any_fields (suc n) = do
  x ← any_name
  the "="
  v ← any_operand
  (do the "}"; give (record { label = x; operand = v } ∷ [])) ∣ (do the ","; rest ← any_fields n; give (record { label = x; operand = v } ∷ rest))

-- the operation on two prices that a keyword names
abbrev pub operation_of : Text → Option Operation
operation_of w =
    when w ≟ bytes "add" then some add
    else when w ≟ bytes "sub" then some sub
    else when w ≟ bytes "times" then some times
    else when w ≟ bytes "per" then some per
    else none

abbrev pub function_for : Option Operation → Option Function
function_for none = none
function_for (some o) = some (arithmetic o)

-- the function of two strings that a keyword names
abbrev pub function_of : Text → Option Function
function_of w =
    when w ≟ bytes "split" then some split
    else when w ≟ bytes "concat" then some concat
    else function_for (operation_of w)

abbrev pub ahead : {A : Type 0} → Option A → Reader A
ahead none ts = none
ahead (some a) ts = some (a, ts)

abbrev pub any_function : Reader Function
any_function [] = none
any_function (sign w ∷ ts) = ahead (function_of w) ts
any_function (ident w ∷ ts) = none
any_function (text w ∷ ts) = none
any_function (wrong ∷ ts) = none

-- the comparison that a keyword names
abbrev pub comparison_of : Text → Option Comparison
comparison_of w =
    when w ≟ bytes "equal" then some equal
    else when w ≟ bytes "notequal" then some notequal
    else none

abbrev pub any_comparison : Reader Comparison
any_comparison [] = none
any_comparison (sign w ∷ ts) = ahead (comparison_of w) ts
any_comparison (ident w ∷ ts) = none
any_comparison (text w ∷ ts) = none
any_comparison (wrong ∷ ts) = none

-- a function or a comparison, and as many values as it takes
abbrev pub any_call : Reader Term
any_call =
    (do the "tolower"; the "("; v ← any_operand; the ")"; give (tolower v))
    ∣ (do f ← any_function; the "("; v ← any_operand; the ","; w ← any_operand; the ")"; give (call f v w))
    ∣ (do c ← any_comparison; the "("; v ← any_operand; the ","; w ← any_operand; the ")"; give (compare c v w))

abbrev pub any_term : Reader Term
any_term =
    (do the "[]"; give nothing)
    ∣ (do the "{"; fs ← (λ ts. any_fields (length ts) ts); give (fields fs))
    ∣ any_call
    ∣ (do v ← any_operand; give (single v))

-- an expression with less than n lets inside each other
abbrev pub any_lets : ℕ → Reader Expr
any_lets zero = λ ts. none
any_lets (suc n) =
    (do the "let"; x ← any_name; the "="; e ← any_lets n; the "in"; f ← any_lets n; give (let_in x e f))
    ∣ (do t ← any_term; give (term t))

abbrev pub any_expression : Reader Expr
any_expression = λ ts. any_lets (length ts) ts

abbrev pub any_right : Reader Right
any_right =
    (do the "read"; give read)
    ∣ (do the "write"; give write)
    ∣ (do the "append"; give append)
    ∣ (do the "delegate"; give delegate)

abbrev pub any_target : Reader Target
any_target =
    (do the "all"; give every)
    ∣ (do x ← any_name; give (only x))

abbrev pub create_form : Reader Command
create_form = do the "create"; the "principal"; p ← any_name; s ← any_string; give (create_principal p s)

abbrev pub change_form : Reader Command
change_form = do the "change"; the "password"; p ← any_name; s ← any_string; give (change_password p s)

abbrev pub set_form : Reader Command
set_form = do the "set"; x ← any_name; the "="; e ← any_expression; give (set x e)

abbrev pub append_form : Reader Command
append_form = do the "append"; the "to"; x ← any_name; the "with"; e ← any_expression; give (append_to x e)

abbrev pub local_form : Reader Command
local_form = do the "local"; x ← any_name; the "="; e ← any_expression; give (local x e)

abbrev pub foreach_form : Reader Command
foreach_form = do the "foreach"; y ← any_name; the "in"; x ← any_name; the "replacewith"; e ← any_expression; give (foreach y x e)

abbrev pub filtereach_form : Reader Command
filtereach_form = do the "filtereach"; y ← any_name; the "in"; x ← any_name; the "with"; e ← any_expression; give (filtereach y x e)

abbrev pub set_delegation_form : Reader Command
set_delegation_form = do the "set"; the "delegation"; t ← any_target; q ← any_name; r ← any_right; the "->"; p ← any_name; give (set_delegation t q r p)

abbrev pub delete_delegation_form : Reader Command
delete_delegation_form = do the "delete"; the "delegation"; t ← any_target; q ← any_name; r ← any_right; the "->"; p ← any_name; give (delete_delegation t q r p)

abbrev pub delegator_form : Reader Command
delegator_form = do the "default"; the "delegator"; the "="; p ← any_name; give (default_delegator p)

abbrev pub any_command : Reader Command
any_command =
    create_form ∣ change_form ∣ set_form ∣ append_form ∣ local_form ∣ foreach_form ∣ filtereach_form ∣ set_delegation_form ∣ delete_delegation_form ∣ delegator_form

abbrev pub any_ending : Reader Command
any_ending =
    (do the "exit"; give exit)
    ∣ (do the "return"; e ← any_expression; give (return e))

pub record Opening : Type 0 where
  pub sender : Name
  pub password : Text

abbrev pub any_login : Reader Opening
any_login = do
  the "as"
  the "principal"
  p ← any_name
  the "password"
  s ← any_string
  the "do"
  give (record { sender = p; password = s })

abbrev pub spent : {A : Type 0} → Option (A × List Token) → Option A
spent none = none
spent (some (a, [])) = some a
spent (some (a, t ∷ ts)) = none

-- what a reader makes of a whole line
abbrev pub whole : {A : Type 0} → Reader A → List Token → Option A
whole m ts = spent (m ts)
