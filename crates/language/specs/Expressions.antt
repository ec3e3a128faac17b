-- Document 01, "Values", and requests M-100 and M-106: what an expression comes to, whatever the rights, and which names it evaluates.
use Rattle.std.specs.Prelude.{ℕ, ◌+◌, Bool, not, List, [], ◌∷◌, ◌++◌, ltb}
use Rattle.language.specs.Text.{when◌then◌else◌, any}
use Rattle.language.specs.Syntax.{Name, Operand, name, dot, quoted, Binding, Term, single, nothing, fields, tolower, call, compare, Expr, term, let_in}
use Rattle.language.specs.State.{Value, list}
use Rattle.language.specs.Weight.{limit, value_weight, variable_weight}
use Rattle.language.specs.Outcomes.{Outcome, gives, fails, fills, ◌>>=◌, ◌>>◌, from, provided}
use Rattle.language.specs.Values.{Session, is_defined, with_name, operand_value, record_value}
use Rattle.language.specs.Functions.{lowercase, apply, compared}

-- ---- terms

abbrev pub is_heavy : Value → Bool
is_heavy v = ltb limit (value_weight v)

-- a result; a function's arguments weigh like any value
abbrev pub weighed : List Value → Value → Outcome Value
weighed arguments v = when any is_heavy (v ∷ arguments) then fills else gives v

abbrev pub term_value : Session → Term → Outcome Value
term_value s (single o) = do
  v ← from (operand_value s o)
  weighed [] v
term_value s nothing = gives (list [])
term_value s (fields bs) = do
  v ← from (record_value s bs)
  weighed [] v
term_value s (tolower o) = do
  v ← from (operand_value s o)
  r ← from (lowercase v)
  weighed (v ∷ []) r
term_value s (call f o p) = do
  v ← from (operand_value s o)
  w ← from (operand_value s p)
  r ← from (apply f v w)
  weighed (v ∷ w ∷ []) r
term_value s (compare c o p) = do
  v ← from (operand_value s o)
  w ← from (operand_value s p)
  r ← from (compared c v w)
  weighed (v ∷ w ∷ []) r

-- the names that a term evaluates
abbrev pub operand_names : Operand → List Name
operand_names (name x) = x ∷ []
operand_names (dot x y) = x ∷ []
operand_names (quoted t) = []

abbrev pub binding_names : List Binding → List Name
binding_names [] = []
binding_names (b ∷ rest) = operand_names b.operand ++ binding_names rest

abbrev pub term_names : Term → List Name
term_names (single o) = operand_names o
term_names nothing = []
term_names (fields bs) = binding_names bs
term_names (tolower o) = operand_names o
term_names (call f o p) = operand_names o ++ operand_names p
term_names (compare c o p) = operand_names o ++ operand_names p

-- ---- let (request M-106)

-- a session in which names of `let` live, last among its locals; these names weigh `bound`, apart from the other locals
pub record Environment : Type 0 where
  pub session : Session
  pub bound : ℕ

-- none lives
abbrev pub unbound : Session → Environment
unbound s = record { session = s; bound = 0 }

-- what the names weigh that live with x besides
abbrev pub bound_with : Environment → Name → Value → ℕ
bound_with env x v = env.bound + variable_weight (record { name = x; value = v })

-- x lives too, unless they weigh too much
abbrev pub bind : Environment → Name → Value → Outcome Environment
bind env x v =
    when ltb limit (bound_with env x v) then fills else gives (record { session = with_name env.session x v; bound = bound_with env x v })

-- where the second expression is tried: x is undefined, the first comes to a value, and x may hold it. The name is asked before the first's
-- outcome, since FAILED goes before FULL; what the first evaluates counts in any case (`names_within`), since DENIED goes before both.
abbrev pub inside : Environment → Name → Outcome Value → Outcome Environment
inside env x first = do
  provided (not (is_defined env.session x))
  v ← first
  bind env x v

abbrev pub value_within : Environment → Expr → Outcome Value
value_within env (term t) = term_value env.session t
value_within env (let_in x e f) = do
  inner ← inside env x (value_within env e)
  value_within inner f

-- the names evaluated in an environment, where there is one
abbrev pub tried : Outcome Environment → (Environment → List Name) → List Name
tried (gives env) f = f env
tried fails f = []
tried fills f = []

-- whatever the rights: behind a name that may not be read the command is DENIED, whether or not the rest is tried
abbrev pub names_within : Environment → Expr → List Name
names_within env (term t) = term_names t
names_within env (let_in x e f) = names_within env e ++ tried (inside env x (value_within env e)) (λ inner. names_within inner f)

-- ---- expressions of a session

abbrev pub value : Session → Expr → Outcome Value
value s e = value_within (unbound s) e

-- the names that an expression evaluates
abbrev pub names : Session → Expr → List Name
names s e = names_within (unbound s) e
