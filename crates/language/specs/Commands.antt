-- Document 01, "Commands", and request M-106 (filtereach, and which names are evaluated).
--
-- Three definitions judge a command, each by itself, so that no order of evaluation enters:
-- `reserved` and `needs` say who may send it (DENIED); `effect` what it does, where it can be done (else FAILED) and no value on the way
-- weighs too much (else FULL); and `heavy` whether the session after it does (FULL). `step` asks them in that order.
use Rattle.std.specs.Prelude.{ℕ, ◌+◌, Bool, true, false, ◌&&◌, ◌||◌, not, List, [], ◌∷◌, ◌++◌, map, ltb}
use Prim.Native.String.{String}
use Rattle.std.proofs.Math.Option.{Option, none, some}
use Rattle.language.specs.Text.{Text, when◌then◌else◌, ◌≟◌, any, all, keep, sum}
use Rattle.language.specs.Syntax.{Name, Right, read, write, append, delegate, rights, Expr, Target, every, only, Command, create_principal, change_password, set, append_to, local, foreach, filtereach, set_delegation, delete_delegation, default_delegator, exit, return}
use Rattle.language.specs.State as S
use Rattle.language.specs.State.{Element, Value, list, Principal, Variable, Assertion, Store, admin, put, enter, withdraw}
use Rattle.language.specs.Weight.{limit, variable_weight, store_weight}
use Rattle.language.specs.Chains.{has}
use Rattle.language.specs.Outcomes.{Outcome, gives, fails, fills, ◌>>=◌, ◌>>◌, from, provided, each_of}
use Rattle.language.specs.Values.{Session, is_shared, is_local, is_defined, is_principal, with_name, as_element, list_of}
use Rattle.language.specs.Expressions.{value, names}
use Rattle.language.specs.Output.{status, returning}

-- ---- who may send a command

-- A command needs that `holder` has one of the rights `one_of` on a shared variable.
pub record Need : Type 0 where
  pub holder : Name
  pub one_of : List Right
  pub variable : Name

-- the sender needs one of these rights on x, where that is a shared variable
abbrev pub need : Session → List Right → Name → List Need
need s rs x = when is_shared s x then record { holder = s.sender; one_of = rs; variable = x } ∷ [] else []

-- the elements that foreach and filtereach go through: x is a list, and y is undefined
abbrev pub elements : Session → Name → Name → Option (List Element)
elements s y x = when is_defined s y then none else list_of s x

-- y stands for an element, last among the locals
abbrev pub with_element : Session → Name → Element → Session
with_element s y a = with_name s y (S.single a)

-- the names that foreach and filtereach evaluate: those of the expression, for each element
abbrev pub names_for_each : Session → Name → Expr → List Element → List Name
names_for_each s y e [] = []
names_for_each s y e (a ∷ rest) = names (with_element s y a) e ++ names_for_each s y e rest

abbrev pub names_over : Session → Name → Expr → Option (List Element) → List Name
names_over s y e none = []
names_over s y e (some es) = names_for_each s y e es

-- the names that a command evaluates
abbrev pub evaluated : Session → Command → List Name
evaluated s (create_principal p t) = []
evaluated s (change_password p t) = []
evaluated s (set x e) = names s e
evaluated s (append_to x e) = names s e
evaluated s (local x e) = names s e
evaluated s (foreach y x e) = names_over s y e (elements s y x)
evaluated s (filtereach y x e) = names_over s y e (elements s y x)
evaluated s (set_delegation t q r p) = []
evaluated s (delete_delegation t q r p) = []
evaluated s (default_delegator p) = []
evaluated s exit = []
evaluated s (return e) = names s e

-- what the rule of a command asks
abbrev pub ruled : Session → Command → List Need
ruled s (create_principal p t) = []
ruled s (change_password p t) = []
ruled s (set x e) = need s (write ∷ []) x
ruled s (append_to x e) = need s (write ∷ append ∷ []) x
ruled s (local x e) = []
ruled s (foreach y x e) = need s (read ∷ []) x ++ need s (write ∷ []) x
ruled s (filtereach y x e) = need s (read ∷ []) x ++ need s (write ∷ []) x
ruled s (set_delegation every q r p) = []
ruled s (set_delegation (only x) q r p) =
    when is_principal s q && is_shared s x then record { holder = q; one_of = delegate ∷ []; variable = x } ∷ [] else []
ruled s (delete_delegation every q r p) = []
ruled s (delete_delegation (only x) q r p) =
    when (s.sender ≟ q) && not (s.sender ≟ p) && not (s.sender ≟ admin) then need s (delegate ∷ []) x else []
ruled s (default_delegator p) = []
ruled s exit = []
ruled s (return e) = []

-- read on each shared name evaluated
abbrev pub reads : Session → List Name → List Need
reads s [] = []
reads s (x ∷ rest) = need s (read ∷ []) x ++ reads s rest

abbrev pub needs : Session → Command → List Need
needs s c = ruled s c ++ reads s (evaluated s c)

abbrev pub met : Session → Need → Bool
met s n = any (λ r. has s.store r n.variable n.holder) n.one_of

-- the sender is none of these
abbrev pub is_none : Session → List Name → Bool
is_none s ps = all (λ p. not (s.sender ≟ p)) ps

-- reserved to others, whatever the rights
abbrev pub reserved : Session → Command → Bool
reserved s (create_principal p t) = is_none s (admin ∷ [])
reserved s (change_password p t) = is_none s (admin ∷ p ∷ [])
reserved s (set x e) = false
reserved s (append_to x e) = false
reserved s (local x e) = false
reserved s (foreach y x e) = false
reserved s (filtereach y x e) = false
reserved s (set_delegation t q r p) = is_none s (admin ∷ q ∷ [])
reserved s (delete_delegation every q r p) = is_none s (admin ∷ q ∷ [])
reserved s (delete_delegation (only x) q r p) = is_none s (admin ∷ q ∷ p ∷ [])
reserved s (default_delegator p) = is_none s (admin ∷ [])
reserved s exit = is_none s (admin ∷ [])
reserved s (return e) = false

abbrev pub denied : Session → Command → Bool
denied s c = reserved s c || any (λ n. not (met s n)) (needs s c)

-- ---- what a command does

abbrev pub with_store : Session → Store → Session
with_store s t = record { store = t; sender = s.sender; locals = s.locals }

abbrev pub with_locals : Session → List Variable → Session
with_locals s l = record { store = s.store; sender = s.sender; locals = l }

abbrev pub with_principals : Store → List Principal → Store
with_principals s ps = record { is_open = s.is_open; principals = ps; delegator = s.delegator; variables = s.variables; assertions = s.assertions }

abbrev pub with_delegator : Store → Name → Store
with_delegator s p = record { is_open = s.is_open; principals = s.principals; delegator = p; variables = s.variables; assertions = s.assertions }

abbrev pub with_variables : Store → List Variable → Store
with_variables s vs = record { is_open = s.is_open; principals = s.principals; delegator = s.delegator; variables = vs; assertions = s.assertions }

abbrev pub with_assertions : Store → List Assertion → Store
with_assertions s l = record { is_open = s.is_open; principals = s.principals; delegator = s.delegator; variables = s.variables; assertions = l }

abbrev pub closed : Store → Store
closed s = record { is_open = false; principals = s.principals; delegator = s.delegator; variables = s.variables; assertions = s.assertions }

-- the assertions `x q right -> p` for each of some variables
abbrev pub assertions_on : List Name → Name → Right → Name → List Assertion
assertions_on xs q r p = map (λ x. record { variable = x; from = q; right = r; to = p }) xs

abbrev pub entering : List Assertion → List Assertion → List Assertion
entering standing [] = standing
entering standing (a ∷ rest) = entering (enter standing a) rest

abbrev pub withdrawing : List Assertion → List Assertion → List Assertion
withdrawing standing [] = standing
withdrawing standing (a ∷ rest) = withdrawing (withdraw standing a) rest

abbrev pub enter_all : Store → List Assertion → Store
enter_all s l = with_assertions s (entering s.assertions l)

abbrev pub withdraw_all : Store → List Assertion → Store
withdraw_all s l = with_assertions s (withdrawing s.assertions l)

-- what `all` stands for: the shared variables on which q has delegate, in their order
abbrev pub delegable : Store → Name → List Name
delegable s q = keep (λ x. has s delegate x q) (map (λ v. v.name) s.variables)

abbrev pub targets : Store → Target → Name → List Name
targets s every q = delegable s q
targets s (only x) q = x ∷ []

-- for each right what `set delegation all` from q to p enters, after what was entered before
abbrev pub delegations : List Right → Store → Name → Name → List Assertion
delegations [] s q p = []
delegations (r ∷ rest) s q p =
    assertions_on (delegable s q) q r p ++ delegations rest (enter_all s (assertions_on (delegable s q) q r p)) q p

abbrev pub with_principal : Store → Name → Text → Store
with_principal s p t = with_principals s (s.principals ++ (record { name = p; password = some t; count = 0 } ∷ []))

abbrev pub created : Store → Name → Text → Store
created s p t = enter_all (with_principal s p t) (delegations rights (with_principal s p t) s.delegator p)

-- p's password is t
abbrev pub changed : Name → Text → Principal → Principal
changed p t k = record { name = k.name; password = when k.name ≟ p then some t else k.password; count = k.count }

-- admin delegates all four rights on a new variable to the sender, unless that is admin
abbrev pub granted : Session → Name → List Assertion
granted s x =
    when s.sender ≟ admin then [] else map (λ r. record { variable = x; from = admin; right = r; to = s.sender }) rights

abbrev pub assign : Session → Name → Value → Session
assign s x v =
    when is_local s x then with_locals s (put x v s.locals)
    else when is_shared s x then with_store s (with_variables s.store (put x v s.store.variables))
    else with_store s (enter_all (with_variables s.store (put x v s.store.variables)) (granted s x))

-- a list is joined on, anything else added as one element
abbrev pub extend : List Element → Value → List Element
extend es (S.single e) = es ++ (e ∷ [])
extend es (list fs) = es ++ fs

-- what foreach puts in an element's place: no list
abbrev pub replaced : Session → Name → Expr → Element → Outcome Element
replaced s y e a = do
  v ← value (with_element s y a) e
  from (as_element v)

-- what filtereach leaves of an element: all of it where the result is the empty string, else nothing
abbrev pub left_of : Element → Value → List Element
left_of a (S.single (S.string [])) = a ∷ []
left_of a (S.single (S.string (b ∷ t))) = []
left_of a (S.single (S.fields fs)) = []
left_of a (list es) = []

abbrev pub filtered : Session → Name → Expr → Element → Outcome (List Element)
filtered s y e a = do
  v ← value (with_element s y a) e
  gives (left_of a v)

abbrev pub flat : List (List Element) → List Element
flat [] = []
flat (es ∷ rest) = es ++ flat rest

-- the session after, and the line printed
pub record Effect : Type 0 where
  pub after : Session
  pub line : Text

abbrev pub done : String → Session → Outcome Effect
done word s = gives (record { after = s; line = status word })

-- what a command that may be sent does, where it can be done. What makes it FAILED by the command's own rule stands before its value.
abbrev pub effect : Session → Command → Outcome Effect
effect s (create_principal p t) = do
  provided (not (is_principal s p))
  done "CREATE_PRINCIPAL" (with_store s (created s.store p t))
effect s (change_password p t) = do
  provided (is_principal s p)
  done "CHANGE_PASSWORD" (with_store s (with_principals s.store (map (changed p t) s.store.principals)))
effect s (set x e) = do
  v ← value s e
  done "SET" (assign s x v)
effect s (append_to x e) = do
  es ← from (list_of s x)
  v ← value s e
  done "APPEND" (assign s x (list (extend es v)))
effect s (local x e) = do
  provided (not (is_defined s x))
  v ← value s e
  done "LOCAL" (with_locals s (put x v s.locals))
effect s (foreach y x e) = do
  es ← from (elements s y x)
  fs ← each_of (replaced s y e) es
  done "FOREACH" (assign s x (list fs))
effect s (filtereach y x e) = do
  es ← from (elements s y x)
  kept ← each_of (filtered s y e) es
  done "FILTEREACH" (assign s x (list (flat kept)))
effect s (set_delegation t q r p) = do
  provided (is_principal s p && is_principal s q && all (is_shared s) (targets s.store t q))
  done "SET_DELEGATION" (with_store s (enter_all s.store (assertions_on (targets s.store t q) q r p)))
effect s (delete_delegation t q r p) = do
  provided (is_principal s p && is_principal s q && all (is_shared s) (targets s.store t q))
  done "DELETE_DELEGATION" (with_store s (withdraw_all s.store (assertions_on (targets s.store t q) q r p)))
effect s (default_delegator p) = do
  provided (is_principal s p)
  done "DEFAULT_DELEGATOR" (with_store s (with_delegator s.store p))
effect s exit = done "EXITING" (with_store s (closed s.store))
effect s (return e) = do
  v ← value s e
  gives (record { after = s; line = returning v })

-- ---- the verdict

abbrev pub session_weight : Session → ℕ
session_weight s = store_weight s.store + sum variable_weight s.locals

abbrev pub heavy : Effect → Bool
heavy f = ltb limit (session_weight f.after)

pub data Refusal : Type 0 where
  DENIED FAILED FULL : Refusal

pub data Step : Type 0 where
  refused : Refusal → Step
  went : Effect → Step

-- DENIED goes before FAILED, and FAILED before FULL
abbrev pub verdict : Bool → Outcome Effect → Step
verdict true o = refused DENIED
verdict false fails = refused FAILED
verdict false fills = refused FULL
verdict false (gives f) = when heavy f then refused FULL else went f

abbrev pub step : Session → Command → Step
step s c = verdict (denied s c) (effect s c)
