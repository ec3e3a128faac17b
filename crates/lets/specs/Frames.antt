-- Request M-106: the evaluation of an expression with `let` by a stack of frames, one for each `let` whose first expression is being
-- evaluated. What is asked for is what the frames make of the value at hand.
use Rattle.std.specs.Prelude.{◌≡◌, ℕ, ◌+◌, ◌*◌, ◌≤◌, List, [], ◌∷◌, ◌++◌, T, length, get_or, drop}
use Rattle.std.proofs.Math.Option.{some}
use Rattle.language.specs.Text.{Text}
use Rattle.language.specs.Tokens.{Token, lex}
use Rattle.language.specs.Syntax.{Name, Term, Expr}
use Rattle.language.specs.Grammar.{the, any_expression}
use Rattle.language.specs.State.{Value, Variable}
use Rattle.language.specs.Identifiers.{is_name}
use Rattle.language.specs.Encode.{variables_text}
use Rattle.language.specs.Weight.{limit}
use Rattle.language.specs.Outcomes.{Outcome, ◌>>=◌}
use Rattle.language.specs.Values.{Session}
use Rattle.language.specs.Expressions.{Environment, inside, value_within, tried, names_within}
use Rattle.language.proofs.Parsing.ValidPrograms.{valid_expr}
use Rattle.permits.specs.Knowledge.{terms_then}
use Rattle.expression_readers.specs.Heads.{let_head}

-- the session s with other locals, of which the names of `let` weigh `bound`
abbrev pub environment : Session → List Variable → ℕ → Environment
environment s ls bound = record { session = record { store = s.store; sender = s.sender; locals = ls }; bound = bound }

-- a `let` whose first expression is being evaluated: its name, the environment that it stands in, and its second expression
pub record Frame : Type 0 where
  pub name : Name
  pub locals : List Variable
  pub bound : ℕ
  pub second : Expr

-- the environment in which its second expression is tried, by what its first comes to
abbrev pub opening : Session → Frame → Outcome Value → Outcome Environment
opening s k o = inside (environment s k.locals k.bound) k.name o

-- what the let comes to, by what its first expression comes to
abbrev pub let_value : Session → Frame → Outcome Value → Outcome Value
let_value s k o = opening s k o >>= λ inner. value_within inner k.second

-- what the frames make of a value, the innermost first
abbrev pub unwound : Session → List Frame → Outcome Value → Outcome Value
unwound s [] o = o
unwound s (k ∷ rest) o = unwound s rest (let_value s k o)

-- the names that are evaluated on the way
abbrev pub unwound_names : Session → List Frame → Outcome Value → List Name
unwound_names s [] o = []
unwound_names s (k ∷ rest) o = tried (opening s k o) (λ inner. names_within inner k.second) ++ unwound_names s rest (let_value s k o)

-- the terms of their second expressions, which are next
abbrev pub terms_of : List Frame → List Term
terms_of [] = []
terms_of (k ∷ rest) = terms_then k.second (terms_of rest)

-- ---- in the program's text

-- after the value at hand: `in`, the second expression, and what the frames below ask
pub data Follows : List Frame → List Token → Type 0 where
  last : {us : List Token} → Follows [] us
  next : {k : Frame} {rest : List Frame} {us vs ws : List Token} → the "in" us ≡ some (tt, vs) → any_expression vs ≡ some (k.second, ws)
      → T (valid_expr k.second) → Follows rest ws → Follows (k ∷ rest) us

-- ---- as numbers

-- a frame as four numbers: the place of its `let` in the program, the length and the number of the locals, and what the names of `let` weigh
pub record FrameAt (t : Text) (k : Frame) (d : ℕ) (heads lens counts bounds : List ℕ) : Type 0 where
  pub within : get_or heads d 0 ≤ length t
  pub rest : List Token
  pub named : let_head (lex (drop (get_or heads d 0) t)) ≡ some (k.name, rest)
  pub name_holds : T (is_name k.name)
  pub long : get_or lens d 0 ≡ length (variables_text k.locals)
  pub counted : get_or counts d 0 ≡ length k.locals
  pub weighs : get_or bounds d 0 ≡ k.bound

-- the frames by their depth, the outermost first
abbrev pub FramesAt : Text → List Frame → List ℕ → List ℕ → List ℕ → List ℕ → Type 0
FramesAt t [] heads lens counts bounds = Unit {0}
FramesAt t (k ∷ rest) heads lens counts bounds = FrameAt t k (length rest) heads lens counts bounds × FramesAt t rest heads lens counts bounds

-- each frame's locals are the first of those inside it
abbrev pub Nested : List Variable → List Frame → Type 0
Nested ls [] = Unit {0}
Nested ls (k ∷ rest) = ((more : List Variable) × (ls ≡ k.locals ++ more)) × Nested k.locals rest

-- the locals ls are those of the session s and the names of `let` that live; how many bytes and slots these take, by their weight
pub record Roomy (s : Session) (ls : List Variable) (bound base number : ℕ) : Type 0 where
  pub lets : List Variable
  pub are : ls ≡ s.locals ++ lets
  pub light : bound ≤ limit
  pub bytes : length (variables_text ls) ≤ base + 4 * bound
  pub slots : 2 * length ls ≤ 2 * number + bound

abbrev pub AllRoomy : Session → List Frame → ℕ → ℕ → Type 0
AllRoomy s [] base number = Unit {0}
AllRoomy s (k ∷ rest) base number = Roomy s k.locals k.bound base number × AllRoomy s rest base number
