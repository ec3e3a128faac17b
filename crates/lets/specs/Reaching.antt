-- How far the evaluation of an expression with `let` has come.
use Rattle.std.specs.Prelude.{◌≡◌, ℕ, ◌+◌, ◌*◌, ◌≤◌, ◌<◌, List, [], ◌∷◌, ◌++◌, T, length, take, drop}
use Rattle.std.proofs.Common.{ControlFlow, Continue, Break}
use Rattle.std.proofs.Math.Option.{some}
use Rattle.language.specs.Text.{Text}
use Rattle.language.specs.Tokens.{Token, lex}
use Rattle.language.specs.Syntax.{Expr}
use Rattle.language.specs.Grammar.{any_expression}
use Rattle.language.specs.Programs.{longest}
use Rattle.language.specs.State.{Value, Variable}
use Rattle.language.specs.Encode.{variables_text}
use Rattle.language.specs.Outcomes.{gives, fails, fills}
use Rattle.language.specs.Values.{Session}
use Rattle.language.specs.Expressions.{unbound, value_within, names_within}
use Rattle.language.proofs.Parsing.ValidPrograms.{valid_expr}
use Rattle.permits.specs.Permits.{unread}
use Rattle.permits.specs.Knowledge.{terms_then, Knows}
use Rattle.scopes.specs.Scopes.{Scope}
use Rattle.evaluated.specs.declared.Answered.{Answered}
use Rattle.evaluated.specs.declared.Answered.TheVariants as Is
use Rattle.term_answer.specs.Telling.{Tells}
use Rattle.lets.specs.Frames.{Frame, environment, opening, unwound, unwound_names, terms_of, Follows, FramesAt, Nested, Roomy, AllRoomy}
use Rattle.lets.specs.declared.place.Place.{Place}
use Rattle.lets.specs.declared.binding.Bound.{Bound}
use Rattle.lets.specs.declared.binding.Bound.TheVariants as BoundIs

-- the shared variables, and the locals with the names of `let` behind them
pub record Texts : Type 0 where
  pub shared : Text
  pub slots : List ℕ
  pub count : ℕ
  pub scope : Text
  pub local_slots : List ℕ

abbrev pub texts : Text → List ℕ → ℕ → Text → List ℕ → Texts
texts shared slots count scope local_slots = record { shared = shared; slots = slots; count = count; scope = scope; local_slots = local_slots }

-- the frames as numbers
pub record Stack : Type 0 where
  pub heads : List ℕ
  pub lens : List ℕ
  pub counts : List ℕ
  pub bounds : List ℕ

abbrev pub stack : List ℕ → List ℕ → List ℕ → List ℕ → Stack
stack heads lens counts bounds = record { heads = heads; lens = lens; counts = counts; bounds = bounds }

-- the session s with the locals ls, in the first bytes of the scope
abbrev pub Holding : Session → List Variable → Texts → ℕ → ℕ → Type 0
Holding s ls b len n = Scope (environment s ls 0).session b.shared b.slots b.count (take len b.scope) b.local_slots n

-- The rest of the expression x stands from the place on, in an environment whose locals are `locals`, under the frames; what is asked for is
-- what the frames make of it, and of the names only those that are evaluated from here on can be denied.
pub record Reached (s : Session) (x : Expr) (t : Text) (b : Texts) (k : Stack) (base number : ℕ) (at : Place) : Type 0 where
  pub locals : List Variable
  pub frames : List Frame
  pub here : Expr
  pub others : List Token
  pub within : at.p ≤ length t
  pub reads : any_expression (lex (drop at.p t)) ≡ some (here, others)
  pub is_valid : T (valid_expr here)
  pub follows : Follows frames others
  pub framed : FramesAt t frames k.heads k.lens k.counts k.bounds
  pub deep : at.depth ≡ length frames
  pub few : 3 * at.depth + length (lex (drop at.p t)) ≤ longest
  pub nested : Nested locals frames
  pub roomy : Roomy s locals at.bound base number
  pub all_roomy : AllRoomy s frames base number
  pub held : Holding s locals b at.len at.count
  pub in_scope : at.len ≤ length b.scope
  pub base_is : base ≡ length (variables_text s.locals)
  pub number_is : number ≡ length s.locals
  pub comes_to_lem : value_within (unbound s) x ≡ unwound s frames (value_within (environment s locals at.bound) here)
  pub evaluates : unread s (names_within (unbound s) x)
      ≡ unread s (names_within (environment s locals at.bound) here ++ unwound_names s frames (value_within (environment s locals at.bound) here))
  pub knows : Knows at.known s (terms_then here (terms_of frames))

-- room for the frames of every program
pub record Deep (k : Stack) : Type 0 where
  pub heads_size : length k.heads ≡ 4096
  pub lens_size : length k.lens ≡ 4096
  pub counts_size : length k.counts ≡ 4096
  pub bounds_size : length k.bounds ≡ 4096

-- what was lent for the evaluation is large enough: bytes and slots for the names of `let`, and the numbers of the frames
pub record Sized (b : Texts) (k : Stack) (base number : ℕ) : Type 0 where
  pub scope_size_lem : base + 32768 ≤ length b.scope
  pub scope_small : length b.scope ≤ 131072
  pub slots_size : number + 4096 ≤ length b.local_slots
  pub slots_small : length b.local_slots ≤ 32768
  pub deep : Deep k

abbrev pub Stepped : ControlFlow Answered Place → Session → Expr → Text → Texts → Stack → ℕ → ℕ → ℕ → Text → Type 0
Stepped (Continue at) s x t b k base number p out = Reached s x t b k base number at × (p < at.p)
Stepped (Break r) s x t b k base number p out = Tells r s (names_within (unbound s) x) (value_within (unbound s) x) out × Holding s s.locals b base number

-- what binding the name of the innermost frame to a value leaves
pub record Opened (s : Session) (k : Frame) (v : Value) (b : Texts) (base number len n bound : ℕ) : Type 0 where
  pub enters : opening s k (gives v) ≡ gives (environment s (k.locals ++ (record { name = k.name; value = v } ∷ [])) bound)
  pub holds : Holding s (k.locals ++ (record { name = k.name; value = v } ∷ [])) b len n
  pub in_scope : len ≤ length b.scope
  pub roomy : Roomy s (k.locals ++ (record { name = k.name; value = v } ∷ [])) bound base number

-- the locals where its `let` stands are where they were
abbrev pub Unmoved : Session → Frame → Texts → Type 0
Unmoved s k b = Holding s k.locals b (length (variables_text k.locals)) (length k.locals)

abbrev pub Binds : Bound → Session → Frame → Value → Texts → ℕ → ℕ → Type 0
Binds BoundIs.Defined s k v b base number = (opening s k (gives v) ≡ fails) × Unmoved s k b
Binds BoundIs.Heavy s k v b base number = (opening s k (gives v) ≡ fills) × Unmoved s k b
Binds (BoundIs.Done len n bound) s k v b base number = Opened s k v b base number len n bound

-- a value that is too heavy, under the frames
abbrev pub Sinks : Answered → Session → List Frame → Type 0
Sinks Is.Denied s frames = ⊥
Sinks Is.Missing s frames = unwound s frames fills ≡ fails
Sinks Is.Heavy s frames = unwound s frames fills ≡ fills
Sinks (Is.Value n w) s frames = ⊥
