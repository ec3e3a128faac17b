-- A frame by its numbers: the name of its `let`, and the locals where that stands.
use Rattle.std.specs.Prelude.{◌≡◌, ℕ, ◌+◌, ◌≤◌, ◌<◌, Bool, List, [], ◌∷◌, T, length, get_or, drop}
use Rattle.std.proofs.Math.Option.{some}
use Rattle.language.specs.Text.{Text}
use Rattle.language.specs.Syntax.{Name}
use Rattle.language.specs.Tokens.{Token, lex}
use Rattle.language.specs.Identifiers.{is_name}
use Rattle.language.specs.State.{Value}
use Rattle.language.specs.Weight.{limit, value_weight}
use Rattle.language.specs.Values.{Session, is_defined}
use Rattle.values.specs.Encoding.{Holds}
use Rattle.expression_readers.specs.Heads.{let_head}
use Rattle.lets.specs.Frames.{Frame, environment, Roomy}
use Rattle.lets.specs.Reaching.{Texts, Holding}

-- a `let` starts there
pub record SomeHead (t : Text) (at : ℕ) : Type 0 where
  pub within : at ≤ length t
  pub name : Name
  pub rest : List Token
  pub named : let_head (lex (drop at t)) ≡ some (name, rest)

-- the frame of that depth binds the name of k
pub record Framed (t : Text) (heads : List ℕ) (d : ℕ) (k : Frame) : Type 0 where
  pub below : d < length heads
  pub within : get_or heads d 0 ≤ length t
  pub rest : List Token
  pub named : let_head (lex (drop (get_or heads d 0) t)) ≡ some (k.name, rest)

pub record SomeFrame (t : Text) (heads : List ℕ) (d : ℕ) : Type 0 where
  pub frame : Frame
  pub framed : Framed t heads d frame

-- and the locals where its `let` stands are in the scope
pub record Standing (s : Session) (k : Frame) (t : Text) (b : Texts) (heads lens counts : List ℕ) (d : ℕ) : Type 0 where
  pub framed : Framed t heads d k
  pub len_below : d < length lens
  pub count_below : d < length counts
  pub in_scope : get_or lens d 0 ≤ length b.scope
  pub held : Holding s k.locals b (get_or lens d 0) (get_or counts d 0)

pub record SomeStanding (t : Text) (b : Texts) (heads lens counts : List ℕ) (d : ℕ) : Type 0 where
  pub session : Session
  pub frame : Frame
  pub standing : Standing session frame t b heads lens counts d

-- its name is defined there
abbrev pub taken : Session → Frame → Bool
taken s k = is_defined (environment s k.locals k.bound).session k.name

-- a value for it, and room for that among base and number, by what the names of `let` weigh
pub record Pushed (s : Session) (k : Frame) (v : Value) (t : Text) (b : Texts) (heads lens counts bounds : List ℕ) (d : ℕ) (src : Text) (weight base number : ℕ) : Type 0 where
  pub standing : Standing s k t b heads lens counts d
  pub bound_below : d < length bounds
  pub weighs : get_or bounds d 0 ≡ k.bound
  pub name_holds : T (is_name k.name)
  pub is_value : Holds v src
  pub value_weighs : weight ≡ value_weight v
  pub value_light : weight ≤ limit
  pub roomy : Roomy s k.locals k.bound base number
  pub scope_size_lem : base + 32768 ≤ length b.scope
  pub scope_small : length b.scope ≤ 131072
  pub slots_size : number + 4096 ≤ length b.local_slots

pub record SomePushed (t : Text) (b : Texts) (heads lens counts bounds : List ℕ) (d : ℕ) (src : Text) (weight : ℕ) : Type 0 where
  pub session : Session
  pub frame : Frame
  pub value : Value
  pub base : ℕ
  pub number : ℕ
  pub pushed : Pushed session frame value t b heads lens counts bounds d src weight base number

-- all frames, by their depth
abbrev pub EachStanding : Session → List Frame → Text → Texts → List ℕ → List ℕ → List ℕ → Type 0
EachStanding s [] t b heads lens counts = Unit {0}
EachStanding s (k ∷ rest) t b heads lens counts = Standing s k t b heads lens counts (length rest) × EachStanding s rest t b heads lens counts

pub record AllStanding (s : Session) (frames : List Frame) (t : Text) (b : Texts) (heads lens counts : List ℕ) (depth : ℕ) : Type 0 where
  pub deep : depth ≡ length frames
  pub each : EachStanding s frames t b heads lens counts

pub record SomeAllStanding (t : Text) (b : Texts) (heads lens counts : List ℕ) (depth : ℕ) : Type 0 where
  pub session : Session
  pub frames : List Frame
  pub standing : AllStanding session frames t b heads lens counts depth
