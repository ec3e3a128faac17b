-- What the frames make of a value that is given, that fails, and that is too heavy.
use mathlib.Core.Path.{◌≡◌, refl, ap, ◌∙◌}
use mathlib.Core.Bool.{Bool, true, false, not}
use mathlib.Core.List.{List, [], ◌∷◌, ◌++◌}
use Rattle.language.specs.State.{Value}
use Rattle.language.specs.Outcomes.{Outcome, fails, fills, ◌>>=◌, ◌>>◌, provided}
use Rattle.language.specs.Values.{Session, is_defined}
use Rattle.language.specs.Expressions.{bind, value_within, tried, names_within}
use Rattle.lets.specs.Frames.{Frame, environment, opening, let_value, unwound, unwound_names}

-- ---- a first expression that gives nothing

opening_fails : (s : Session) (k : Frame) → opening s k fails ≡ fails
opening_fails s k = go (not (is_defined (environment s k.locals k.bound).session k.name))
  where
    go : (b : Bool) → (provided b >> (fails >>= bind (environment s k.locals k.bound) k.name)) ≡ fails
    go true = refl
    go false = refl

let_value_fails : (s : Session) (k : Frame) → let_value s k fails ≡ fails
let_value_fails s k = ap (λ o. o >>= λ inner. value_within inner k.second) (opening_fails s k)

pub unwound_fails : (s : Session) (frames : List Frame) → unwound s frames fails ≡ fails
unwound_fails s [] = refl
unwound_fails s (k ∷ rest) = ap (unwound s rest) (let_value_fails s k) ∙ unwound_fails s rest

pub names_fail : (s : Session) (frames : List Frame) → unwound_names s frames fails ≡ []
names_fail s [] = refl
names_fail s (k ∷ rest) =
    ap (λ o. tried o (λ inner. names_within inner k.second) ++ unwound_names s rest (let_value s k fails)) (opening_fails s k)
    ∙ ap (unwound_names s rest) (let_value_fails s k) ∙ names_fail s rest

-- ---- one that is too heavy

module _ (s : Session) (k : Frame) where
  abbrev pub is_taken : Bool
  is_taken = is_defined (environment s k.locals k.bound).session k.name

  pub opening_taken : (o : Outcome Value) → is_taken ≡ true → opening s k o ≡ fails
  opening_taken o e = ap (λ b. provided (not b) >> (o >>= bind (environment s k.locals k.bound) k.name)) e

  pub opening_free : (o : Outcome Value) → is_taken ≡ false → opening s k o ≡ (o >>= bind (environment s k.locals k.bound) k.name)
  opening_free o e = ap (λ b. provided (not b) >> (o >>= bind (environment s k.locals k.bound) k.name)) e

  pub let_value_taken : (o : Outcome Value) → is_taken ≡ true → let_value s k o ≡ fails
  let_value_taken o e = ap (λ o. o >>= λ inner. value_within inner k.second) (opening_taken o e)

  pub let_value_free : is_taken ≡ false → let_value s k fills ≡ fills
  let_value_free e = ap (λ o. o >>= λ inner. value_within inner k.second) (opening_free fills e)

-- nothing more is evaluated then
pub names_fill : (s : Session) (frames : List Frame) → unwound_names s frames fills ≡ []
names_fill s [] = refl
names_fill s (k ∷ rest) = go (is_taken s k) refl (names_fill s rest)
  where
    go : (b : Bool) → is_taken s k ≡ b → unwound_names s rest fills ≡ [] → unwound_names s (k ∷ rest) fills ≡ []
    go true e h =
        ap (λ o. tried o (λ inner. names_within inner k.second) ++ unwound_names s rest (let_value s k fills)) (opening_taken s k fills e)
        ∙ ap (unwound_names s rest) (let_value_taken s k fills e) ∙ names_fail s rest
    go false e h =
        ap (λ o. tried o (λ inner. names_within inner k.second) ++ unwound_names s rest (let_value s k fills)) (opening_free s k fills e)
        ∙ ap (unwound_names s rest) (let_value_free s k e) ∙ h

module _ (s : Session) (k : Frame) (rest : List Frame) where
  pub sinks_here : is_taken s k ≡ true → unwound s (k ∷ rest) fills ≡ fails
  sinks_here e = ap (unwound s rest) (let_value_taken s k fills e) ∙ unwound_fails s rest

  pub sinks_on : is_taken s k ≡ false → unwound s (k ∷ rest) fills ≡ unwound s rest fills
  sinks_on e = ap (unwound s rest) (let_value_free s k e)
