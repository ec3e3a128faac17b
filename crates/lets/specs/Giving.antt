-- A term that was read, and a value for the name of the innermost `let`.
use Rattle.std.specs.Prelude.{◌≡◌, ℕ, ◌+◌, ◌*◌, ◌≤◌, List, ◌∷◌, T, length, take, drop, Some}
use Rattle.std.proofs.Math.Option.{none, some}
use Rattle.language.specs.Text.{Text}
use Rattle.language.specs.Tokens.{Token, lex}
use Rattle.language.specs.Syntax.{Expr}
use Rattle.language.specs.Grammar.{any_term, any_expression}
use Rattle.language.specs.Programs.{longest}
use Rattle.language.specs.State.{Value, Variable}
use Rattle.language.specs.Encode.{variables_text}
use Rattle.language.specs.Weight.{limit, value_weight}
use Rattle.language.specs.Outcomes.{gives}
use Rattle.language.specs.Values.{Session}
use Rattle.language.specs.Expressions.{unbound, value_within, names_within}
use Rattle.syntax.specs.declared.Term as Read
use Rattle.tokens.specs.Readers.{ReadPlaced}
use Rattle.syntax.specs.Values.{term_read_meant, TermWithin}
use Rattle.language.proofs.Parsing.ValidPrograms.{valid_expr}
use Rattle.permits.specs.Permits.{Sends, unread}
use Rattle.permits.specs.declared.Known.{Known}
use Rattle.permits.specs.Knowledge.{terms, Knows}
use Rattle.scopes.specs.Scopes.{Scope}
use Rattle.values.specs.Encoding.{Holds}
use Rattle.lets.specs.Frames.{Frame, unwound, unwound_names, terms_of, Follows, FramesAt, Nested, AllRoomy}
use Rattle.lets.specs.Reaching.{Texts, Stack, Holding, Reached, Sized}
use Rattle.lets.specs.declared.place.Place.{Place}

-- the term that stands from place p on, and ends before n
pub record AtTerm (t : Text) (p : ℕ) (e : Read.Term) (n : ℕ) : Type 0 where
  pub meant : term_read_meant t (Some e) n ≡ any_term (lex (drop p t))
  pub placed : ReadPlaced TermWithin t p (Some e) n

-- the innermost frame has its value, and what is asked for is what the frames make of that
pub record Given (s : Session) (x : Expr) (t : Text) (b : Texts) (k : Stack) (base number depth at : ℕ) (known : Known) (src : Text) (weight : ℕ) : Type 0 where
  pub locals : List Variable
  pub len : ℕ
  pub n : ℕ
  pub top : Frame
  pub rest : List Frame
  pub value : Value
  pub within : at ≤ length t
  pub follows : Follows (top ∷ rest) (lex (drop at t))
  pub framed : FramesAt t (top ∷ rest) k.heads k.lens k.counts k.bounds
  pub deep : depth ≡ length (top ∷ rest)
  pub few : 3 * depth + length (lex (drop at t)) ≤ longest
  pub nested : Nested locals (top ∷ rest)
  pub all_roomy : AllRoomy s (top ∷ rest) base number
  pub held : Holding s locals b len n
  pub in_scope : len ≤ length b.scope
  pub base_is : base ≡ length (variables_text s.locals)
  pub number_is : number ≡ length s.locals
  pub sized : Sized b k base number
  pub is_value : Holds value src
  pub weighs : weight ≡ value_weight value
  pub light : weight ≤ limit
  pub comes_to_lem : value_within (unbound s) x ≡ unwound s (top ∷ rest) (gives value)
  pub evaluates : unread s (names_within (unbound s) x) ≡ unread s (unwound_names s (top ∷ rest) (gives value))
  pub knows : Knows known s (terms_of (top ∷ rest))

pub record SomeGiven (t : Text) (b : Texts) (k : Stack) (depth at : ℕ) (known : Known) (src : Text) (weight : ℕ) : Type 0 where
  pub session : Session
  pub expression : Expr
  pub base : ℕ
  pub number : ℕ
  pub given : Given session expression t b k base number depth at known src weight

-- some session's evaluation has come to a `let`
pub record SomeEntered (t : Text) (k : Stack) (at : Place) : Type 0 where
  pub session : Session
  pub expression : Expr
  pub texts_lent : Texts
  pub base : ℕ
  pub number : ℕ
  pub reached : Reached session expression t texts_lent k base number at
  pub sized : Sized texts_lent k base number
  pub no_term : any_term (lex (drop at.p t)) ≡ none
  pub short : length t ≤ longest

-- to a term
pub record SomeLeft (t : Text) (b : Texts) (k : Stack) (at : Place) (assertions : List ℕ) (n principals sender : ℕ) : Type 0 where
  pub session : Session
  pub expression : Expr
  pub base : ℕ
  pub number : ℕ
  pub reached : Reached session expression t b k base number at
  pub sized : Sized b k base number
  pub sends : Sends session b.shared b.slots b.count assertions n principals sender

-- it starts: the expression x stands from place `at` on, and the session's locals are in the first bytes of the scope
pub record Starts (s : Session) (x : Expr) (t : Text) (b : Texts) (len number at : ℕ) : Type 0 where
  pub others : List Token
  pub within : at ≤ length t
  pub reads : any_expression (lex (drop at t)) ≡ some (x, others)
  pub is_valid : T (valid_expr x)
  pub held : Scope s b.shared b.slots b.count (take len b.scope) b.local_slots number
  pub in_scope : len ≤ length b.scope

pub record SomeStart (t : Text) (b : Texts) (len number at : ℕ) (assertions : List ℕ) (n principals sender : ℕ) (known : Known) : Type 0 where
  pub session : Session
  pub expression : Expr
  pub starts : Starts session expression t b len number at
  pub sends : Sends session b.shared b.slots b.count assertions n principals sender
  pub knows : Knows known session (terms expression)
