-- One assertion that is entered in a running session, or withdrawn.
use Rattle.std.specs.Prelude.{◌≡◌, ℕ, ◌<◌, List, T}
use Rattle.language.specs.State.{Assertion}
use Rattle.language.specs.Weight.{limit, assertion_weight}
use Rattle.language.specs.Valid.{valid_assertion}
use Rattle.language.specs.Values.{Session}
use Rattle.language.specs.Commands.{session_weight, with_store, enter_all, withdraw_all}
use Rattle.named_rights.specs.Numbers.{principals_of, variables, numbered}
use Rattle.session.specs.declared.Layout.{Layout}
use Rattle.session.specs.Sessions.{Slices, slices, Running}
use Rattle.assertion_changes.specs.declared.Entered.{Entered}
use Rattle.assertion_changes.specs.declared.Entered.TheVariants.{Full, Done}

-- the session after some assertions were entered, or withdrawn
abbrev pub entered : Session → List Assertion → Session
entered s added = with_store s (enter_all s.store added)

abbrev pub withdrawn : Session → List Assertion → Session
withdrawn s added = with_store s (withdraw_all s.store added)

-- other numbers stand
abbrev pub restood : Slices → List ℕ → Slices
restood b assertions =
    slices b.principals b.principal_slots b.vars b.variable_slots b.locals b.local_slots assertions

abbrev pub relaid : Layout → ℕ → ℕ → Layout
relaid l asserted weight = record {
  principals_len = l.principals_len;
  principals = l.principals;
  vars_len = l.vars_len;
  vars = l.vars;
  locals_len = l.locals_len;
  locals = l.locals;
  asserted = asserted;
  delegator = l.delegator;
  sender = l.sender;
  weight = weight;
  is_open = l.is_open;
}

-- the assertion a of names of the session s, its number and its weight
pub record Asserts (s : Session) (l : Layout) (b : Slices) (assertions : List ℕ) (a : Assertion) (number weight : ℕ) : Type 0 where
  pub running : Running s l b
  pub stood : b.assertions ≡ assertions
  pub is_valid : T (valid_assertion s.store a)
  pub is_number : number ≡ numbered (principals_of s.store) (variables s.store) a
  pub weighs : weight ≡ assertion_weight a

pub record SomeAsserts (l : Layout) (assertions : List ℕ) (number weight : ℕ) : Type 0 where
  pub session : Session
  pub buffers : Slices
  pub assertion : Assertion
  pub asserts : Asserts session l buffers assertions assertion number weight

-- the session s is too heavy, or in the buffers
abbrev pub Ends : Entered → Session → Slices → Type 0
Ends Full s b = limit < session_weight s
Ends (Done l) s b = Running s l b
