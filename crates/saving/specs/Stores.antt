-- A store whose parts stand in lent slices, and the room that its text needs.
use Rattle.std.specs.Prelude.{◌≡◌, ℕ, ◌+◌, ◌≤◌, List, ◌++◌, T, length}
use Rattle.language.specs.Text.{Text, member}
use Rattle.language.specs.Syntax.{Name}
use Rattle.language.specs.State.{Assertion, Store}
use Rattle.language.specs.Encode.{head_text, principals_text, delegator_text, variables_text, assertion_text, assertions_text}
use Rattle.language.specs.Valid.{valid_assertion, valid_store}
use Rattle.language.specs.Run.{tally}
use Rattle.store.specs.Held.{Principals, Variables}
use Rattle.store.specs.Rows.{position}
use Rattle.named_rights.specs.Numbers.{principals_of, variables, numbered, Standing}
use Rattle.session.specs.declared.Layout.{Layout}

-- the principals and the variables of a valid store: a number of either stands for a name
pub record Named (s : Store) (l : Layout) (principals_text_lem : Text) (principal_slots : List ℕ) (vars-text : Text) (variable_slots : List ℕ) : Type 0 where
  pub is_valid : T (valid_store s)
  pub principals : Principals s.principals principals_text_lem l.principals principal_slots
  pub shared : Variables s.variables vars-text l.vars variable_slots

-- the assertion a, whose names exist, has the number n
pub record Assertions (s : Store) (a : Assertion) (n : ℕ) : Type 0 where
  pub known : T (valid_assertion s a)
  pub number : n ≡ numbered (principals_of s) (variables s) a

-- some assertion has the number n, and its line has room in `size` bytes from `at` on
pub record SomeAssertion (l : Layout) (principals_text_lem : Text) (principal_slots : List ℕ) (vars-text : Text) (variable_slots : List ℕ) (n at size : ℕ) : Type 0 where
  pub store : Store
  pub assertion : Assertion
  pub names : Named store l principals_text_lem principal_slots vars-text variable_slots
  pub assertions : Assertions store assertion n
  pub room : at + length (assertion_text assertion) ≤ size

-- the lines of all assertions have room
pub record SomeAssertions (l : Layout) (principals_text_lem : Text) (principal_slots : List ℕ) (vars-text : Text) (variable_slots packed : List ℕ) (at size : ℕ) : Type 0 where
  pub store : Store
  pub names : Named store l principals_text_lem principal_slots vars-text variable_slots
  pub assertions : Standing store l.asserted packed
  pub room : at + length (assertions_text store.assertions) ≤ size

-- ---- the lines before the assertions

abbrev pub records_text : Store → Text
records_text s =
    head_text s.is_open ++ (principals_text s.principals ++ (delegator_text s.delegator ++ variables_text s.variables))

-- the principals of a valid store, and among them the sender p
pub record Sent (s : Store) (p : Name) (l : Layout) (principals_text_lem : Text) (principal_slots : List ℕ) : Type 0 where
  pub is_valid : T (valid_store s)
  pub principals : Principals s.principals principals_text_lem l.principals principal_slots
  pub sender_known : T (member p (principals_of s))
  pub sender : l.sender ≡ position (principals_of s) p

-- their lines, with the sender's count raised, have room in `size` bytes from `at` on
pub record SomeSent (l : Layout) (principals_text_lem : Text) (principal_slots : List ℕ) (at size : ℕ) : Type 0 where
  pub store : Store
  pub name : Name
  pub sent : Sent store name l principals_text_lem principal_slots
  pub room : at + length (principals_text (tally name store).principals) ≤ size

pub record Recorded (s : Store) (p : Name) (l : Layout) (principals_text_lem : Text) (principal_slots : List ℕ) (vars-text : Text) : Type 0 where
  pub is_open : l.is_open ≡ s.is_open
  pub sent : Sent s p l principals_text_lem principal_slots
  pub delegator_known : T (member s.delegator (principals_of s))
  pub delegator : l.delegator ≡ position (principals_of s) s.delegator
  pub variables_text_lem : vars-text ≡ variables_text s.variables

pub record SomeRecords (l : Layout) (principals_text_lem : Text) (principal_slots : List ℕ) (vars-text : Text) (size : ℕ) : Type 0 where
  pub store : Store
  pub name : Name
  pub recorded : Recorded store name l principals_text_lem principal_slots vars-text
  pub room : length (records_text (tally name store)) ≤ size
