-- The three demands of the request, of the definitions with which the contracts of the functions open to the host equate these
-- functions (Calls.antt). Of the functions themselves the contracts say so, and the checker that they end on every input.
use Rattle.std.specs.Prelude.{◌≡◌, ◌↔◌, ◌⊎◌, ℕ, ◌≤◌, ◌<◌, [], T, length}
use Rattle.std.proofs.Math.Option.{some}
use Rattle.language.specs.Text.{Text, present}
use Rattle.language.specs.Syntax.{Program}
use Rattle.language.specs.Identifiers.{is_string}
use Rattle.language.specs.Commands.{Refusal}
use Rattle.language.specs.State.{Store, fresh, named, value_in}
use Rattle.language.specs.Weight.{limit, store_weight}
use Rattle.language.specs.Encode.{buffer_size, padded}
use Rattle.language.specs.Decode.{Holds}
use Rattle.language.specs.Former.{FormerHolds}
use Rattle.language.specs.Programs.{parse}
use Rattle.language.specs.Run.{End, refusal, completed, run, output, refusal_line, result, left}
use Rattle.language.specs.Calls.{wrong, ended, ready, Buffers, BringBuffers, SheetBuffers, sized, longest_password, make_call, run_call, ask_call, right_byte, bring_call, sheet_call}
use Rattle.language.specs.History.{Sheeted, Demand3}

-- ---- calls that are made rightly

-- a program sent to an open state: the buffers have their sizes (that of the state's follows), and the state's holds s, which is open
pub record Sent (b : Buffers) (s : Store) : Type 0 where
  pub output_sized : T (sized b.output)
  pub work_sized : T (sized b.work)
  pub holds : Holds b.state s
  pub is_open : T s.is_open

-- a question about a principal, a shared variable and a right that the state s has
pub record Asked (buffer p x : Text) (byte : ℕ) (s : Store) : Type 0 where
  pub holds : Holds buffer s
  pub is_principal_lem : T (present (named s.principals p))
  pub is_variable : T (present (value_in s.variables x))
  pub is_right : T (present (right_byte byte))

-- a server made with a password that may be one
pub record Installed (buffer password : Text) : Type 0 where
  pub state_sized : T (sized buffer)
  pub is_string_lem : T (is_string password)
  pub is_short : length password ≤ longest_password

-- a state in the former lines, with the count n in the first, that is not too heavy in the lines of now
pub record Bringable (b : BringBuffers) (n : ℕ) (s : Store) : Type 0 where
  pub state_sized : T (sized b.state)
  pub holds : FormerHolds b.former n s
  pub is_light : store_weight s ≤ limit

-- a sheet of a shared variable that the state s has, open or closed
pub record Listable (b : SheetBuffers) (x : Text) (s : Store) : Type 0 where
  pub output_sized : T (sized b.output)
  pub holds : Holds b.state s
  pub is_variable : T (present (value_in s.variables x))

-- ---- calls that are made wrongly, with their numbers: document 01's tests in their order, of which the last is the first not met

pub data RunWrong (b : Buffers) : ℕ → Type 0 where
  output_size : ¬ T (sized b.output) → RunWrong b 1
  state_size : T (sized b.output) → ¬ T (sized b.state) → RunWrong b 2
  work_size : T (sized b.output) → T (sized b.state) → ¬ T (sized b.work) → RunWrong b 3
  no_state : T (sized b.output) → T (sized b.state) → T (sized b.work) → ((s : Store) → ¬ Holds b.state s) → RunWrong b 4
  closed : T (sized b.output) → T (sized b.work) → (s : Store) → Holds b.state s → ¬ T s.is_open → RunWrong b 5

pub data QuestionWrong (buffer p x : Text) (byte : ℕ) : ℕ → Type 0 where
  state_size : ¬ T (sized buffer) → QuestionWrong buffer p x byte 2
  no_state : T (sized buffer) → ((s : Store) → ¬ Holds buffer s) → QuestionWrong buffer p x byte 4
  no_principal : (s : Store) → Holds buffer s → ¬ T (present (named s.principals p)) → QuestionWrong buffer p x byte 6
  no_variable : (s : Store) → Holds buffer s → T (present (named s.principals p)) → ¬ T (present (value_in s.variables x))
      → QuestionWrong buffer p x byte 7
  no_right : (s : Store) → Holds buffer s → T (present (named s.principals p)) → ¬ T (present (right_byte byte)) → QuestionWrong buffer p x byte 7

pub data MakingWrong (buffer password : Text) : ℕ → Type 0 where
  state_size : ¬ T (sized buffer) → MakingWrong buffer password 2
  no_string : T (sized buffer) → ¬ T (is_string password) → MakingWrong buffer password 8
  too_long : T (sized buffer) → T (is_string password) → longest_password < length password → MakingWrong buffer password 9

-- document 02, M-101
pub data BringingWrong (b : BringBuffers) : ℕ → Type 0 where
  former_size : ¬ T (sized b.former) → BringingWrong b 2
  state_size : T (sized b.former) → ¬ T (sized b.state) → BringingWrong b 2
  no_former : T (sized b.former) → T (sized b.state) → ((n : ℕ) (s : Store) → ¬ FormerHolds b.former n s) → BringingWrong b 10
  too_heavy : T (sized b.state) → (n : ℕ) (s : Store) → FormerHolds b.former n s → limit < store_weight s → BringingWrong b 11

-- document 02, M-102
pub data SheetWrong (b : SheetBuffers) (x : Text) : ℕ → Type 0 where
  output_size : ¬ T (sized b.output) → SheetWrong b x 1
  state_size : T (sized b.output) → ¬ T (sized b.state) → SheetWrong b x 2
  no_state : T (sized b.output) → T (sized b.state) → ((s : Store) → ¬ Holds b.state s) → SheetWrong b x 4
  no_variable : T (sized b.output) → (s : Store) → Holds b.state s → ¬ T (present (value_in s.variables x)) → SheetWrong b x 7

-- what a program sent to the state s is by document 01
abbrev pub end_of : Store → Text → End
end_of s program = run s (parse program)

-- ---- Demand 1
--
-- Every program of bytes that is sent to an open server ends in status lines and a state. One that cannot be done gives exactly one line
-- and leaves the state's bytes. A call made wrongly gives a number of document 01, or of a request, and leaves every lent byte.

pub record Demand1 : Type 0 where
  pub ends : (b : Buffers) (program : Text) (s : Store) → Sent b s → (run_call b program).answer ≡ ended (result (end_of s program))
  -- the lines fit the output
  pub fits : (b : Buffers) (program : Text) (s : Store) → Sent b s → length (output (end_of s program)) ≤ buffer_size
  -- what is left is a well-formed state again, whether the program was completed or refused
  pub state_again : (b : Buffers) (program : Text) (s : Store) → Sent b s → (t : Store) × Holds (run_call b program).lent.state t
  -- a completed program has a line for each command, and any other one line
  pub line_each : (b : Buffers) (program : Text) (s : Store) → Sent b s → (p : Program) (lines : Text) (t : Store)
      → parse program ≡ some p → end_of s program ≡ completed lines t → (result (end_of s program)).lines ≡ length p.commands
  pub one_line : (b : Buffers) (program : Text) (s : Store) → Sent b s → (r : Refusal) → end_of s program ≡ refusal r
      → ((result (end_of s program)).lines ≡ 1) × ((run_call b program).lent.output ≡ padded (refusal_line r)) × ((run_call b program).lent.state ≡ b.state)
  -- each number exactly; every call is made rightly or has a number; a number changes nothing
  pub run_number : (b : Buffers) (program : Text) (n : ℕ) → ((run_call b program).answer ≡ wrong n) ↔ RunWrong b n
  pub run_either : (b : Buffers) → ((s : Store) × Sent b s) ⊎ ((n : ℕ) × RunWrong b n)
  pub run_kept : (b : Buffers) (program : Text) (n : ℕ) → (run_call b program).answer ≡ wrong n → (run_call b program).lent ≡ b
  pub question_number : (buffer p x : Text) (byte n : ℕ) → ((ask_call buffer p x byte).answer ≡ wrong n) ↔ QuestionWrong buffer p x byte n
  pub question_either : (buffer p x : Text) (byte : ℕ) → ((s : Store) × Asked buffer p x byte s) ⊎ ((n : ℕ) × QuestionWrong buffer p x byte n)
  pub question_kept : (buffer p x : Text) (byte : ℕ) → (ask_call buffer p x byte).lent ≡ buffer
  pub making_number : (buffer password : Text) (n : ℕ) → ((make_call buffer password).answer ≡ wrong n) ↔ MakingWrong buffer password n
  pub making_either : (buffer password : Text) → Installed buffer password ⊎ ((n : ℕ) × MakingWrong buffer password n)
  pub making_kept : (buffer password : Text) (n : ℕ) → (make_call buffer password).answer ≡ wrong n → (make_call buffer password).lent ≡ buffer
  pub making_made : (buffer password : Text) → Installed buffer password
      → ((make_call buffer password).answer ≡ ready) × Holds (make_call buffer password).lent (fresh password)
  pub bringing_number : (b : BringBuffers) (n : ℕ) → ((bring_call b).answer ≡ wrong n) ↔ BringingWrong b n
  pub bringing_either : (b : BringBuffers) → ((n : ℕ) × (s : Store) × Bringable b n s) ⊎ ((n : ℕ) × BringingWrong b n)
  pub bringing_kept : (b : BringBuffers) (n : ℕ) → (bring_call b).answer ≡ wrong n → (bring_call b).lent ≡ b
  -- the state is that of the former text, and the former buffer is as it was
  pub bringing_brought : (b : BringBuffers) (n : ℕ) (s : Store) → Bringable b n s
      → ((bring_call b).answer ≡ ready) × Holds (bring_call b).lent.state s × ((bring_call b).lent.former ≡ b.former)
  pub sheet_number : (b : SheetBuffers) (x : Text) (n : ℕ) → ((sheet_call b x).answer ≡ wrong n) ↔ SheetWrong b x n
  pub sheet_either : (b : SheetBuffers) (x : Text) → ((s : Store) × Listable b x s) ⊎ ((n : ℕ) × SheetWrong b x n)
  pub sheet_kept : (b : SheetBuffers) (x : Text) (n : ℕ) → (sheet_call b x).answer ≡ wrong n → (sheet_call b x).lent ≡ b
  -- the state is never changed, and what is printed says who may do what to the variable
  pub sheet_state_lem : (b : SheetBuffers) (x : Text) → (sheet_call b x).lent.state ≡ b.state
  pub sheet_listed : (b : SheetBuffers) (x : Text) (s : Store) → Listable b x s → Sheeted s x (sheet_call b x)

-- ---- Demand 2
--
-- For every program on every open state the lines and the state are those that document 01 defines, as the requests change it: this demand
-- and the third follow the language (request M-104).

pub record Demand2 : Type 0 where
  pub lines : (b : Buffers) (program : Text) (s : Store) → Sent b s → (run_call b program).lent.output ≡ padded (output (end_of s program))
  -- the state's text and zeros, of a refused program too
  pub state : (b : Buffers) (program : Text) (s : Store) → Sent b s → Holds (run_call b program).lent.state (left s (end_of s program))
  pub work : (b : Buffers) (program : Text) (s : Store) → Sent b s → (run_call b program).lent.work ≡ padded []

-- the three together; demand 3 is stated in History.antt
pub record Demands : Type 0 where
  pub first : Demand1
  pub second : Demand2
  pub third : Demand3
