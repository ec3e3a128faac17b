-- Numbers for names and rights: principals and variables by their places in order of creation.
use Rattle.std.specs.Prelude as Code
use Rattle.std.specs.Prelude.{Some, None, ◌≡◌, ℕ, ◌≤◌, List, map, T, length, take}
use Rattle.std.proofs.Math.Option.{Option, none, some}
use Rattle.language.specs.Text.{member}
use Rattle.language.specs.Syntax.{Name, Right, read, write, append, delegate}
use Rattle.language.specs.State.{Assertion, Store}
use Rattle.store.specs.Rows.{position}
use Rattle.assertion.specs.Packed as N
use Rattle.assertion.specs.Packed.{pack}
use Rattle.chains.specs.Rounds.{answer_of}

abbrev pub code : Right → ℕ
code read = 0
code write = 1
code append = 2
code delegate = 3

-- an assertion as four numbers, by the names of the principals and of the variables
abbrev pub four : List Name → List Name → Assertion → N.Assertion
four ps xs a =
    record { variable = position xs a.variable; from = position ps a.from; right = code a.right; to = position ps a.to }

-- the same in one number
abbrev pub numbered : List Name → List Name → Assertion → ℕ
numbered ps xs a = pack (position xs a.variable) (position ps a.from) (code a.right) (position ps a.to)

abbrev pub principals_of : Store → List Name
principals_of s = map (λ k. k.name) s.principals

abbrev pub variables : Store → List Name
variables s = map (λ v. v.name) s.variables

-- the first n of `assertions` are the assertions of a store, in order of entry
pub record Standing (s : Store) (n : ℕ) (assertions : List ℕ) : Type 0 where
  pub within : n ≤ length assertions
  pub are : take n assertions ≡ map (numbered (principals_of s) (variables s)) s.assertions

-- what is asked, and its numbers: a right on a shared variable, for a principal
pub record Asks (s : Store) (r : Right) (x p : Name) (count variable right principal : ℕ) : Type 0 where
  pub everyone : count ≡ length (principals_of s)
  pub variable_known : T (member x (variables s))
  pub variable_is : variable ≡ position (variables s) x
  pub right_is : right ≡ code r
  pub principal_known : T (member p (principals_of s))
  pub principal_is : principal ≡ position (principals_of s) p

-- what is asked of everyone, and its numbers: a right on a shared variable
pub record AsksAll (s : Store) (r : Right) (x : Name) (count variable right : ℕ) : Type 0 where
  pub everyone : count ≡ length (principals_of s)
  pub variable_known : T (member x (variables s))
  pub variable_is : variable ≡ position (variables s) x
  pub right_is : right ≡ code r

-- what an answer of the search says
abbrev pub length_of : Code.Option ℕ → Option ℕ
length_of (Some n) = some n
length_of None = none

-- what a mark says
abbrev pub length_marked : ℕ → Option ℕ
length_marked m = length_of (answer_of m)
