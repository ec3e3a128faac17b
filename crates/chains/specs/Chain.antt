-- Chains of delegation: what a right is, as a relation over numbers. Admin is principal 0 and anyone is principal 1.
use Rattle.std.specs.Prelude.{Option, Some, None, ◌≡◌, List, ℕ, suc, ◌≤◌, ◌<◌}
use Rattle.assertion.specs.Packed.{Assertion}
use Rattle.search_steps.specs.Steps.{◌∈◌}

-- the assertions that stand, how many principals there are (they are the numbers below `count`), and the variable and right asked for
pub record Asked : Type 0 where
  pub assertions : List Assertion
  pub count : ℕ
  pub variable : ℕ
  pub right : ℕ

-- a step from q to p: a standing assertion with that variable and right, or from anyone to any principal
pub data Step (a : Asked) : ℕ → ℕ → Type 0 where
  assertion : {q p : ℕ} → record { variable = a.variable; from = q; right = a.right; to = p } ∈ a.assertions → p < a.count → Step a q p
  anyone : {q p : ℕ} → q ≡ 1 → p < a.count → Step a q p

-- a chain of n steps from admin to p; admin has the chain of length 0
pub data Chain (a : Asked) : ℕ → ℕ → Type 0 where
  admin : 0 < a.count → Chain a 0 0
  link : {n q p : ℕ} → Chain a n q → Step a q p → Chain a (suc n) p

-- a chain of n steps leads to p and none is shorter; n is at most the principals less one
pub record Shortest (a : Asked) (p n : ℕ) : Type 0 where
  pub chain : Chain a n p
  pub least : (m : ℕ) → Chain a m p → n ≤ m
  pub short : n < a.count

-- the answer is right: Some n where the shortest chain has n steps, None where there is none of any length
abbrev pub Answered : Asked → ℕ → Option ℕ → Type 0
Answered a p (Some n) = Shortest a p n
Answered a p None = (m : ℕ) → Chain a m p → ⊥

-- somebody's shortest chain has k steps, and nobody's has more
pub record Longest (a : Asked) (k : ℕ) : Type 0 where
  pub who : ℕ
  pub theirs : Shortest a who k
  pub most : (p n : ℕ) → Shortest a p n → n ≤ k

-- the rounds that a search begins (document 02, M-103): on a yes as many as the chain has steps, on a no one more than the longest of the shortest chains
abbrev pub Begun : Asked → Option ℕ → ℕ → Type 0
Begun a (Some n) r = r ≡ n
Begun a None r = (k : ℕ) × Longest a k × (r ≡ suc k)

-- a search for p says o and began r rounds: none for a number that no principal has
pub record Searched (a : Asked) (p : ℕ) (o : Option ℕ) (r : ℕ) : Type 0 where
  pub answer : Answered a p o
  pub begun : p < a.count → Begun a o r
  pub outside : a.count ≤ p → r ≡ 0

abbrev pub asked : List Assertion → ℕ → ℕ → ℕ → Asked
asked s n v w = record { assertions = s; count = n; variable = v; right = w }
