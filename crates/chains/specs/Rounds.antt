-- The search by rounds, as functions on lists.
use Rattle.std.specs.Prelude.{Option, Some, None, ◌≡◌, List, [], ◌∷◌, cond, ℕ, zero, suc, ◌+◌, ◌<◌, length, get_or, set, replicate, ltb, eqb}
use Rattle.search_steps.specs.Steps.{Delegation, delegations, unreached, marked, left}
use Rattle.chains.specs.Chain.{Asked, Answered}

-- the delegations that are asked about
abbrev pub relevant : Asked → List Delegation
relevant a = delegations a.variable a.right a.assertions

-- round d: everyone one delegation further
unfoldable pub one_round : ℕ → List Delegation → List ℕ → List ℕ
one_round d [] l = l
one_round d (x ∷ s) l = one_round d s (marked d x.from x.to l)

-- what a search that began r rounds says, where the mark of the principal is m
abbrev pub found : ℕ → ℕ → Option ℕ
found r m = cond (eqb m unreached) None (Some r)

-- the answer that a mark is
abbrev pub answer_of : ℕ → Option ℕ
answer_of m = found m m

-- the marks l say of every principal what the search for it answers: the length of its shortest chain, or that there is none
pub record Everyone (a : Asked) (l : List ℕ) : Type 0 where
  pub size : length l ≡ a.count
  pub answers : (p : ℕ) → p < a.count → Answered a p (answer_of (get_or l p 0))

-- admin alone is reached, among n
unfoldable pub start : ℕ → List ℕ
start n = set (replicate n unreached) 0 0

-- what holds of whoever asks about these delegations among n principals
abbrev pub Whoever : List Delegation → ℕ → (Asked → Type 0) → Type 0
Whoever s n P = (a : Asked) → relevant a ≡ s → a.count ≡ n → P a

-- the search for p from round d on, k rounds at most: p is reached; or anyone is, who is a step from everybody; or nobody new is
unfoldable pub searched : ℕ → ℕ → List Delegation → ℕ → List ℕ → Option ℕ
searched zero d s p l = None
searched (suc k) d s p l =
    let next : List ℕ = one_round d s l in
    let rest : Option ℕ = searched k (d + 1) s p next in
    cond (eqb (get_or l p 0) unreached) (cond (eqb (get_or l 1 0) d) (Some (d + 1)) (cond (eqb (left next) (left l)) None rest)) (Some d)

-- the answer, as a computation
unfoldable pub shortest_of : Asked → ℕ → Option ℕ
shortest_of a p = cond (ltb p a.count) (searched a.count 0 (relevant a) p (start a.count)) None

-- the longer of a chain that was found and one of m steps
abbrev pub longer : Option ℕ → ℕ → ℕ
longer (Some n) m = cond (ltb m n) n m
longer None m = m

-- the longest of the shortest chains to the first k principals
unfoldable pub longest_of : Asked → ℕ → ℕ
longest_of a zero = 0
longest_of a (suc k) = longer (shortest_of a k) (longest_of a k)

-- the rounds that are begun for an answer, where the longest of all shortest chains has k steps
abbrev pub begun_for : Option ℕ → ℕ → ℕ
begun_for (Some n) k = n
begun_for None k = suc k

-- the rounds begun, as a computation
unfoldable pub begun_of : Asked → ℕ → ℕ
begun_of a p = cond (ltb p a.count) (begun_for (shortest_of a p) (longest_of a a.count)) 0
