-- The board of a search by rounds among n principals over a list of assertions: one table of numbers.
--     0 to n           the marks: how many steps lead to a principal, or `unreached`
--     n to 2 n         for each principal the assertion from it that comes first, or `nothing`
--     2 n to 3 n       the one that comes last
--     3 n              the first assertion of the round to come, or `nothing`
--     from 3 n + 1 on  for each assertion the one that is gone over after it, or `nothing`
-- A round goes over those assertions only that lead on from somebody who was reached in the round before.
use Rattle.std.specs.Prelude.{◌≡◌, List, [], ◌∷◌, ◌⊎◌, Bool, true, cond, ℕ, ◌+◌, ◌*◌, ◌<◌, length, get_or, set, take, replicate, eqb}
use Rattle.assertion.specs.Packed.{Assertion}
use Rattle.board.specs.declared.Reached.{Reached}
use Rattle.board.specs.declared.Reached.TheVariants.{Nobody, Somebody, Principal}
use Rattle.search_steps.specs.Steps.{◌∈◌, unreached}

-- the number of no assertion
abbrev pub nothing : ℕ
nothing = 65535

abbrev pub first_from : ℕ → List ℕ → ℕ → ℕ
first_from n b q = get_or b (n + q) 0

abbrev pub last_from : ℕ → List ℕ → ℕ → ℕ
last_from n b q = get_or b (2 * n + q) 0

abbrev pub next_round : ℕ → List ℕ → ℕ
next_round n b = get_or b (3 * n) 0

abbrev pub following : ℕ → List ℕ → ℕ → ℕ
following n b k = get_or b (3 * n + 1 + k) 0

-- how long a board is, for m assertions
abbrev pub board_size : ℕ → ℕ → ℕ
board_size n m = 3 * n + 1 + m

-- ---- what the steps do

-- assertion k is from q, and comes first of those from q
abbrev pub entered : ℕ → ℕ → ℕ → List ℕ → List ℕ
entered n q k b =
    let next : List ℕ = set (set b (n + q) k) (3 * n + 1 + k) (first_from n b q) in
    cond (eqb (first_from n b q) nothing) (set next (2 * n + q) k) next

-- the assertions from t are put before those of the round to come
abbrev pub pushed : ℕ → ℕ → List ℕ → List ℕ
pushed n t b =
    cond (eqb (first_from n b t) nothing) b
    (set (set b (3 * n + 1 + last_from n b t) (next_round n b)) (3 * n) (first_from n b t))

-- ---- what a board says

-- the assertion at place k of a list
abbrev pub at : List Assertion → ℕ → Assertion
at ys k = get_or ys k (record { variable = 0; from = 0; right = 0; to = 0 })

-- the places ks are gone over one after the other, from c on, by the step f
abbrev pub Linked : (ℕ → ℕ) → ℕ → List ℕ → Type 0
Linked f c [] = c ≡ nothing
Linked f c (k ∷ ks) = (c ≡ k) × Linked f (f k) ks

-- z comes last of some places, and is the least of them
abbrev pub Ends : List ℕ → ℕ → Type 0
Ends [] z = ⊥
Ends (k ∷ ks) z = ((ks ≡ []) × (k ≡ z)) ⊎ ((z < k) × Ends ks z)

-- the assertions from q among the first m are linked
pub record Bucket (n : ℕ) (ys : List Assertion) (m : ℕ) (b : List ℕ) (q : ℕ) : Type 0 where
  pub places : List ℕ
  pub linked : Linked (following n b) (first_from n b q) places
  pub ends : (places ≡ []) ⊎ Ends places (last_from n b q)
  pub those : (k : ℕ) → k ∈ places → (k < m) × ((at ys k).from ≡ q)
  pub all : (k : ℕ) → k < m → (at ys k).from ≡ q → k ∈ places

-- the first m assertions are entered, and nobody is reached
pub record Filed (n : ℕ) (ys : List Assertion) (m : ℕ) (b : List ℕ) : Type 0 where
  pub sized : length b ≡ board_size n (length ys)
  pub marks : take n b ≡ replicate n unreached
  pub round : next_round n b ≡ nothing
  pub buckets : (q : ℕ) → q < n → Bucket n ys m b q

-- the assertions ks are gone over from c on, and lead on from somebody who has the mark d
pub record Walk (n : ℕ) (ys : List Assertion) (b : List ℕ) (d c : ℕ) (ks : List ℕ) : Type 0 where
  pub linked : Linked (following n b) c ks
  pub those : (k : ℕ) → k ∈ ks → (k < length ys) × ((at ys k).from < n) × (get_or b (at ys k).from 0 ≡ d)

-- every assertion that leads on from somebody who has the mark d is among ks
abbrev pub Whole : ℕ → List Assertion → List ℕ → ℕ → List ℕ → Type 0
Whole n ys b d ks = (k : ℕ) → k < length ys → (at ys k).from < n → get_or b (at ys k).from 0 ≡ d → k ∈ ks

-- the assertions from whoever is not reached are still linked by themselves
abbrev pub Kept : ℕ → List Assertion → List ℕ → Type 0
Kept n ys b = (q : ℕ) → q < n → get_or b q 0 ≡ unreached → Bucket n ys (length ys) b q

-- before round d: it will go over all assertions that lead on from somebody who has the mark d
pub record Front (n : ℕ) (ys : List Assertion) (b : List ℕ) (d : ℕ) : Type 0 where
  pub next : List ℕ
  pub walk : Walk n ys b d (next_round n b) next
  pub whole : Whole n ys b d next
  pub kept : Kept n ys b

-- the search can begin: admin alone is reached
pub record Ready (n : ℕ) (ys : List Assertion) (b : List ℕ) : Type 0 where
  pub sized : length b ≡ board_size n (length ys)
  pub marks : take n b ≡ set (replicate n unreached) 0 0
  pub front : Front n ys b 0

-- ---- what a round's steps say

-- anyone's step at the head of round d: r is true where anyone has d, and then p gets d + 1
pub record Spread (d p : ℕ) (old last : List ℕ) (r : Bool) : Type 0 where
  pub opens : r ≡ true → (get_or old 1 0 ≡ d) × (last ≡ set old p (d + 1))
  pub shuts : (r ≡ true → ⊥) → (get_or old 1 0 ≡ d → ⊥) × (last ≡ old)

-- the step from q to t in round d reaches t
pub record Reaches (n d q t : ℕ) (b : List ℕ) : Type 0 where
  pub q_in : q < n
  pub q_has : get_or b q 0 ≡ d
  pub t_in : t < n
  pub t_has : get_or b t 0 ≡ unreached

-- an assertion's step from q to t in round d, for p: it reaches nobody; or somebody else than p, and then the assertions from t are put
-- before those of the round to come; or p
abbrev pub Stepped : ℕ → ℕ → ℕ → ℕ → ℕ → List ℕ → List ℕ → Reached → Type 0
Stepped n d q t p old last Nobody = (last ≡ old) × (Reaches n d q t old → ⊥)
Stepped n d q t p old last Somebody = Reaches n d q t old × (t ≡ p → ⊥) × (last ≡ pushed n t (set old t (d + 1)))
Stepped n d q t p old last Principal = Reaches n d q t old × (t ≡ p) × (last ≡ set old t (d + 1))
