-- What the loops over the numbers leave.
use Rattle.std.specs.Prelude.{Option, Some, None, ◌≡◌, ℕ, ◌+◌, ◌-◌, ◌≤◌, ◌<◌, List, ◌++◌, get_or, take, drop}

-- r is the first place below n that holds a, or n where there is none
pub record FirstAt (l : List ℕ) (n a r : ℕ) : Type 0 where
  pub high : r ≤ n
  pub none_before : (j : ℕ) → j < r → get_or l j 0 ≡ a → ⊥
  pub hit : r < n → get_or l r 0 ≡ a

-- the first place below n that holds a, if there is one
abbrev pub FirstMeant : List ℕ → ℕ → ℕ → Option ℕ → Type 0
FirstMeant l n a (Some r) = (r < n) × FirstAt l n a r
FirstMeant l n a None = FirstAt l n a n

-- the list without what stood at place k; what stood at place n - 1 stands there still
abbrev pub closed : List ℕ → ℕ → ℕ → List ℕ
closed l k n = take k l ++ (take (n - (k + 1)) (drop (k + 1) l) ++ drop (n - 1) l)
