-- One step of the search by rounds, as functions on lists. A list of marks has an entry for each principal: how many steps lead there, or
-- `unreached`.
use Rattle.std.specs.Prelude.{◌≡◌, Bool, true, false, cond, ℕ, ◌+◌, length, get_or, set, ltb, eqb}
use mathlib.Core.List.{List, [], ◌∷◌, map, Memᴰ}
use Rattle.assertion.specs.Packed.{Assertion}

infix 50 ◌∈◌
abbrev pub ◌∈◌ : {A : Type 0} → A → List A → Type 0
x ∈ l = Memᴰ x l

-- what an assertion gives once variable and right are settled: who hands on, and to whom
pub record Delegation : Type 0 where
  pub from : ℕ
  pub to : ℕ

abbrev pub handed : Assertion → Delegation
handed a = record { from = a.from; to = a.to }

-- the delegations for variable v and right w, in order of entry
unfoldable pub delegations : ℕ → ℕ → List Assertion → List Delegation
delegations v w [] = []
delegations v w (a ∷ s) =
    let rest : List Delegation = delegations v w s in
    cond (eqb a.variable v) (cond (eqb a.right w) (handed a ∷ rest) rest) rest

-- the mark of a principal that no round has reached
abbrev pub unreached : ℕ
unreached = 65535

-- a mark, or d for who is not reached
abbrev pub mark_or : ℕ → ℕ → ℕ
mark_or d m = cond (eqb m unreached) d m

-- everyone who is not reached gets the mark d
abbrev pub rest_reached : ℕ → List ℕ → List ℕ
rest_reached d l = map (mark_or d) l

-- the step from q to p in round d: p gets d + 1 where q has d and p has nothing yet
unfoldable pub marked : ℕ → ℕ → ℕ → List ℕ → List ℕ
marked d q p l =
    cond (ltb q (length l))
    (cond (eqb (get_or l q 0) d)
    (cond (ltb p (length l))
    (cond (eqb (get_or l p 0) unreached) (set l p (d + 1)) l) l) l) l

abbrev pub one_if : Bool → ℕ
one_if true = 1
one_if false = 0

-- how many are not reached
unfoldable pub left : List ℕ → ℕ
left [] = 0
left (x ∷ l) = one_if (eqb x unreached) + left l

-- the marks are now `new`, and r counts who was reached on the way
pub record Marks (old new last : List ℕ) (r : ℕ) : Type 0 where
  pub marks : last ≡ new
  pub counts : r + left last ≡ left old
