-- What the scans over numbers answer.
use Rattle.std.specs.Prelude.{◌≡◌, ℕ, ◌/◌, ◌≤◌, ◌<◌, Bool, true, false, List, get_or, Option, Some, None}
use Rattle.store.specs.Held.{places}

-- r is the first place from `from` up to `to` where a slot has the hash p, or `to` where there is none
pub record FirstHit (slots : List ℕ) (from to p r : ℕ) : Type 0 where
  pub low : from ≤ r
  pub high : r ≤ to
  pub none_before : (j : ℕ) → j < r → from ≤ j → get_or slots j 0 / places ≡ p → ⊥
  pub hit : r < to → get_or slots r 0 / places ≡ p

-- the first place from `from` up to `to` where a slot has the hash p, if there is one
abbrev pub FirstMeant : List ℕ → ℕ → ℕ → ℕ → Option ℕ → Type 0
FirstMeant slots from to p (Some r) = (r < to) × FirstHit slots from to p r
FirstMeant slots from to p None = FirstHit slots from to p to

-- place j, from `from` up to `to`, has a slot with the hash p
pub record HitAt (slots : List ℕ) (from to p j : ℕ) : Type 0 where
  pub low : from ≤ j
  pub high : j < to
  pub hit : get_or slots j 0 / places ≡ p

-- whether there is such a place
abbrev pub HitMeant : List ℕ → ℕ → ℕ → ℕ → Bool → Type 0
HitMeant slots from to p true = (j : ℕ) × HitAt slots from to p j
HitMeant slots from to p false = (j : ℕ) → HitAt slots from to p j → ⊥
