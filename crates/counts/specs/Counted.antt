-- A principal's count: its value, and where its digits stand.
use Rattle.std.specs.Prelude.{◌≡◌, ℕ, suc, ◌+◌, ◌≤◌, List, ◌∷◌, ◌++◌, map, T, length, drop}
use Rattle.language.specs.Text.{Text, all, decimal}
use Rattle.language.specs.State.{Principal, last_count}
use Rattle.language.specs.Valid.{valid_principal}
use Rattle.language.specs.Encode.{newline}
use Rattle.store.specs.Held.{Principals}
use Rattle.store.specs.Rows.{start_of, principal_row}
use Rattle.store.specs.Contents.{principal_at}
use Rattle.counts.specs.declared.Count.{Count}

-- the text and the slots hold some principals, and each is valid
pub record SomeCounted (t : Text) (count : ℕ) (slots : List ℕ) : Type 0 where
  pub principals : List Principal
  pub held : Principals principals t count slots
  pub valid : T (all valid_principal principals)

-- r is the count of principal k: its digits stand from `start` up to `end`, where the line ends
pub record Counted (ks : List Principal) (t : Text) (k : ℕ) (r : Count) : Type 0 where
  pub is_count : r.value ≡ (principal_at ks k).count
  pub bound : r.value ≤ last_count
  pub size : r.start + length (decimal r.value) ≡ r.end
  pub ends : r.end + 1 ≡ start_of (map principal_row ks) (suc k)
  pub within : r.end + 1 ≤ length t
  pub here : drop r.start t ≡ decimal r.value ++ newline ∷ drop (r.end + 1) t
