-- Where a record lies, from its place.
-- Assumes nothing.
use mathlib.Core.List.{List}
use Prim.Native.Nat.{ℕ, suc, ◌+◌, ◌≤◌, ◌<◌}
use native.Mathlib.Omega.{arith}
use lib.ListN.{length}
use Rattle.language.specs.Text.{Text}
use Rattle.store.specs.Rows.{Row, Rows, SomeRows, Placed}
use Rattle.store.specs.declared.index.Place.{Place}
use Rattle.store.proofs.Records.{start_before, start_in}

-- what is known of a place for the sake of safety
pub record Lies (t : Text) (p : Place) : Type 0 where
  pub first : p.start + 2 ≤ p.mid
  pub middle : p.mid < p.end
  pub last : p.end ≤ length t

pub lies : (rows : List Row) (t : Text) (count : ℕ) (slots : List ℕ) → Rows rows t count slots → (k : ℕ) → k < count → (p : Place) → Placed rows k p → Lies t p
lies rows t count slots H k h p P = record {
  first = omega (arith, P.starts, P.name_ends);
  middle = omega (arith, P.name_ends, P.ends, start_before rows t count slots H k h);
  last = omega (arith, P.ends, start_in rows t count slots H (suc k));
}

-- the same of what `nth` answers
pub lies_here : {t : Text} {count : ℕ} {slots : List ℕ} {k : ℕ} {p : Place} → SomeRows t count slots → k < count
    → ((rows : List Row) → Rows rows t count slots → Placed rows k p) → Lies t p
lies_here {t} {count} {slots} {k} {p} S h P = lies S.rows t count slots S.held k h p (P S.rows S.held)
