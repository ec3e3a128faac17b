-- Principals by number: whether a name is there.
use mathlib.Core.Path.{◌≡◌, ap, ◌∙◌}
use mathlib.Core.Bool.{true, false}
use mathlib.Core.List.{List, map}
use Prim.Native.Nat.{ℕ, ◌-◌, ◌≤◌, ◌<◌}
use native.Mathlib.Decide.{dec_le}
use native.Mathlib.Omega.{arith}
use borrow.Author.Tests.{lt-ltb, le-ltb}
use lib.ListN.{length, take, drop, length-map, length-drop}
use lib.Seq.{length-take-le}
use Rattle.language.specs.Text.{Text}
use Rattle.language.specs.Syntax.{Name}
use Rattle.language.specs.Values.{Session, is_principal}
use Rattle.store.specs.Rows.{Row, Rows, row_names, position, principal_row}
use Rattle.store.proofs.Holders.{principals_rows}
use Rattle.store.proofs.Answers.{principal_names_lem}
use Rattle.named_rights.specs.Numbers.{principals_of}
use Rattle.session.specs.declared.Layout.{Layout}
use Rattle.session.specs.Sessions.{Slices, Running}
use Rattle.session.proofs.Admin.{principal_exists}
use Rattle.store.proofs.Positions.{position_most}

pub part_length : (t : Text) (s e : ℕ) → e ≤ length t → length (take (e - s) (drop s t)) ≡ e - s
part_length t s e h = length-take-le (e - s) (drop s t) (omega (arith, length-drop s t))

-- the number of a row is that of its principal
pub row_number : (s : Session) (l : Layout) (b : Slices) → Running s l b → (p : Name) (n : ℕ)
    → ((rows : List Row) → Rows rows (take l.principals_len b.principals) l.principals b.principal_slots → n ≡ position (row_names rows) p) → n ≡ position (principals_of s.store) p
row_number s l b R p n f =
    f (map principal_row s.store.principals) (principals_rows s.store.principals (take l.principals_len b.principals) l.principals b.principal_slots R.principals)
    ∙ ap (λ (ns : List Name). position ns p) (principal_names_lem s.store.principals)

module _ (s : Session) (l : Layout) (b : Slices) (R : Running s l b) (p : Name) (n : ℕ) (e : n ≡ position (principals_of s.store) p) where
  pub is_missing : n ≡ l.principals → is_principal s p ≡ false
  is_missing h = principal_exists s l b R p ∙ le-ltb (position (principals_of s.store) p) l.principals (omega (arith, e, h))

  pub is_there : n < l.principals → is_principal s p ≡ true
  is_there h = principal_exists s l b R p ∙ lt-ltb (position (principals_of s.store) p) l.principals (omega (arith, e, h))

  pub number_below : (n ≡ l.principals → ⊥) → n < l.principals
  number_below h =
      let m : n ≤ l.principals = omega (arith, e, position_most (principals_of s.store) p, length-map s.store.principals (λ k. k.name), R.principals.counted) in
      elim (dec_le l.principals n) [ yes k ↦ absurd (h (omega arith)) | no k ↦ omega arith ]
