-- What the store's look-ups say, as answers.
-- Assumes nothing.
use mathlib.Core.Path.{◌≡◌, sym, ap, ◌∙◌}
use mathlib.Core.Bool.{Bool}
use mathlib.Core.Option.{some}
use mathlib.Core.List.{List, [], map}
use Prim.Native.Nat.{ℕ, ◌+◌, ◌≤◌, ◌<◌}
use native.Mathlib.Omega.{arith}
use borrow.Author.Tests.{lt-ltb, le-ltb}
use lib.ListN.{length, get_or, length-map, get_or-map}
use Rattle.std.specs.Prelude.{None}
use Rattle.language.specs.Text.{Text, when◌then◌else◌}
use Rattle.language.specs.Syntax.{Name}
use Rattle.language.specs.State.{Principal, Variable}
use Rattle.text.specs.Parts.{part}
use Rattle.store.specs.Rows.{Row, Rows, no_row, row_names, position, found_at, place, principal_row, variable_row, Placed}
use Rattle.store.specs.Contents.{principal_at, variable_at}
use Rattle.contents.specs.Contents.{kept_at, PasswordAt, ValueAt}
use Rattle.store.specs.declared.index.Place.{Place}
use Rattle.store.proofs.Records.{name_part}
use Rattle.store.proofs.Answers.{FoundPrincipal, principal_found, principal_missing, answered, value_at, variable_names_lem, variable_missing}
use Rattle.state_lookups.specs.Looks.{missing, unkept, found, password, principal, value, counted, principal_of, count_said, variable_of, name_of}

-- ---- principals

module _ (ks : List Principal) (x : Name) where
  pub principal_gone : None ≡ place (map principal_row ks) x → principal_of ks x ≡ missing
  principal_gone q = ap (principal (position (map (λ k. k.name) ks) x)) (principal_missing ks x q)

  pub count_gone : None ≡ place (map principal_row ks) x → count_said ks x ≡ 4294967298
  count_gone q = ap counted (principal_missing ks x q)

  module _ (k s e : ℕ) (q : found_at k s e ≡ place (map principal_row ks) x) where
    pub count_here : count_said ks x ≡ (principal_at ks k).count
    count_here = ap counted (principal_found ks x k s e q).is_named

    principal_here : principal_of ks x ≡ password k (principal_at ks k).password
    principal_here =
        let F : FoundPrincipal ks x k = principal_found ks x k s e q in
        (λ i. principal (sym F.number i) (F.is_named i))

    pub principal_kept : (t : Text) (a b : ℕ) → PasswordAt ks t k (kept_at a b) → principal_of ks x ≡ found k (part t a b)
    principal_kept t a b P = principal_here ∙ ap (password k) (sym P.meant)

    pub principal_bare : (t : Text) → PasswordAt ks t k None → principal_of ks x ≡ unkept k
    principal_bare t P = principal_here ∙ ap (password k) (sym P.meant)

-- ---- variables

module _ (vs : List Variable) (x : Name) where
  pub variable_gone : None ≡ place (map variable_row vs) x → variable_of vs x ≡ missing
  variable_gone q = ap (value (position (map (λ v. v.name) vs) x)) (variable_missing vs x q)

  pub variable_here : (k s e : ℕ) → found_at k s e ≡ place (map variable_row vs) x → (t : Text) (a b : ℕ) → ValueAt vs t k a b → variable_of vs x ≡ found k (part t a b)
  variable_here k s e q t a b P =
      let A = answered (map variable_row vs) x k s e q in
      let n : k ≡ position (map (λ v. v.name) vs) x = A.number ∙ ap (λ (ns : List Name). position ns x) (variable_names_lem vs) in
      let l : position (map (λ v. v.name) vs) x < length vs = omega (arith, n, A.below, length-map vs variable_row) in
      ap (value (position (map (λ v. v.name) vs) x)) (value_at vs x l)
      ∙ ap (λ (m : ℕ). value m (some (variable_at vs m).value)) (sym n)
      ∙ ap (found k) (sym P.is_value)

-- ---- names by number

module _ (rows : List Row) (n : ℕ) where
  count_names : length (row_names rows) ≡ length rows
  count_names = length-map rows (λ (r : Row). r.name)

  pub name_gone : length rows ≤ n → name_of (row_names rows) n ≡ missing
  name_gone h = ap (λ (b : Bool). when b then found n (get_or (row_names rows) n []) else missing) (le-ltb n (length (row_names rows)) (omega (arith, count_names)))

  pub name_here : (t : Text) (count : ℕ) (slots : List ℕ) → Rows rows t count slots → n < count → (p : Place) → Placed rows n p
      → name_of (row_names rows) n ≡ found n (part t (p.start + 2) p.mid)
  name_here t count slots H h p P =
      ap (λ (b : Bool). when b then found n (get_or (row_names rows) n []) else missing) (lt-ltb n (length (row_names rows)) (omega (arith, count_names, H.counted)))
      ∙ ap (found n) (get_or-map (λ (r : Row). r.name) rows n no_row ∙ sym (name_part rows t count slots H n h p.mid P.name_ends))
      ∙ ap (λ (m : ℕ). found n (part t (m + 2) p.mid)) (sym P.starts)
