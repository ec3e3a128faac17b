-- What a look-up by name says of principals and of variables.
-- Assumes nothing.
use mathlib.Core.Path.{◌≡◌, refl, sym, ap, subst, ◌∙◌}
use mathlib.Core.Bool.{Bool, true, false}
use mathlib.Core.Option.{none, some}
use mathlib.Core.List.{List, [], ◌∷◌, map}
use Rattle.std.specs.Prelude.{None}
use Prim.Native.Nat.{ℕ, zero, suc, ◌+◌, ◌≤◌, ◌<◌}
use native.Mathlib.Nat.{not-suc-le-zero, le_of_suc-le-suc}
use native.Mathlib.Omega.{arith}
use borrow.Author.Tests.{ltb-true, ltb-false}
use lib.Dec.{T, ltb}
use lib.ListN.{length, get_or, length-map, get_or-map}
use Rattle.language.specs.Text.{Text, ◌≟◌, when◌then◌else◌}
use Rattle.language.specs.Syntax.{Name}
use Rattle.language.specs.State.{list, Principal, Variable, named, value_in}
use Rattle.language.specs.Former.{Form, current, former}
use Rattle.language.specs.Encode.{value_text}
use Rattle.language.proofs.Logic.Tests.{==→≡}
use Rattle.store.specs.Held.{Variables}
use Rattle.text.specs.Parts.{part}
use Rattle.store.specs.Rows.{Row, Rows, no_row, row_at, row_names, start_of, position, found_at, place, principal_row, row_in, variable_row}
use Rattle.store.specs.Contents.{principal_at, variable_at}
use Rattle.store.specs.declared.index.Found.{Found}
use Rattle.store.proofs.Records.{start_before, start_in, body_part}
use Rattle.store.proofs.Holders.{variables_rows}

-- ---- what an answer says

-- an element of a mapped list
pub map_at : {A B : Type 0} (f : A → B) (l : List A) (k : ℕ) (d : A) (e : B) → k < length l → get_or (map f l) k e ≡ f (get_or l k d)
map_at f [] k d e h = absurd (not-suc-le-zero h)
map_at f (a ∷ l) zero d e h = refl
map_at f (a ∷ l) (suc k) d e h = map_at f l k d e (le_of_suc-le-suc h)

pub record Answered (rows : List Row) (x : Name) (k s e : ℕ) : Type 0 where
  pub number : k ≡ position (row_names rows) x
  pub below : k < length rows
  pub starts : s ≡ start_of rows k
  pub ends : e ≡ start_of rows (suc k)

pub answered : (rows : List Row) (x : Name) (k s e : ℕ) → found_at k s e ≡ place rows x → Answered rows x k s e
answered rows x k s e q = go (ltb (position (row_names rows) x) (length rows)) refl q
  where
    n : ℕ
    n = position (row_names rows) x

    go : (b : Bool) → ltb n (length rows) ≡ b → found_at k s e ≡ (when b then found_at n (start_of rows n) (start_of rows (suc n)) else None) → Answered rows x k s e
    go true h q =
        let same : ◌≡◌ {A = Found} (record { number = k; start = s; end = e }) (record { number = n; start = start_of rows n; end = start_of rows (suc n) }) = cc in
        let en : k ≡ n = ap (λ (f : Found). f.number) same in
        let es : s ≡ start_of rows n = ap (λ (f : Found). f.start) same in
        let ee : e ≡ start_of rows (suc n) = ap (λ (f : Found). f.end) same in
        record {
          number = en;
          below = omega (arith, en, ltb-true n (length rows) h);
          starts = es ∙ ap (start_of rows) (sym en);
          ends = ee ∙ ap (λ (m : ℕ). start_of rows (suc m)) (sym en);
        }
    go false h q = absurd (let z : ◌≡◌ {A = ℕ} 0 1 = cc in omega arith)

pub unanswered : (rows : List Row) (x : Name) → None ≡ place rows x → length rows ≤ position (row_names rows) x
unanswered rows x q = go (ltb (position (row_names rows) x) (length rows)) refl q
  where
    n : ℕ
    n = position (row_names rows) x

    go : (b : Bool) → ltb n (length rows) ≡ b → None ≡ (when b then found_at n (start_of rows n) (start_of rows (suc n)) else None) → length rows ≤ n
    go true h q = absurd (let z : ◌≡◌ {A = ℕ} 0 1 = cc in omega arith)
    go false h q = ltb-false n (length rows) h

-- the name at its place
pub position_name : (l : List Name) (x : Name) → position l x < length l → get_or l (position l x) [] ≡ x
position_name [] x h = absurd (not-suc-le-zero h)
position_name (y ∷ l) x h = go (y ≟ x) refl h (position_name l x)
  where
    go : (b : Bool) → (y ≟ x) ≡ b → (when b then 0 else suc (position l x)) < suc (length l) → (position l x < length l → get_or l (position l x) [] ≡ x)
        → get_or (y ∷ l) (when b then 0 else suc (position l x)) [] ≡ x
    go true e h f = ==→≡ y x (subst T (sym e) tt)
    go false e h f = f (le_of_suc-le-suc h)

pub variable_names_lem : (vs : List Variable) → row_names (map variable_row vs) ≡ map (λ v. v.name) vs
variable_names_lem [] = refl
variable_names_lem (v ∷ vs) = ap (λ (l : List Name). v.name ∷ l) (variable_names_lem vs)

pub names_in : (f : Form) (ks : List Principal) → row_names (map (row_in f) ks) ≡ map (λ k. k.name) ks
names_in f [] = refl
names_in current (k ∷ ks) = ap (λ (l : List Name). k.name ∷ l) (names_in current ks)
names_in former (k ∷ ks) = ap (λ (l : List Name). k.name ∷ l) (names_in former ks)

pub principal_names_lem : (ks : List Principal) → row_names (map principal_row ks) ≡ map (λ k. k.name) ks
principal_names_lem = names_in current

-- a value, a principal by the place of its name
pub value_at : (vs : List Variable) (x : Name) → position (map (λ v. v.name) vs) x < length vs
    → value_in vs x ≡ some (variable_at vs (position (map (λ v. v.name) vs) x)).value
value_at [] x h = absurd (not-suc-le-zero h)
value_at (v ∷ vs) x h = go (v.name ≟ x) h (value_at vs x)
  where
    n : ℕ
    n = position (map (λ v. v.name) vs) x

    go : (b : Bool) → (when b then 0 else suc n) < suc (length vs) → (n < length vs → value_in vs x ≡ some (variable_at vs n).value)
        → (when b then some v.value else value_in vs x) ≡ some (variable_at (v ∷ vs) (when b then 0 else suc n)).value
    go true h f = refl
    go false h f = f (le_of_suc-le-suc h)

pub value_none : (vs : List Variable) (x : Name) → length vs ≤ position (map (λ v. v.name) vs) x → value_in vs x ≡ none
value_none [] x h = refl
value_none (v ∷ vs) x h = go (v.name ≟ x) h (value_none vs x)
  where
    n : ℕ
    n = position (map (λ v. v.name) vs) x

    go : (b : Bool) → suc (length vs) ≤ (when b then 0 else suc n) → (length vs ≤ n → value_in vs x ≡ none) → (when b then some v.value else value_in vs x) ≡ none
    go true h f = absurd (not-suc-le-zero h)
    go false h f = f (le_of_suc-le-suc h)

pub principal_at_lem : (ks : List Principal) (p : Name) → position (map (λ k. k.name) ks) p < length ks
    → named ks p ≡ some (principal_at ks (position (map (λ k. k.name) ks) p))
principal_at_lem [] p h = absurd (not-suc-le-zero h)
principal_at_lem (k ∷ ks) p h = go (k.name ≟ p) h (principal_at_lem ks p)
  where
    n : ℕ
    n = position (map (λ k. k.name) ks) p

    go : (b : Bool) → (when b then 0 else suc n) < suc (length ks) → (n < length ks → named ks p ≡ some (principal_at ks n))
        → (when b then some k else named ks p) ≡ some (principal_at (k ∷ ks) (when b then 0 else suc n))
    go true h f = refl
    go false h f = f (le_of_suc-le-suc h)

pub principal_none : (ks : List Principal) (p : Name) → length ks ≤ position (map (λ k. k.name) ks) p → named ks p ≡ none
principal_none [] p h = refl
principal_none (k ∷ ks) p h = go (k.name ≟ p) h (principal_none ks p)
  where
    n : ℕ
    n = position (map (λ k. k.name) ks) p

    go : (b : Bool) → suc (length ks) ≤ (when b then 0 else suc n) → (length ks ≤ n → named ks p ≡ none) → (when b then some k else named ks p) ≡ none
    go true h f = absurd (not-suc-le-zero h)
    go false h f = f (le_of_suc-le-suc h)

-- ---- a variable that was found

-- the variable x of vs has number k, and its record stands from s up to e
pub record FoundVariable (vs : List Variable) (t : Text) (x : Name) (k s e : ℕ) : Type 0 where
  pub number : k ≡ position (map (λ v. v.name) vs) x
  pub below : k < length vs
  pub is_value : value_in vs x ≡ some (variable_at vs k).value
  pub order : s + 3 + length x ≤ e
  pub within : e ≤ length t
  pub value_bytes_lem : part t (s + 3 + length x) e ≡ value_text (variable_at vs k).value

-- what holds of any row that was found
pub record FoundRow (t : Text) (x : Name) (s e : ℕ) : Type 0 where
  pub order : s + 3 + length x ≤ e
  pub within : e ≤ length t

module _ (rows : List Row) (t : Text) (count : ℕ) (slots : List ℕ) (H : Rows rows t count slots) (x : Name) (k s e : ℕ) (q : found_at k s e ≡ place rows x) where
  pub found_name : (row_at rows k).name ≡ x
  found_name =
      let A = answered rows x k s e q in
      let c : length (row_names rows) ≡ length rows = length-map rows (λ (r : Row). r.name) in
      sym (get_or-map (λ (r : Row). r.name) rows k no_row) ∙ ap (λ (n : ℕ). get_or (row_names rows) n []) A.number
      ∙ position_name (row_names rows) x (omega (arith, A.number, A.below, c))

  pub found_row : FoundRow t x s e
  found_row =
      let A = answered rows x k s e q in
      let h : k < count = omega (arith, A.below, H.counted) in
      let n : length (row_at rows k).name ≡ length x = ap length found_name in
      record {
        order = omega (arith, A.starts, A.ends, n, start_before rows t count slots H k h);
        within = omega (arith, A.ends, start_in rows t count slots H (suc k));
      }

  -- what follows the name and a tab
  pub found_body : (b : Text) → (row_at rows k).body ≡ some b → part t (s + 3 + length x) e ≡ b
  found_body b r =
      let A = answered rows x k s e q in
      let h : k < count = omega (arith, A.below, H.counted) in
      let n : length (row_at rows k).name ≡ length x = ap length found_name in
      let p : s + 3 + length x ≡ start_of rows k + 2 + length (row_at rows k).name + 1 = omega (arith, A.starts) in
      (λ i. part t (p i) (A.ends i)) ∙ body_part rows t count slots H k h b r

pub variable_found : (vs : List Variable) (t : Text) (count : ℕ) (slots : List ℕ) → Variables vs t count slots → (x : Name) (k s e : ℕ)
    → found_at k s e ≡ place (map variable_row vs) x → FoundVariable vs t x k s e
variable_found vs t count slots W x k s e q =
    let rows : List Row = map variable_row vs in
    let H = variables_rows vs t count slots W in
    let A = answered rows x k s e q in
    let R = found_row rows t count slots H x k s e q in
    let l : k < length vs = omega (arith, A.below, length-map vs variable_row) in
    let n : k ≡ position (map (λ v. v.name) vs) x = A.number ∙ ap (λ (ns : List Name). position ns x) (variable_names_lem vs) in
    let b : (row_at rows k).body ≡ some (value_text (variable_at vs k).value) = ap (λ (r : Row). r.body) (map_at variable_row vs k (record { name = []; value = list [] }) no_row l) in
    record {
      number = n;
      below = l;
      is_value = value_at vs x (omega (arith, n)) ∙ ap (λ (m : ℕ). some (variable_at vs m).value) (sym n);
      order = R.order;
      within = R.within;
      value_bytes_lem = found_body rows t count slots H x k s e q (value_text (variable_at vs k).value) b;
    }

pub variable_missing : (vs : List Variable) (x : Name) → None ≡ place (map variable_row vs) x → value_in vs x ≡ none
variable_missing vs x q =
    value_none vs x (omega (arith, unanswered (map variable_row vs) x q, length-map vs variable_row, ap (λ (ns : List Name). position ns x) (variable_names_lem vs)))

-- ---- a principal that was found

-- the principal p of ks has number k
pub record FoundPrincipal (ks : List Principal) (p : Name) (k : ℕ) : Type 0 where
  pub number : k ≡ position (map (λ k. k.name) ks) p
  pub below : k < length ks
  pub is_named : named ks p ≡ some (principal_at ks k)

pub principal_found : (ks : List Principal) (p : Name) (k s e : ℕ) → found_at k s e ≡ place (map principal_row ks) p → FoundPrincipal ks p k
principal_found ks p k s e q =
    let A = answered (map principal_row ks) p k s e q in
    let l : k < length ks = omega (arith, A.below, length-map ks principal_row) in
    let n : k ≡ position (map (λ k. k.name) ks) p = A.number ∙ ap (λ (ns : List Name). position ns p) (principal_names_lem ks) in
    record { number = n; below = l; is_named = principal_at_lem ks p (omega (arith, n)) ∙ ap (λ (m : ℕ). some (principal_at ks m)) (sym n) }

pub principal_missing : (ks : List Principal) (p : Name) → None ≡ place (map principal_row ks) p → named ks p ≡ none
principal_missing ks p q =
    principal_none ks p (omega (arith, unanswered (map principal_row ks) p q, length-map ks principal_row, ap (λ (ns : List Name). position ns p) (principal_names_lem ks)))
