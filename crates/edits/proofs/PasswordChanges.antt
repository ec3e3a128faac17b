-- Passwords changed, as changes of rows.
-- Assumes nothing.
use mathlib.Core.Path.{◌≡◌, refl, sym, ap, subst, ◌∙◌}
use mathlib.Core.Bool.{Bool, true, false, not}
use mathlib.Core.Option.{Option, none, some}
use mathlib.Core.List.{List, [], ◌∷◌, ◌++◌, map, append_assoc}
use Prim.Native.Nat.{ℕ, zero, suc, ◌+◌, ◌-◌, ◌≤◌, ◌<◌}
use native.Mathlib.Nat.{not-suc-le-zero, le_of_suc-le-suc}
use native.Mathlib.Omega.{arith}
use lib.Dec.{T, T_not}
use lib.ListN.{length, get_or, set, take, drop, length-append, length-map, length-set}
use lib.Seq.{set_at, set-set, get_or-set_same, take-set-le, take-set-lt, drop-set-lt, drop-drop, length-take-le}
use Rattle.language.specs.Text.{Text, joined, ◌≟◌, when◌then◌else◌, member, distinct}
use Rattle.language.specs.Syntax.{Name}
use Rattle.language.specs.State.{Principal}
use Rattle.language.specs.Identifiers.{is_name}
use Rattle.language.specs.Encode.{tab, principals_text}
use Rattle.language.specs.Commands.{changed}
use Rattle.language.proofs.Logic.Tests.{both, left_of_lem, right_of, ==→≡, ==_sym}
use Rattle.store.specs.Held.{Principals, slot, slots_from}
use Rattle.store.specs.Rows.{Row, Rows, row_text, body_text, row_at, no_row, start_of, position, count_text, principal_row, Placed}
use Rattle.store.specs.Contents.{principal_at}
use Rattle.contents.specs.Contents.{CountAt}
use Rattle.edits.specs.Changes.{principal_names, passworded, with_password, Respelled, Outside}
use Rattle.store.specs.declared.index.Place.{Place}
use Rattle.store.proofs.Records.{start_next, name_valid}
use Rattle.store.proofs.Holders.{principals_rows, rows_principals, joined_principals}
use Rattle.store.proofs.Answers.{map_at}
use Rattle.edits.proofs.Rewriting.{all_set, text_set, set_same, respelled_size}
use Rattle.edits.proofs.Putting.{map_set}

-- ---- who is changed

changed_none : (ks : List Principal) (p : Name) (t : Text) → (T (member p (principal_names ks)) → ⊥) → map (changed p t) ks ≡ ks
changed_none [] p t n = refl
changed_none (k ∷ ks) p t n =
    go (k.name ≟ p) (λ e. n (left_of_lem (p ≟ k.name) (member p (principal_names ks)) (==_sym k.name p e)))
    (changed_none ks p t (λ m. n (right_of (p ≟ k.name) (member p (principal_names ks)) m)))
  where
    go : (b : Bool) → (T b → ⊥) → map (changed p t) ks ≡ ks → record { name = k.name; password = when b then some t else k.password; count = k.count } ∷ map (changed p t) ks ≡ k ∷ ks
    go true f e = absurd (f tt)
    go false f e = ap (λ (l : List Principal). k ∷ l) e

pub changed_at : (ks : List Principal) (p : Name) (t : Text) → T (distinct (principal_names ks)) → position (principal_names ks) p < length ks
    → map (changed p t) ks ≡ with_password ks (position (principal_names ks) p) t
changed_at [] p t d h = absurd (not-suc-le-zero h)
changed_at (k ∷ ks) p t d h =
    let (d₁, d₂) = both (not (member k.name (principal_names ks))) (distinct (principal_names ks)) d in
    go (k.name ≟ p) (λ e. changed_none ks p t (λ m. T_not (member k.name (principal_names ks)) d₁ (subst (λ (x : Name). T (member x (principal_names ks))) (sym (==→≡ k.name p e)) m)))
    h (changed_at ks p t d₂)
  where
    n : ℕ
    n = position (principal_names ks) p

    go : (b : Bool) → (T b → map (changed p t) ks ≡ ks) → (when b then 0 else suc n) < suc (length ks) → (n < length ks → map (changed p t) ks ≡ with_password ks n t)
        → record { name = k.name; password = when b then some t else k.password; count = k.count } ∷ map (changed p t) ks ≡ with_password (k ∷ ks) (when b then 0 else suc n) t
    go true f h g = ap (λ (l : List Principal). passworded t k ∷ l) (f tt)
    go false f h g = ap (λ (l : List Principal). k ∷ l) (g (le_of_suc-le-suc h))

pub with_twice : (ks : List Principal) (k : ℕ) (v w : Text) → k < length ks → with_password (with_password ks k v) k w ≡ with_password ks k w
with_twice ks k v w h =
    let e : principal_at (with_password ks k v) k ≡ passworded v (principal_at ks k) = get_or-set_same ks k (passworded v (principal_at ks k)) (record { name = []; password = none; count = 0 }) h in
    ap (λ (q : Principal). set (with_password ks k v) k (passworded w q)) e
    ∙ set-set ks k (passworded v (principal_at ks k)) (passworded w (principal_at ks k))

pub with_kept : (ks : List Principal) (k : ℕ) (w : Text) → k < length ks → (principal_at (with_password ks k w) k).password ≡ some w
with_kept ks k w h =
    ap (λ (q : Principal). q.password) (get_or-set_same ks k (passworded w (principal_at ks k)) (record { name = []; password = none; count = 0 }) h)

-- ---- the row of a principal

-- the line of one without a password, with room for one between two tabs
abbrev pub tabbed : Principal → Row
tabbed k = record { letter = 78; name = k.name; body = some (tab ∷ count_text k.count) }

module _ (ks : List Principal) (t : Text) (count : ℕ) (slots : List ℕ) (K : Principals ks t count slots) (k : ℕ) (h : k < count) where
  pub below_principals : k < length ks
  below_principals = omega (arith, K.counted)

  prow : row_at (map principal_row ks) k ≡ principal_row (principal_at ks k)
  prow = map_at principal_row ks k (record { name = []; password = none; count = 0 }) no_row below_principals

  prow_of : (o : Option Text) → (principal_at ks k).password ≡ o → row_at (map principal_row ks) k ≡ principal_row (record { name = (principal_at ks k).name; password = o; count = (principal_at ks k).count })
  prow_of o e = prow ∙ ap (λ (o : Option Text). principal_row (record { name = (principal_at ks k).name; password = o; count = (principal_at ks k).count })) e

  pub with_rows : (w : Text) → map principal_row (with_password ks k w) ≡ set (map principal_row ks) k (principal_row (passworded w (principal_at ks k)))
  with_rows w = map_set principal_row ks k (passworded w (principal_at ks k))

  pub with_held : (w t' : Text) (slots' : List ℕ) → Rows (set (map principal_row ks) k (principal_row (passworded w (principal_at ks k)))) t' count slots'
      → Principals (with_password ks k w) t' count slots'
  with_held w t' slots' H = rows_principals (with_password ks k w) t' count slots' (subst (λ (l : List Row). Rows l t' count slots') (sym (with_rows w)) H)

  pub kept_respelled : (p : Place) → Placed (map principal_row ks) k p → (r : ℕ) → CountAt ks t k r → (old src : Text) → (principal_at ks k).password ≡ some old
      → Respelled (map principal_row ks) k (p.mid + 1) (r - 1) src (principal_row (passworded src (principal_at ks k)))
  kept_respelled p P r C old src e =
      let y : Name = (principal_at ks k).name in
      let last : Text = tab ∷ count_text (principal_at ks k).count in
      let front : Text = 80 ∷ tab ∷ (y ++ (tab ∷ [])) in
      let split : (z : Text) → 80 ∷ tab ∷ (y ++ (tab ∷ (z ++ last))) ≡ front ++ (z ++ last) =
      λ z. ap (λ (l : Text). 80 ∷ tab ∷ l) (sym (append_assoc y (tab ∷ []) (z ++ last))) in
      let q = prow_of (some old) e in
      let was : row_text (row_at (map principal_row ks) k) ≡ front ++ (old ++ last) = ap row_text q ∙ split old in
      let yn : length (row_at (map principal_row ks) k).name ≡ length y = ap (λ (r : Row). length r.name) q in
      let f : p.mid + 1 ≡ start_of (map principal_row ks) k + length front = omega (arith, P.name_ends, yn, length-append y (tab ∷ [])) in
      let g : start_of (map principal_row ks) (suc k) ≡ start_of (map principal_row ks) k + length front + (length old + length last) =
      start_next (map principal_row ks) t count slots (principals_rows ks t count slots K) k h
      ∙ omega (arith, ap length was, length-append front (old ++ last), length-append old last) in
      record {
        before = front;
        old = old;
        after = last;
        was = was;
        becomes = split src;
        from_is = f;
        to_is = omega (arith, C.size, f, g);
        same_name = sym (ap (λ (r : Row). r.name) q);
      }

  -- a tab more after the name
  pub bare_respelled : (p : Place) → Placed (map principal_row ks) k p → (principal_at ks k).password ≡ none
      → Respelled (map principal_row ks) k p.mid p.mid (9 ∷ []) (tabbed (principal_at ks k))
  bare_respelled p P e =
      let y : Name = (principal_at ks k).name in
      let r = prow_of none e in
      let yn : length (row_at (map principal_row ks) k).name ≡ length y = ap (λ (r : Row). length r.name) r in
      record {
        before = 78 ∷ tab ∷ y;
        old = [];
        after = tab ∷ count_text (principal_at ks k).count;
        was = ap row_text r;
        becomes = refl;
        from_is = omega (arith, P.name_ends, yn);
        to_is = omega arith;
        same_name = sym (ap (λ (r : Row). r.name) r);
      }

  -- the length of the text with a first password
  pub bare_size : (w : Text) → (principal_at ks k).password ≡ none → length (principals_text (with_password ks k w)) ≡ length t + 1 + length w
  bare_size w e =
      let rows : List Row = map principal_row ks in
      let y : Name = (principal_at ks k).name in
      let row : Row = principal_row (passworded w (principal_at ks k)) in
      let r = prow_of none e in
      let b : k < length rows = omega (arith, below_principals, length-map ks principal_row) in
      let new = ap length (joined_principals (with_password ks k w) ∙ ap (joined row_text) (with_rows w) ∙ text_set rows k row b) in
      let old = ap length (K.is_text_lem ∙ joined_principals ks ∙ ap (joined row_text) (set_same rows k no_row b) ∙ text_set rows k (row_at rows k) b) in
      let d : Text = count_text (principal_at ks k).count in
      let lr : length (row_text (row_at rows k)) ≡ 3 + length y + length d = ap (λ (r : Row). length (row_text r)) r ∙ omega (arith, length-append y (tab ∷ d)) in
      let lw : length (row_text row) ≡ 4 + length y + length w + length d = omega (arith, length-append y (tab ∷ (w ++ tab ∷ d)), length-append w (tab ∷ d)) in
      let z : Text = joined row_text (drop (suc k) rows) in
      omega (
        arith,
        new,
        old,
        lr,
        lw,
        length-append (joined row_text (take k rows)) (row_text row ++ z),
        length-append (row_text row) z,
        length-append (joined row_text (take k rows)) (row_text (row_at rows k) ++ z),
        length-append (row_text (row_at rows k)) z,
      )

  -- the length of the text with another password
  pub kept_size : (p : Place) → Placed (map principal_row ks) k p → (r : ℕ) → CountAt ks t k r → (old src : Text) → (principal_at ks k).password ≡ some old
      → p.mid + 1 + length src + (length t - (r - 1)) ≡ length (principals_text (with_password ks k src))
  kept_size p P r C old src e =
      respelled_size (map principal_row ks) t count slots (principals_rows ks t count slots K) k (p.mid + 1) (r - 1) src
      (principal_row (passworded src (principal_at ks k))) h (kept_respelled p P r C old src e)
      ∙ ap (λ (l : List Row). length (joined row_text l)) (sym (with_rows src)) ∙ ap length (sym (joined_principals (with_password ks k src)))

-- ---- another letter

slots_same : {A : Type 0} (name : A → Name) (f : A → Text) (l : List A) (k at : ℕ) (a d : A) → k < length l → name a ≡ name (get_or l k d) → length (f a) ≡ length (f (get_or l k d))
    → slots_from name f at (set l k a) ≡ slots_from name f at l
slots_same name f [] k at a d h n e = refl
slots_same name f (b ∷ l) zero at a d h n e = λ i. slot (n i) at ∷ slots_from name f (at + e i) l
slots_same name f (b ∷ l) (suc k) at a d h n e = ap (λ (x : List ℕ). slot (name b) at ∷ x) (slots_same name f l k (at + length (f b)) a d (le_of_suc-le-suc h) n e)

pub relabelled : (rows : List Row) (t : Text) (count : ℕ) (slots : List ℕ) → Rows rows t count slots → (k b : ℕ) → k < count
    → Rows (set rows k (record { letter = b; name = (row_at rows k).name; body = (row_at rows k).body })) (set t (start_of rows k) b) count slots
relabelled rows t count slots H k b h =
    let row : Row = record { letter = b; name = (row_at rows k).name; body = (row_at rows k).body } in
    let l : k < length rows = omega (arith, H.counted) in
    let a : Text = joined row_text (take k rows) in
    let z : Text = joined row_text (drop (suc k) rows) in
    let whole : t ≡ a ++ (row_text (row_at rows k) ++ z) = H.is_text_lem ∙ ap (joined row_text) (set_same rows k no_row l) ∙ text_set rows k (row_at rows k) l in
    record {
      is_text_lem =
          ap (λ (x : Text). set x (start_of rows k) b) whole
          ∙ set_at a (row_at rows k).letter (tab ∷ ((row_at rows k).name ++ body_text (row_at rows k).body) ++ z) b (start_of rows k) refl ∙ sym (text_set rows k row l);
      counted = H.counted ∙ sym (length-set rows k row);
      indexed = H.indexed ∙ sym (slots_same (λ r. r.name) row_text rows k 0 row no_row l refl refl);
      named = all_set (λ (r : Row). is_name r.name) rows k row H.named (name_valid rows t count slots H k h);
      small = omega (arith, length-set t (start_of rows k) b, H.small);
    }

-- the tab and the letter: a principal with an empty password
pub opened : (ks : List Principal) (t : Text) (count : ℕ) (slots : List ℕ) (K : Principals ks t count slots) (k : ℕ) (h : k < count) (B : Text) (r start : ℕ) (slots' : List ℕ)
    → Rows (set (map principal_row ks) k (tabbed (principal_at ks k))) (take r B) count slots'
    → start ≡ start_of (map principal_row ks) k → start < r → Principals (with_password ks k []) (take r (set B start 80)) count slots'
opened ks t count slots K k h B r start slots' H s l =
    let rows : List Row = map principal_row ks in
    let one : Row = tabbed (principal_at ks k) in
    let b : k < length rows = omega (arith, below_principals ks t count slots K k h, length-map ks principal_row) in
    let at : row_at (set rows k one) k ≡ one = get_or-set_same rows k one no_row b in
    let st : start_of (set rows k one) k ≡ start = ap (λ (x : List Row). length (joined row_text x)) (take-set-le k rows k one (omega arith)) ∙ sym s in
    let R = relabelled (set rows k one) (take r B) count slots' H k 80 h in
    let text : set (take r B) (start_of (set rows k one) k) 80 ≡ take r (set B start 80) = ap (λ (n : ℕ). set (take r B) n 80) st ∙ sym (take-set-lt r B start 80 l) in
    let rws : set (set rows k one) k (record { letter = 80; name = (row_at (set rows k one) k).name; body = (row_at (set rows k one) k).body })
    ≡ set rows k (principal_row (passworded [] (principal_at ks k))) =
    ap (λ (x : Row). set (set rows k one) k (record { letter = 80; name = x.name; body = x.body })) at
    ∙ set-set rows k one (principal_row (passworded [] (principal_at ks k))) in
    with_held ks t count slots K k h [] (take r (set B start 80)) slots'
    (subst (λ (x : Text). Rows (set rows k (principal_row (passworded [] (principal_at ks k)))) x count slots') text
    (subst (λ (x : List Row). Rows x (set (take r B) (start_of (set rows k one) k) 80) count slots') rws R))

-- ---- what two changes leave alone

pub store_outside : (d e : Text) (r : ℕ) (slots slots' : List ℕ) (count i b : ℕ) → i < r → Outside d e r slots slots' count → Outside d (set e i b) r slots slots' count
store_outside d e r slots slots' count i b h O = record { within = O.within; bytes_kept = drop-set-lt r e i b h ∙ O.bytes_kept; slots_kept = O.slots_kept }

pub outside_on : (d e f : Text) (n r : ℕ) (slots slots' slots'' : List ℕ) (count : ℕ) → n ≤ r → length e ≡ length d → Outside d e n slots slots' count → Outside e f r slots' slots'' count
    → Outside d f r slots slots'' count
outside_on d e f n r slots slots' slots'' count h l O P =
    let q : r ≡ n + (r - n) = omega arith in
    record {
      within = omega (arith, P.within);
      bytes_kept =
          P.bytes_kept ∙ ap (λ (j : ℕ). drop j e) q ∙ sym (drop-drop (r - n) n e) ∙ ap (drop (r - n)) O.bytes_kept ∙ drop-drop (r - n) n d ∙ ap (λ (j : ℕ). drop j d) (sym q);
      slots_kept = P.slots_kept ∙ O.slots_kept;
    }

-- the length of a text that holds principals
pub held_size : (ks : List Principal) (d : Text) (r count : ℕ) (slots : List ℕ) → r ≤ length d → Principals ks (take r d) count slots → r ≡ length (principals_text ks)
held_size ks d r count slots h K = sym (length-take-le r d h) ∙ ap length K.is_text_lem
