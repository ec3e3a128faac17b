-- A row rewritten in its text: the text is that of the changed rows, and the slots moved with it are theirs.
-- Assumes nothing.
use mathlib.Core.Path.{◌≡◌, refl, sym, ap, subst, ◌∙◌}
use mathlib.Core.Bool.{Bool}
use mathlib.Core.List.{List, [], ◌∷◌, ◌++◌, map, append_assoc}
use Prim.Native.Nat.{ℕ, zero, suc, ◌+◌, ◌-◌, ◌≤◌, ◌<◌}
use native.Mathlib.Nat.{not-suc-le-zero, le_of_suc-le-suc}
use native.Mathlib.Numerals.{add-one}
use native.Mathlib.Omega.{arith}
use lib.Dec.{T}
use lib.ListN.{length, get_or, set, take, drop, length-append, length-take, length-drop, length-map, length-set}
use lib.Seq.{set_split, take-take, take-add, take_at, drop_at, length-take-le}
use Rattle.language.specs.Text.{Text, joined, all}
use Rattle.language.specs.Syntax.{Name}
use Rattle.language.specs.Identifiers.{is_name}
use Rattle.language.proofs.Logic.Tests.{both, and}
use Rattle.store.specs.Held.{slot, slots_from}
use Rattle.text.specs.Parts.{part}
use Rattle.store.specs.Rows.{Row, Rows, row_text, no_row, row_at, start_of}
use Rattle.splice.specs.Splices.{spliced, shifted}
use Rattle.edits.specs.Changes.{Respelled, SomeSpot, Outside}
use Rattle.store.proofs.Hashes.{hash_small}
use Rattle.store.proofs.Records.{joined_append, slot_there, start_in, start_next, name_valid}
use Rattle.splice.proofs.Splicing.{part_take, length_part}

-- ---- the text

-- the text of the rows, with the row of number k changed
pub text_set : (rows : List Row) (k : ℕ) (row : Row) → k < length rows
    → joined row_text (set rows k row) ≡ joined row_text (take k rows) ++ (row_text row ++ joined row_text (drop (suc k) rows))
text_set rows k row h = ap (joined row_text) (set_split rows k row h) ∙ joined_append row_text (take k rows) (row ∷ drop (suc k) rows)

pub set_same : {A : Type 0} (l : List A) (k : ℕ) (d : A) → k < length l → l ≡ set l k (get_or l k d)
set_same [] k d h = refl
set_same (a ∷ l) zero d h = refl
set_same (a ∷ l) (suc k) d h = ap (λ x. a ∷ x) (set_same l k d (le_of_suc-le-suc h))

-- what a splice leaves of a text in a buffer
module _ (d src : Text) (len from to : ℕ) (h : from ≤ to) (k : to ≤ len) (l : len ≤ length d) (m : from + length src + (len - to) ≤ length d) where
  grouped : spliced d len from to src ≡ (take from d ++ (src ++ part d to len)) ++ drop (from + length src + (len - to)) d
  grouped =
      let z : Text = drop (from + length src + (len - to)) d in
      sym (append_assoc (take from d) (src ++ part d to len) z ∙ ap (λ (x : Text). take from d ++ x) (append_assoc src (part d to len) z))

  size : length (take from d ++ (src ++ part d to len)) ≡ from + length src + (len - to)
  size =
      omega (arith, length-append (take from d) (src ++ part d to len), length-append src (part d to len), length-take-le from d (omega arith), length_part d to len k l)

  pub splice_text : take (from + length src + (len - to)) (spliced d len from to src) ≡ take from (take len d) ++ (src ++ drop to (take len d))
  splice_text =
      let r : ℕ = from + length src + (len - to) in
      ap (take r) grouped ∙ take_at (take from d ++ (src ++ part d to len)) (drop r d) r size
      ∙ (λ i. sym (take-take from len d (let q : from ≤ len = omega arith in q)) i ++ (src ++ part_take d to len k (let q : to ≤ length d = omega arith in q) i))

  pub splice_rest : drop (from + length src + (len - to)) (spliced d len from to src) ≡ drop (from + length src + (len - to)) d
  splice_rest =
      let r : ℕ = from + length src + (len - to) in
      ap (drop r) grouped ∙ drop_at (take from d ++ (src ++ part d to len)) (drop r d) r size

-- the new text, put together, is that of the changed rows
module _ (rows : List Row) (t : Text) (count : ℕ) (slots : List ℕ) (H : Rows rows t count slots) (k from to : ℕ) (src : Text) (row : Row) (h : k < count)
    (R : Respelled rows k from to src row) where
  there : k < length rows
  there = omega (arith, H.counted)

  whole : t ≡ joined row_text (take k rows) ++ ((R.before ++ (R.old ++ R.after)) ++ joined row_text (drop (suc k) rows))
  whole =
      H.is_text_lem ∙ ap (joined row_text) (set_same rows k no_row there) ∙ text_set rows k (row_at rows k) there
      ∙ ap (λ (x : Text). joined row_text (take k rows) ++ (x ++ joined row_text (drop (suc k) rows))) R.was

  pub respelled_text : take from t ++ (src ++ drop to t) ≡ joined row_text (set rows k row)
  respelled_text =
      let a : Text = joined row_text (take k rows) in
      let z : Text = joined row_text (drop (suc k) rows) in
      let b : Text = R.before in
      let w1 : t ≡ (a ++ b) ++ (R.old ++ (R.after ++ z)) = whole ∙ (let q : a ++ ((b ++ (R.old ++ R.after)) ++ z) ≡ (a ++ b) ++ (R.old ++ (R.after ++ z)) = simp append_assoc in q) in
      let w2 : t ≡ ((a ++ b) ++ R.old) ++ (R.after ++ z) = w1 ∙ sym (append_assoc (a ++ b) R.old (R.after ++ z)) in
      let n1 : length (a ++ b) ≡ from = omega (arith, length-append a b, R.from_is) in
      let n2 : length ((a ++ b) ++ R.old) ≡ to = omega (arith, length-append (a ++ b) R.old, R.to_is) in
      let front : take from t ≡ a ++ b = ap (take from) w1 ∙ take_at (a ++ b) (R.old ++ (R.after ++ z)) from n1 in
      let back : drop to t ≡ R.after ++ z = ap (drop to) w2 ∙ drop_at ((a ++ b) ++ R.old) (R.after ++ z) to n2 in
      (λ i. front i ++ (src ++ back i))
      ∙ (let q : (a ++ b) ++ (src ++ (R.after ++ z)) ≡ a ++ ((b ++ (src ++ R.after)) ++ z) = simp append_assoc in q)
      ∙ ap (λ (x : Text). a ++ (x ++ z)) (sym R.becomes) ∙ sym (text_set rows k row there)

  respelled_high : to ≤ start_of rows (suc k)
  respelled_high =
      let n : length (row_text (row_at rows k)) ≡ length R.before + (length R.old + length R.after) =
      ap length R.was ∙ omega (arith, length-append R.before (R.old ++ R.after), length-append R.old R.after) in
      omega (arith, R.from_is, R.to_is, n, start_next rows t count slots H k h)

  -- the rewritten part lies in the row
  pub respelled_spot : SomeSpot t count slots k from to
  respelled_spot = record {
    rows = rows;
    held = H;
    below = h;
    low = omega (arith, R.from_is);
    order = omega (arith, R.to_is);
    high = respelled_high;
  }

  -- the length of the new text
  pub respelled_size : from + length src + (length t - to) ≡ length (joined row_text (set rows k row))
  respelled_size =
      let e = ap length respelled_text in
      omega (arith, e, length-append (take from t) (src ++ drop to t), length-append src (drop to t), length-take from t, length-drop to t, R.to_is, respelled_high, start_in rows t count slots H (suc k))

pub spot_in : (d : Text) (len count : ℕ) (slots : List ℕ) (k from to : ℕ) → len ≤ length d → SomeSpot (take len d) count slots k from to → to ≤ len
spot_in d len count slots k from to l S =
    omega (arith, S.high, start_in S.rows (take len d) count slots S.held (suc k), length-take-le len d l)

-- ---- the slots

module _ {A : Type 0} (name : A → Name) (f : A → Text) (old new : ℕ) where
  slots_shift : (l : List A) (at at' : ℕ) → at + new ≡ at' + old → slots_from name f at' l ≡ map (λ x. x + new - old) (slots_from name f at l)
  slots_shift [] at at' e = refl
  slots_shift (a ∷ l) at at' e =
      (λ i. head i ∷ slots_shift l (at + length (f a)) (at' + length (f a)) (let q : at + length (f a) + new ≡ at' + length (f a) + old = omega arith in q) i)
    where
      head : slot (name a) at' ≡ slot (name a) at + new - old
      head = omega arith

  pub slots_set : (l : List A) (k at : ℕ) (a d : A) → k < length l → name a ≡ name (get_or l k d) → length (f (get_or l k d)) + new ≡ length (f a) + old
      → slots_from name f at (set l k a) ≡ take (suc k) (slots_from name f at l) ++ map (λ x. x + new - old) (drop (suc k) (slots_from name f at l))
  slots_set [] k at a d h n e = absurd (not-suc-le-zero h)
  slots_set (b ∷ l) zero at a d h n e =
      λ i. slot (n i) at ∷ slots_shift l (at + length (f b)) (at + length (f a)) (let q : at + length (f b) + new ≡ at + length (f a) + old = omega arith in q) i
  slots_set (b ∷ l) (suc k) at a d h n e =
      ap (λ (x : List ℕ). slot (name b) at ∷ x) (slots_set l k (at + length (f b)) a d (le_of_suc-le-suc h) n e)

-- the shifted numbers, up to `count` and from there on
module _ (m : List ℕ) (k count old new : ℕ) (h : k < count) (l : count ≤ length m) where
  shift_grouped : shifted m (k + 1) count old new ≡ (take (k + 1) m ++ map (λ x. x + new - old) (part m (k + 1) count)) ++ drop count m
  shift_grouped = sym (append_assoc (take (k + 1) m) (map (λ x. x + new - old) (part m (k + 1) count)) (drop count m))

  shift_size : length (take (k + 1) m ++ map (λ x. x + new - old) (part m (k + 1) count)) ≡ count
  shift_size =
      omega (
        arith,
        length-append (take (k + 1) m) (map (λ x. x + new - old) (part m (k + 1) count)),
        length-take-le (k + 1) m (omega arith),
        length-map (part m (k + 1) count) (λ x. x + new - old),
        length_part m (k + 1) count (omega arith) l,
      )

  pub shift_rest : drop count (shifted m (k + 1) count old new) ≡ drop count m
  shift_rest =
      ap (drop count) shift_grouped
      ∙ drop_at (take (k + 1) m ++ map (λ x. x + new - old) (part m (k + 1) count)) (drop count m) count shift_size

  pub shift_front : take count (shifted m (k + 1) count old new) ≡ take (suc k) (take count m) ++ map (λ x. x + new - old) (drop (suc k) (take count m))
  shift_front =
      ap (take count) shift_grouped
      ∙ take_at (take (k + 1) m ++ map (λ x. x + new - old) (part m (k + 1) count)) (drop count m) count shift_size
      ∙ (λ i. sym (take-take (k + 1) count m (let q : k + 1 ≤ count = omega arith in q)) i
      ++ map (λ x. x + new - old) (part_take m (k + 1) count (let q : k + 1 ≤ count = omega arith in q) (let q : k + 1 ≤ length m = omega arith in q) i))
      ∙ ap (λ (n : ℕ). take n (take count m) ++ map (λ x. x + new - old) (drop n (take count m))) (add-one k)

-- ---- together

pub all_set : {A : Type 0} (f : A → Bool) (l : List A) (k : ℕ) (a : A) → T (all f l) → T (f a) → T (all f (set l k a))
all_set f [] k a h t = h
all_set f (b ∷ l) zero a h t = and (f a) (all f l) t (both (f b) (all f l) h).1
all_set f (b ∷ l) (suc k) a h t =
    let (h₁, h₂) = both (f b) (all f l) h in
    and (f b) (all f (set l k a)) h₁ (all_set f l k a h₂ t)

pub start_up : (rows : List Row) (i j : ℕ) → i ≤ j → start_of rows i ≤ start_of rows j
start_up rows i j h =
    let e : take j rows ≡ take i rows ++ take (j - i) (drop i rows) = ap (λ (n : ℕ). take n rows) (let q : j ≡ i + (j - i) = omega arith in q) ∙ take-add i (j - i) rows in
    let q : start_of rows j ≡ length (joined row_text (take i rows) ++ joined row_text (take (j - i) (drop i rows))) =
    ap length (ap (joined row_text) e ∙ joined_append row_text (take i rows) (take (j - i) (drop i rows))) in
    omega (arith, q, length-append (joined row_text (take i rows)) (joined row_text (take (j - i) (drop i rows))))

-- the slots of the rows after a place can be moved
pub movable : (t : Text) (count : ℕ) (slots : List ℕ) (k from to new : ℕ) → SomeSpot t count slots k from to → from + new + (length t - to) ≤ 65536 → (j : ℕ) → k + 1 ≤ j → j < count
    → (to - from ≤ get_or slots j 0) × (get_or slots j 0 - (to - from) + new < 4294967296)
movable t count slots k from to new S b j g l =
    let rows : List Row = S.rows in
    let e = slot_there rows t count slots S.held j l in
    let u : start_of rows (suc k) ≤ start_of rows j = start_up rows (suc k) j (omega arith) in (
      omega (arith, e, u, S.high),
      omega (arith, e, u, S.high, S.order, hash_small (row_at rows j).name, start_next rows t count slots S.held j l, start_in rows t count slots S.held (suc j)),
    )

-- a row rewritten
module _ (rows : List Row) (row : Row) (d src new-d : Text) (len count k from to r : ℕ) (slots new-slots : List ℕ) (H : Rows rows (take len d) count slots)
    (h : k < count) (long : count ≤ length slots) (small : length d ≤ 65536) (l : len ≤ length d) (o : from ≤ to) (p : to ≤ len) (R : Respelled rows k from to src row)
    (r-is : r ≡ from + length src + (len - to)) (fits : r ≤ length d) (left : new-d ≡ spliced d len from to src)
    (moved : new-slots ≡ shifted slots (k + 1) count (to - from) (length src)) where
  sizes : length (row_text (row_at rows k)) + length src ≡ length (row_text row) + (to - from)
  sizes =
      let a = ap length R.was in
      let b = ap length R.becomes in
      omega (arith, a, b, R.to_is, length-append R.before (R.old ++ R.after), length-append R.old R.after, length-append R.before (src ++ R.after), length-append src R.after)

  new_is : take r new-d ≡ joined row_text (set rows k row)
  new_is =
      (λ i. take (r-is i) (left i)) ∙ splice_text d src len from to o p l (omega (arith, r-is))
      ∙ respelled_text rows (take len d) count slots H k from to src row h R

  pub rewritten : Rows (set rows k row) (take r new-d) count new-slots
  rewritten = record {
    is_text_lem = new_is;
    counted = H.counted ∙ sym (length-set rows k row);
    indexed =
        ap (take count) moved ∙ shift_front slots k count (to - from) (length src) h long
        ∙ ap (λ (m : List ℕ). take (suc k) m ++ map (λ x. x + length src - (to - from)) (drop (suc k) m)) H.indexed
        ∙ sym (slots_set (λ r. r.name) row_text (to - from) (length src) rows k 0 row no_row (omega (arith, H.counted)) R.same_name sizes);
    named =
        all_set (λ (r : Row). is_name r.name) rows k row H.named (subst (λ (x : Name). T (is_name x)) (sym R.same_name) (name_valid rows (take len d) count slots H k h));
    small = omega (arith, length-take r new-d);
  }

pub outside : (d src new-d : Text) (len count k from to r : ℕ) (slots new-slots : List ℕ) → k < count → count ≤ length slots → len ≤ length d → from ≤ to → to ≤ len
    → r ≡ from + length src + (len - to) → r ≤ length d → new-d ≡ spliced d len from to src → new-slots ≡ shifted slots (k + 1) count (to - from) (length src)
    → Outside d new-d r slots new-slots count
outside d src new-d len count k from to r slots new-slots h long l o p q fits left moved = record {
  within = fits;
  bytes_kept = (λ i. drop (q i) (left i)) ∙ splice_rest d src len from to o p l (omega (arith, q)) ∙ ap (λ (n : ℕ). drop n d) (sym q);
  slots_kept = ap (drop count) moved ∙ shift_rest slots k count (to - from) (length src) h long;
}
