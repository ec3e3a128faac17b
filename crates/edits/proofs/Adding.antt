-- A row added at the end of a text.
-- Assumes nothing.
use mathlib.Core.Path.{◌≡◌, refl, sym, ap, subst, ◌∙◌}
use mathlib.Core.Bool.{Bool}
use mathlib.Core.List.{List, [], ◌∷◌, ◌++◌, map, append_assoc, append-nil}
use mathlib.Core.Option.{some}
use Prim.Native.Nat.{ℕ, ◌+◌, ◌≤◌, ◌<◌}
use native.Mathlib.Numerals.{add-one}
use native.Mathlib.Omega.{arith}
use lib.Dec.{T}
use lib.ListN.{length, set, take, drop, length-append, length-take, length-map}
use lib.Seq.{take-suc-set, drop-set-lt, length-take-le, take-take, take-append_seam}
use Rattle.language.specs.Text.{Text, joined, all}
use Rattle.language.specs.Syntax.{Name}
use Rattle.language.specs.State.{Value, Principal, Variable}
use Rattle.language.specs.Identifiers.{is_name}
use Rattle.language.specs.Encode.{tab, variables_text}
use Rattle.language.proofs.Logic.Tests.{both, and, all_append}
use Rattle.store.specs.Held.{Principals, Variables, slot, slots_from, places}
use Rattle.store.specs.Rows.{Row, Rows, row_text, principal_row, variable_row}
use Rattle.splice.specs.Splices.{over}
use Rattle.edits.specs.Changes.{Outside}
use Rattle.store.proofs.Records.{joined_append}
use Rattle.store.proofs.Holders.{variables_rows, rows_variables, rows_principals, joined_variables}
use Rattle.splice.proofs.Splicing.{take_over, drop_over, over_on, set_over, length_over}
use Rattle.language.proofs.Logic.Lists.{map_append}

-- a letter, a tab, a name and a tab, one after the other
pub head_over : (d x : Text) (at b : ℕ) → at + 3 + length x ≤ length d
    → set (over (set (set d at b) (at + 1) 9) (at + 2) x) (at + 2 + length x) 9 ≡ over d at (b ∷ 9 ∷ (x ++ (9 ∷ [])))
head_over d x at b h =
    let i : at ≤ length d = omega arith in
    let one : set d at b ≡ over d at (b ∷ []) = set_over d at b (omega arith) in
    let l1 : length (over d at (b ∷ [])) ≡ length d = length_over d (b ∷ []) at (omega arith) in
    let two : set (set d at b) (at + 1) 9 ≡ over d at (b ∷ 9 ∷ []) =
    ap (λ (e : Text). set e (at + 1) 9) one ∙ set_over (over d at (b ∷ [])) (at + 1) 9 (omega (arith, l1)) ∙ over_on d (b ∷ []) (9 ∷ []) at i in
    let three : over (set (set d at b) (at + 1) 9) (at + 2) x ≡ over d at (b ∷ 9 ∷ x) =
    ap (λ (e : Text). over e (at + 2) x) two ∙ over_on d (b ∷ 9 ∷ []) x at i in
    let l3 : length (over d at (b ∷ 9 ∷ x)) ≡ length d = length_over d (b ∷ 9 ∷ x) at (omega arith) in
    let n : at + 2 + length x ≡ at + length (b ∷ 9 ∷ x) = omega arith in
    ap (λ (e : Text). set e (at + 2 + length x) 9) three ∙ ap (λ (j : ℕ). set (over d at (b ∷ 9 ∷ x)) j 9) n
    ∙ set_over (over d at (b ∷ 9 ∷ x)) (at + length (b ∷ 9 ∷ x)) 9 (omega (arith, l3)) ∙ over_on d (b ∷ 9 ∷ x) (9 ∷ []) at i

slots_last : {A : Type 0} (name : A → Name) (f : A → Text) (at : ℕ) (l : List A) (a : A)
    → slots_from name f at (l ++ (a ∷ [])) ≡ slots_from name f at l ++ (slot (name a) (at + length (joined f l)) ∷ [])
slots_last name f at [] a = ap (λ (n : ℕ). slot (name a) n ∷ []) (let q : at ≡ at + 0 = omega arith in q)
slots_last name f at (b ∷ l) a =
    ap (λ (x : List ℕ). slot (name b) at ∷ x)
    (slots_last name f (at + length (f b)) l a
    ∙ ap (λ (n : ℕ). slots_from name f (at + length (f b)) l ++ (slot (name a) n ∷ []))
    (let q : at + length (f b) + length (joined f l) ≡ at + length (f b ++ joined f l) = omega (arith, length-append (f b) (joined f l)) in q))

pub added : (rows : List Row) (row : Row) (d new-d : Text) (len count r : ℕ) (slots new-slots : List ℕ) → Rows rows (take len d) count slots → T (is_name row.name)
    → length d ≤ places → len ≤ length d → count < length slots → r ≡ len + length (row_text row) → r ≤ length d → new-d ≡ over d len (row_text row)
    → new-slots ≡ set slots count (slot row.name len) → Rows (rows ++ (row ∷ [])) (take r new-d) (count + 1) new-slots
added rows row d new-d len count r slots new-slots H v small l c q fits left noted =
    let n : length (joined row_text rows) ≡ len = ap length (sym H.is_text_lem) ∙ length-take-le len d l in
    record {
      is_text_lem =
          (λ i. take (q i) (left i)) ∙ take_over d (row_text row) len l ∙ ap (λ (t : Text). t ++ row_text row) H.is_text_lem
          ∙ sym (joined_append row_text rows (row ∷ []) ∙ ap (λ (t : Text). joined row_text rows ++ t) (append-nil (row_text row)));
      counted = omega (arith, H.counted, length-append rows (row ∷ []));
      indexed =
          (λ i. take (add-one count i) (noted i)) ∙ take-suc-set slots count (slot row.name len) c
          ∙ ap (λ (m : List ℕ). m ++ (slot row.name len ∷ [])) H.indexed
          ∙ ap (λ (m : ℕ). slots_from (λ r. r.name) row_text 0 rows ++ (slot row.name m ∷ [])) (let w : len ≡ 0 + length (joined row_text rows) = omega arith in w)
          ∙ sym (slots_last (λ r. r.name) row_text 0 rows row);
      named = all_append (λ (r : Row). is_name r.name) rows (row ∷ []) H.named (and (is_name row.name) _ v tt);
      small = omega (arith, length-take r new-d);
    }

pub added_outside : (d new-d src : Text) (len count r : ℕ) (slots new-slots : List ℕ) (m : ℕ) → len ≤ length d → r ≡ len + length src → r ≤ length d
    → new-d ≡ over d len src → new-slots ≡ set slots count m → Outside d new-d r slots new-slots (count + 1)
added_outside d new-d src len count r slots new-slots m l q fits left noted = record {
  within = fits;
  bytes_kept = (λ i. drop (q i) (left i)) ∙ drop_over d src len l ∙ ap (λ (n : ℕ). drop n d) (sym q);
  slots_kept = ap (drop (count + 1)) noted ∙ drop-set-lt (count + 1) slots count m (omega arith);
}

-- ---- a variable, a principal

-- the variable's text, as it is written
pub variable_written : (x o : Text) → (86 ∷ 9 ∷ (x ++ (9 ∷ []))) ++ o ≡ 86 ∷ tab ∷ (x ++ (tab ∷ o))
variable_written x o = ap (λ (l : Text). 86 ∷ 9 ∷ l) (append_assoc x (9 ∷ []) o)

pub principal_written : (x w z : Text) → ((80 ∷ 9 ∷ (x ++ (9 ∷ []))) ++ w) ++ z ≡ 80 ∷ tab ∷ (x ++ (tab ∷ (w ++ z)))
principal_written x w z = ap (λ (l : Text). 80 ∷ 9 ∷ l) (append_assoc (x ++ (9 ∷ [])) w z ∙ append_assoc x (9 ∷ []) (w ++ z))

pub variable_added : (vs : List Variable) (x : Name) (v : Value) (t : Text) (count : ℕ) (slots : List ℕ)
    → Rows (map variable_row vs ++ (variable_row (record { name = x; value = v }) ∷ [])) t count slots → Variables (vs ++ (record { name = x; value = v } ∷ [])) t count slots
variable_added vs x v t count slots H =
    rows_variables (vs ++ (record { name = x; value = v } ∷ [])) t count slots
    (subst (λ (l : List Row). Rows l t count slots) (sym (map_append variable_row vs (record { name = x; value = v } ∷ []))) H)

pub principal_added : (ks : List Principal) (x : Name) (w : Text) (t : Text) (count : ℕ) (slots : List ℕ)
    → Rows (map principal_row ks ++ (principal_row (record { name = x; password = some w; count = 0 }) ∷ [])) t count slots
    → Principals (ks ++ (record { name = x; password = some w; count = 0 } ∷ [])) t count slots
principal_added ks x w t count slots H =
    rows_principals (ks ++ (record { name = x; password = some w; count = 0 } ∷ [])) t count slots
    (subst (λ (l : List Row). Rows l t count slots) (sym (map_append principal_row ks (record { name = x; password = some w; count = 0 } ∷ []))) H)

-- what is written next
pub written_on : (d e a b : Text) (at r : ℕ) → at ≤ length d → e ≡ over d at a → r ≡ at + length a → over e r b ≡ over d at (a ++ b)
written_on d e a b at r h q n = (λ i. over (q i) (n i) b) ∙ over_on d a b at h

pub head_length : (b : ℕ) (x : Text) → length (b ∷ 9 ∷ (x ++ (9 ∷ []))) ≡ 3 + length x
head_length b x = omega (arith, length-append x (9 ∷ []))

-- ---- the first of the records, without the last

slots_front : {A : Type 0} (name : A → Name) (f : A → Text) (at : ℕ) (l m : List A) → take (length l) (slots_from name f at (l ++ m)) ≡ slots_from name f at l
slots_front name f at [] m = refl
slots_front name f at (a ∷ l) m = ap (λ (x : List ℕ). slot (name a) at ∷ x) (slots_front name f (at + length (f a)) l m)

all_front : {A : Type 0} (f : A → Bool) (l m : List A) → T (all f (l ++ m)) → T (all f l)
all_front f [] m h = tt
all_front f (a ∷ l) m h =
    let (h₁, h₂) = both (f a) (all f (l ++ m)) h in
    and (f a) (all f l) h₁ (all_front f l m h₂)

pub rows_front : (rows more : List Row) (t : Text) (count : ℕ) (slots : List ℕ) → Rows (rows ++ more) t count slots
    → Rows rows (take (length (joined row_text rows)) t) (length rows) slots
rows_front rows more t count slots H =
    let e : t ≡ joined row_text rows ++ joined row_text more = H.is_text_lem ∙ joined_append row_text rows more in
    let n : length rows ≤ count = omega (arith, H.counted, length-append rows more) in
    record {
      is_text_lem = ap (take (length (joined row_text rows))) e ∙ take-append_seam (joined row_text rows) (joined row_text more);
      counted = refl;
      indexed = sym (take-take (length rows) count slots n) ∙ ap (take (length rows)) H.indexed ∙ slots_front (λ r. r.name) row_text 0 rows more;
      named = all_front (λ (r : Row). is_name r.name) rows more H.named;
      small = omega (arith, length-take (length (joined row_text rows)) t, H.small);
    }

-- the variables before the last ones: a shorter text, and fewer slots
pub variables_front : (vs ws : List Variable) (t : Text) (count : ℕ) (slots : List ℕ) → Variables (vs ++ ws) t count slots
    → Variables vs (take (length (variables_text vs)) t) (length vs) slots
variables_front vs ws t count slots W =
    let H = variables_rows (vs ++ ws) t count slots W in
    let F = rows_front (map variable_row vs) (map variable_row ws) t count slots (subst (λ (l : List Row). Rows l t count slots) (map_append variable_row vs ws) H) in
    let q : length (joined row_text (map variable_row vs)) ≡ length (variables_text vs) = ap length (sym (joined_variables vs)) in
    rows_variables vs (take (length (variables_text vs)) t) (length vs) slots
    (subst (λ (n : ℕ). Rows (map variable_row vs) (take (length (variables_text vs)) t) n slots) (length-map vs variable_row)
    (subst (λ (n : ℕ). Rows (map variable_row vs) (take n t) (length (map variable_row vs)) slots) q F))
