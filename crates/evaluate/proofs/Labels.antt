-- Rows one more, and a label among their names.
-- Assumes nothing.
use mathlib.Core.Path.{◌≡◌, refl, sym, ap, ◌∙◌}
use Prim.Native.Nat.{ℕ, suc, ◌+◌, ◌-◌, ◌≤◌, ◌<◌}
use native.Mathlib.Nat.{not-suc-le-zero, le_of_suc-le-suc}
use native.Mathlib.Numerals.{add-one}
use native.Mathlib.Omega.{arith}
use mathlib.Core.Bool.{Bool, true, false, ◌||◌, not}
use mathlib.Core.List.{List, [], ◌∷◌, ◌++◌, append-nil}
use lib.Dec.{T}
use lib.ListN.{length, take, drop, set, length-append, length-map}
use lib.Seq.{take-suc-set, take-take}
use Rattle.std.specs.Prelude as Std
use Rattle.std.specs.Prelude.{Some, None, is_some}
use Rattle.std.proofs.lemmas.Bool.{false≢true}
use Rattle.store.specs.declared.index.Found.{Found}
use Rattle.language.specs.Text.{Text, when◌then◌else◌, ◌≟◌, member, joined}
use Rattle.language.specs.Syntax.{Name}
use Rattle.language.specs.Identifiers.{is_name}
use Rattle.language.proofs.Logic.Tests.{and, all_append, ==_sym, same_test}
use Rattle.store.specs.Held.{slot, slots_from, places}
use Rattle.store.specs.Rows.{Row, Rows, row_text, row_names, position, found_at, place}
use Rattle.store.proofs.Records.{joined_append}
use Rattle.store.proofs.Answers.{answered, unanswered}

-- ---- a name among names

same_sym : (x y : Name) → (x ≟ y) ≡ (y ≟ x)
same_sym x y = same_test (x ≟ y) (y ≟ x) (==_sym x y) (==_sym y x)

there : (l : List Name) (x : Name) → position l x < length l → member x l ≡ true
there [] x h = absurd (not-suc-le-zero h)
there (y ∷ l) x h = rw (same_sym x y) (go (y ≟ x) h (there l x))
  where
    go : (b : Bool) → (when b then 0 else suc (position l x)) < suc (length l) → (position l x < length l → member x l ≡ true) → (b || member x l) ≡ true
    go true h f = refl
    go false h f = f (le_of_suc-le-suc h)

not_there : (l : List Name) (x : Name) → length l ≤ position l x → member x l ≡ false
not_there [] x h = refl
not_there (y ∷ l) x h = rw (same_sym x y) (go (y ≟ x) h (not_there l x))
  where
    go : (b : Bool) → suc (length l) ≤ (when b then 0 else suc (position l x)) → (length l ≤ position l x → member x l ≡ false) → (b || member x l) ≡ false
    go true h f = absurd (not-suc-le-zero h)
    go false h f = f (le_of_suc-le-suc h)

pub row_there : (rows : List Row) (x : Name) (k s e : ℕ) → found_at k s e ≡ place rows x → false ≡ not (member x (row_names rows))
row_there rows x k s e q =
    let A = answered rows x k s e q in
    sym (ap not (there (row_names rows) x (omega (arith, A.number, A.below, length-map rows (λ (r : Row). r.name)))))

pub row_missing : (rows : List Row) (x : Name) → None ≡ place rows x → true ≡ not (member x (row_names rows))
row_missing rows x q =
    sym (ap not (not_there (row_names rows) x (omega (arith, unanswered rows x q, length-map rows (λ (r : Row). r.name)))))

-- whether a look-up found nothing
pub row_new : (rows : List Row) (x : Name) (o : Std.Option Found) (b : Bool) → is_some o ≡ not b → o ≡ place rows x → b ≡ not (member x (row_names rows))
row_new rows x (Some f) false e q = row_there rows x f.number f.start f.end q
row_new rows x (Some f) true e q = absurd (false≢true (sym e))
row_new rows x None false e q = absurd (false≢true e)
row_new rows x None true e q = row_missing rows x q

-- ---- a row more

slots_last : (at : ℕ) (l : List Row) (r : Row)
    → slots_from (λ r. r.name) row_text at (l ++ (r ∷ [])) ≡ slots_from (λ r. r.name) row_text at l ++ (slot r.name (at + length (joined row_text l)) ∷ [])
slots_last at [] r = ap (λ (n : ℕ). slot r.name n ∷ []) (omega arith)
slots_last at (a ∷ l) r =
    ap (λ (m : List ℕ). slot a.name at ∷ m)
    (slots_last (at + length (row_text a)) l r
    ∙ ap (λ (n : ℕ). slots_from (λ r. r.name) row_text (at + length (row_text a)) l ++ (slot r.name n ∷ [])) (omega (arith, length-append (row_text a) (joined row_text l))))

module _ (rows : List Row) (t : Text) (count : ℕ) (slots : List ℕ) (H : Rows rows t count slots) where
  pub row_added : (r : Row) → T (is_name r.name) → count < length slots → length t + length (row_text r) ≤ places
      → Rows (rows ++ (r ∷ [])) (t ++ row_text r) (count + 1) (set slots count (slot r.name (length t)))
  row_added r n c l = record {
    is_text_lem =
        ap (λ (u : Text). u ++ row_text r) H.is_text_lem
        ∙ sym (joined_append row_text rows (r ∷ []) ∙ ap (λ (u : Text). joined row_text rows ++ u) (append-nil (row_text r)));
    counted = omega (arith, H.counted, length-append rows (r ∷ []));
    indexed =
        rw (add-one) (take-suc-set slots count (slot r.name (length t)) c)
        ∙ ap (λ (m : List ℕ). m ++ (slot r.name (length t) ∷ [])) H.indexed
        ∙ ap (λ (n : ℕ). slots_from (λ r. r.name) row_text 0 rows ++ (slot r.name n ∷ [])) (ap length H.is_text_lem)
        ∙ sym (slots_last 0 rows r ∙ ap (λ (n : ℕ). slots_from (λ r. r.name) row_text 0 rows ++ (slot r.name n ∷ [])) (omega arith));
    named = all_append (λ (r : Row). is_name r.name) rows (r ∷ []) H.named (and (is_name r.name) true n tt);
    small = omega (arith, length-append t (row_text r));
  }

  -- the slots that count
  pub slots_part : Rows rows t count (take (count - 0) (drop 0 slots))
  slots_part =
      let e : count - 0 ≡ count = omega arith in
      record {
        is_text_lem = H.is_text_lem;
        counted = H.counted;
        indexed = ap (λ (n : ℕ). take count (take n slots)) e ∙ take-take count count slots (omega arith) ∙ H.indexed;
        named = H.named;
        small = H.small;
      }
