-- A field more in a record that is being written.
-- Assumes nothing.
use mathlib.Core.Path.{◌≡◌, refl, sym, ap, subst, ◌∙◌}
use Prim.Native.Nat.{ℕ, ◌+◌, ◌*◌, ◌-◌, ◌≤◌, ◌<◌}
use native.Mathlib.Omega.{arith}
use mathlib.Core.Bool.{Bool, true, false, not}
use mathlib.Core.Option.{Option, none, some}
use mathlib.Core.List.{List, [], ◌∷◌, ◌++◌}
use lib.Dec.{T}
use lib.ListN.{length, take, drop, set, length-append, length-map, length-take, length-drop}
use lib.Seq.{length-take-le, drop-append-le}
use Rattle.language.specs.Text.{Text, all, sum, member, distinct}
use Rattle.language.specs.Syntax.{Name}
use Rattle.language.specs.Identifiers.{is_name, is_string}
use Rattle.language.specs.State.{labels, Field}
use Rattle.language.specs.Encode.{field_text}
use Rattle.language.specs.Valid.{valid_field}
use Rattle.language.proofs.Logic.Tests.{both, and, all_append, distinct_last}
use Rattle.language.proofs.StateText.Clean.{name_length}
use Rattle.store.specs.Held.{slot, places}
use Rattle.text.specs.Parts.{part}
use Rattle.text.specs.declared.Span.{Span}
use Rattle.store.specs.Rows.{Row, Rows, row_text, row_names}
use Rattle.splice.proofs.Splicing.{part_take}
use Rattle.value_text.specs.Writing.{Written}
use Rattle.std.specs.Prelude.{Option as Answer}
use Rattle.values.specs.Answers.{text_at}
use Rattle.value_text.proofs.Pieces.{written_take, written_length}
use Rattle.values.proofs.Texts.{record_field}
use Rattle.values.proofs.Lines.{field_length}
use Rattle.evaluate.specs.Drafts.{spelling, Drafted, Extends}
use Rattle.evaluate.specs.declared.draft.Draft.{Draft}
use Rattle.evaluate.proofs.Labels.{row_added}
use Rattle.language.proofs.Logic.Lists.{map_last}

-- ---- sums and names of one more

pub sum_last : {A : Type 0} (f : A → ℕ) (l : List A) (a : A) → sum f (l ++ (a ∷ [])) ≡ sum f l + f a
sum_last f [] a = omega arith
sum_last f (b ∷ l) a = omega (arith, sum_last f l a)

-- each field takes four bytes of the program at the least
four_each : (fs : List Field) → T (all valid_field fs) → 4 * length fs ≤ spelling fs
four_each [] h = omega arith
four_each (f ∷ fs) h =
    let (h₁, h₂) = both (valid_field f) (all valid_field fs) h in
    omega (arith, four_each fs h₂, (name_length f.label (both (is_name f.label) (is_string f.text) h₁).0).0)

-- ---- how far a draft has come

module _ (fs : List Field) (out : Text) (slots : List ℕ) (d : Draft) (D : Drafted fs out slots d) where
  pub count_is : d.count ≡ length fs
  count_is = omega (arith, D.held.counted, length-map D.rows (λ (r : Row). r.name), ap length D.named, length-map fs (λ (f : Field). f.label))

  pub few : 4 * d.count ≤ spelling fs
  few = omega (arith, count_is, four_each fs D.are_valid)

  rows_length : length (part out 2 d.end) ≡ d.end - 2
  rows_length = ap length (part_take out 2 d.end D.started (omega (arith, D.started, D.within))) ∙ simp (length-drop) (omega (arith, length-take-le d.end out D.within))

  -- a field more: its row, its piece, and where that ends
  module _ (f : Field) (r : Row) (n w : ℕ) (after : Text)
      (W : Written out d.end (row_text r) n after)
      (name_is : r.name ≡ f.label)
      (valid : T (valid_field f))
      (new : T (member f.label (labels fs)) → ⊥)
      (weight : w ≡ d.weight + 1 + length f.label + length f.text)
      (fits : spelling fs + length f.label + 3 ≤ 16384)
      (long : n ≤ w + 2 + (spelling fs + (length f.label + 3)))
      (full : n ≤ 8192 + 2 + (spelling fs + (length f.label + 3)))
      (text : length f.text ≤ places)
      (as-field : w ≤ 8192 → row_text r ≡ field_text f)
      (room : d.count < length slots)
      (m : ℕ)
      (slot_is : m ≡ slot f.label (d.end - 2)) where
    rows_part : part after 2 n ≡ part out 2 d.end ++ row_text r
    rows_part =
        let size : length (take d.end out) ≡ d.end = length-take-le d.end out D.within in
        part_take after 2 n (omega (arith, W.ends, D.started)) (omega (arith, D.started, D.within, written_length W))
        ∙ ap (drop 2) (written_take W)
        ∙ drop-append-le 2 (take d.end out) (row_text r) (omega (arith, size, D.started))
        ∙ ap (λ (l : Text). l ++ row_text r) (sym (part_take out 2 d.end D.started (omega (arith, D.started, D.within))))

    spelling_is : spelling (fs ++ (f ∷ [])) ≡ spelling fs + (length f.label + 3)
    spelling_is = sum_last (λ (g : Field). length g.label + 3) fs f

    labels_are : labels (fs ++ (f ∷ [])) ≡ labels fs ++ (f.label ∷ [])
    labels_are = map_last (λ (g : Field). g.label) fs f

    rows_held : Rows (D.rows ++ (r ∷ [])) (part after 2 n) (d.count + 1) (set slots d.count m)
    rows_held =
        let named : T (is_name r.name) = subst (λ (x : Name). T (is_name x)) (sym name_is) (both (is_name f.label) (is_string f.text) valid).0 in
        let small : length (part out 2 d.end) + length (row_text r) ≤ places = omega (arith, rows_length, full, W.ends) in
        let H = row_added D.rows (part out 2 d.end) d.count slots D.held r named room small in
        subst (λ (t : Text). Rows (D.rows ++ (r ∷ [])) t (d.count + 1) (set slots d.count m)) (sym rows_part)
        (subst (λ (k : ℕ). Rows (D.rows ++ (r ∷ [])) (part out 2 d.end ++ row_text r) (d.count + 1) (set slots d.count k))
        (ap (λ (x : Name). slot x (length (part out 2 d.end))) name_is ∙ ap (slot f.label) rows_length ∙ sym slot_is) H)

    row_drafted : Drafted (fs ++ (f ∷ [])) after (set slots d.count m) (record { end = n; count = d.count + 1; weight = w })
    row_drafted = record {
      rows = D.rows ++ (r ∷ []);
      held = rows_held;
      named = map_last (λ (r : Row). r.name) D.rows r ∙ (λ i. D.named i ++ (name_is i ∷ [])) ∙ sym labels_are;
      are_valid = all_append valid_field fs (f ∷ []) D.are_valid (and (valid_field f) true valid tt);
      are_distinct = subst (λ (l : List Name). T (distinct l)) (sym labels_are) (distinct_last (labels fs) f.label D.are_distinct new);
      weighs = omega (arith, weight, D.weighs, sum_last (λ (g : Field). 1 + length g.label + length g.text) fs f);
      is_text_lem = λ h.
          written_take W
          ∙ (λ i. D.is_text_lem (omega (arith, h, weight)) i ++ as-field h i)
          ∙ sym (record_field fs f);
      started = omega (arith, D.started, W.ends);
      within = omega (arith, W.fits, written_length W);
      long = omega (arith, long, spelling_is);
      full = omega (arith, full, spelling_is);
      heavy = omega (arith, D.heavy, weight, text, spelling_is);
    }

  -- the label x with the text t
  module _ (x t : Text) (n w m : ℕ) (after : Text)
      (name_holds : T (is_name x))
      (is_string_lem : T (is_string t))
      (size : length t ≤ places)
      (new : T (member x (labels fs)) → ⊥)
      (weight : w ≡ d.weight + 1 + length x + length t)
      (fits : spelling fs + length x + 3 ≤ 16384)
      (room : 4096 ≤ length slots)
      (slot_is : m ≡ slot x (d.end - 2)) where
    valid : T (valid_field (record { label = x; text = t }))
    valid = and (is_name x) (is_string t) name_holds is_string_lem

    -- its label alone, where all is too heavy
    pub label_added : Written out d.end (70 ∷ 9 ∷ (x ++ 10 ∷ [])) n after → 8192 < w
        → Drafted (fs ++ (record { label = x; text = t } ∷ [])) after (set slots d.count m) (record { end = n; count = d.count + 1; weight = w })
    label_added W h =
        let l : n ≡ d.end + (length x + 3) = omega (arith, W.ends, length-append x (10 ∷ [])) in
        row_drafted (record { label = x; text = t }) (record { letter = 70; name = x; body = none }) n w after W refl valid new weight fits
        (omega (arith, l, D.long, weight)) (omega (arith, l, D.full)) size (λ k. absurd (omega (arith, h, k))) (omega (arith, few, room, fits)) m slot_is

    -- its whole line
    pub line_added : Written out d.end (field_text (record { label = x; text = t })) n after → w ≤ 8192
        → Drafted (fs ++ (record { label = x; text = t } ∷ [])) after (set slots d.count m) (record { end = n; count = d.count + 1; weight = w })
    line_added W h =
        let l : n ≡ d.end + (length x + length t + 4) = omega (arith, W.ends, field_length (record { label = x; text = t })) in
        row_drafted (record { label = x; text = t }) (record { letter = 70; name = x; body = some (t ++ (10 ∷ [])) }) n w after W refl valid new weight fits
        (omega (arith, l, D.long, weight)) (omega (arith, l, D.long, weight, h)) size (λ k. refl) (omega (arith, few, room, fits)) m slot_is

  -- ---- whether a label is new

  pub is_there : (x : Name) (b : Bool) → b ≡ not (member x (row_names D.rows)) → not b ≡ true → T (member x (labels fs))
  is_there x b e q = go (member x (labels fs)) (sym q ∙ ap not (e ∙ ap (λ (l : List Name). not (member x l)) D.named))
    where
      go : (c : Bool) → true ≡ not (not c) → T c
      go true h = tt
      go false h = absurd (let z : ◌≡◌ {A = ℕ} 0 1 = cc in omega arith)

  pub is_not_there : (x : Name) (b : Bool) → b ≡ not (member x (row_names D.rows)) → not b ≡ false → T (member x (labels fs)) → ⊥
  is_not_there x b e q = go (member x (labels fs)) (sym q ∙ ap not (e ∙ ap (λ (l : List Name). not (member x l)) D.named))
    where
      go : (c : Bool) → false ≡ not (not c) → T c → ⊥
      go true h k = let z : ◌≡◌ {A = ℕ} 0 1 = cc in omega arith
      go false h k = k

-- ---- the start

pub first_line : (out after : Text) (slots : List ℕ) (n : ℕ) → Written out 0 (82 ∷ 10 ∷ []) n after → Drafted [] after slots (record { end = n; count = 0; weight = 0 })
first_line out after slots n W =
    let e : n ≡ 2 = W.ends in
    let z : part after 2 n ≡ [] = ap (λ (k : ℕ). take k (drop 2 after)) (let q : n - 2 ≡ 0 = omega arith in q) in
    record {
      rows = [];
      held = record {
        is_text_lem = z;
        counted = refl;
        indexed = refl;
        named = tt;
        small = omega (arith, ap length z);
      };
      named = refl;
      are_valid = tt;
      are_distinct = tt;
      weighs = refl;
      is_text_lem = λ h. written_take W;
      started = omega arith;
      within = omega (arith, W.fits, written_length W);
      long = omega arith;
      full = omega arith;
      heavy = omega arith;
    }

-- ---- a text that was found

pub part_short : (t : Text) (n k : ℕ) → length t ≤ places → length (take n (drop k t)) ≤ places
part_short t n k h = omega (arith, length-take n (drop k t), length-drop k t)

pub extends_as : (fs : List Field) (x : Name) (t : Text) (r : Answer Draft) (out : Text) (slots : List ℕ) {f g : Answer Span} → f ≡ g
    → Extends fs x (text_at t g) r out slots → Extends fs x (text_at t f) r out slots
extends_as fs x t r out slots e h = subst (λ (f : Answer Span). Extends fs x (text_at t f) r out slots) (sym e) h

pub extends_by : (fs : List Field) (x : Name) (r : Answer Draft) (out : Text) (slots : List ℕ) {o p : Option Text} → o ≡ p → Extends fs x o r out slots → Extends fs x p r out slots
extends_by fs x r out slots e h = subst (λ (o : Option Text). Extends fs x o r out slots) e h
