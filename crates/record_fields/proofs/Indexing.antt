-- Records with names, read one after the other: their slots, and that no name is there twice.
-- Assumes nothing.
use mathlib.Core.Path.{◌≡◌, refl, sym, ap, subst, ◌∙◌}
use mathlib.Core.Logic.{inl, inr}
use Prim.Native.Nat.{ℕ, suc, ◌+◌, ◌*◌, ◌-◌, ◌≤◌, ◌<◌}
use native.Mathlib.Omega.{arith}
use native.Mathlib.Numerals.{add-one}
use mathlib.Core.Bool.{Bool, true, false, ◌||◌, not}
use mathlib.Core.List.{List, [], ◌∷◌, ◌++◌, map}
use lib.Dec.{T, T_not, leb, leb→le}
use lib.ListN.{length, take, drop, set, length-append, length-drop, length-map}
use lib.Seq.{take-suc-set, take-append_seam}
use Rattle.std.specs.Prelude.{None}
use Rattle.language.specs.Text.{Text, when◌then◌else◌, ◌≟◌, all, joined, sum, member, distinct}
use Rattle.language.specs.Syntax.{Name}
use Rattle.language.specs.Identifiers.{is_name}
use Rattle.language.proofs.Logic.Tests.{both, one_of_lem, left_of_lem, right_of, ==_sym, all_map, any_right_lem, distinct_last}
use Rattle.store.specs.Held.{Held, slot, slots_from}
use Rattle.text.specs.Parts.{part}
use Rattle.store.specs.Rows.{Row, Rows, row_text, row_names, position, found_at, place}
use Rattle.store.proofs.Holders.{as_rows}
use Rattle.store.proofs.Answers.{answered, unanswered}
use Rattle.record_fields.specs.Sections.{Fails, light_all, Entitled}
use Rattle.record_fields.specs.Entering.{Entering, Entered}
use Rattle.record_fields.proofs.Follow.{Run, start, step, spoilt}
use Rattle.language.proofs.Logic.Lists.{map_append}

-- ---- names and their places

pub member_place : (x : Name) (l : List Name) → T (member x l) → position l x < length l
member_place x [] h = absurd h
member_place x (y ∷ l) h = go (y ≟ x) (x ≟ y) (==_sym x y) h (member_place x l)
  where
    go : (b c : Bool) → (T c → T b) → T (c || member x l) → (T (member x l) → position l x < length l) → (when b then 0 else suc (position l x)) < suc (length l)
    go true c f h ih = omega arith
    go false true f h ih = absurd (f tt)
    go false false f h ih = let k = ih h in omega arith

pub place_member : (x : Name) (l : List Name) → position l x < length l → T (member x l)
place_member x [] h = absurd (omega arith)
place_member x (y ∷ l) h = go (y ≟ x) (==_sym y x) h (place_member x l)
  where
    go : (b : Bool) → (T b → T (x ≟ y)) → (when b then 0 else suc (position l x)) < suc (length l) → (position l x < length l → T (member x l)) → T ((x ≟ y) || member x l)
    go true f h ih = left_of_lem (x ≟ y) (member x l) (f tt)
    go false f h ih = right_of (x ≟ y) (member x l) (ih (omega arith))

-- a name twice
pub not_distinct : (l m : List Name) (x : Name) → T (member x l) → T (distinct (l ++ x ∷ m)) → ⊥
not_distinct [] m x h d = h
not_distinct (y ∷ l) m x h d =
    let (n, r) = both (not (member y (l ++ x ∷ m))) (distinct (l ++ x ∷ m)) d in
    elim (one_of_lem (x ≟ y) (member x l) h) [
      | inl e ↦ T_not (member y (l ++ x ∷ m)) n (any_right_lem (λ u. y ≟ u) l (x ∷ m) (left_of_lem (y ≟ x) (member y m) (==_sym x y e)))
      | inr k ↦ not_distinct l m x k r
    ]

-- ---- records with names

module _ {A : Type 0} (name : A → Name) (text : A → Text) (fine : A → Bool) (weight : A → ℕ) (off : Text → Bool) (t : Text) (at w : ℕ) where
  -- what the loop over the records knows
  pub record Going (slots : List ℕ) (i n now : ℕ) : Type 0 where
    pub rows : List A
    pub run : Run text fine weight off t at w rows i now
    pub counted : n ≡ length rows
    pub indexed : take n slots ≡ slots_from name text 0 rows
    pub apart : T (distinct (map name rows))

module _ {A : Type 0} (name : A → Name) (text : A → Text) where
  slots_last : (from : ℕ) (rows : List A) (a : A) → slots_from name text from (rows ++ a ∷ []) ≡ slots_from name text from rows ++ slot (name a) (from + length (joined text rows)) ∷ []
  slots_last from [] a = ap (λ (k : ℕ). slot (name a) k ∷ []) (omega arith)
  slots_last from (b ∷ rows) a =
      ap (λ (l : List ℕ). slot (name b) from ∷ l)
      (slots_last (from + length (text b)) rows a
      ∙ ap (λ (k : ℕ). slots_from name text (from + length (text b)) rows ++ slot (name a) k ∷ []) (omega (arith, length-append (text b) (joined text rows))))

  module _ (fine : A → Bool) (weight : A → ℕ) (off : Text → Bool) (t : Text) (at w : ℕ) (rows : List A) (i now : ℕ) (R : Run text fine weight off t at w rows i now) where
    sized : length (joined text rows) ≡ i - at
    sized =
        let h = R.here in
        let e : length t - at ≡ length (joined text rows) + (length t - i) = sym (length-drop at t) ∙ ap length h ∙ length-append (joined text rows) (drop i t) ∙ ap (λ (k : ℕ). length (joined text rows) + k) (length-drop i t) in
        omega (arith, R.low, R.high)

    run_part : part t at i ≡ joined text rows
    run_part =
        ap (λ (k : ℕ). take k (drop at t)) (sym sized) ∙ ap (take (length (joined text rows))) R.here ∙ take-append_seam (joined text rows) (drop i t)

    pub run_held : (n : ℕ) (slots : List ℕ) → ((a : A) → T (fine a) → T (is_name (name a))) → n ≡ length rows → take n slots ≡ slots_from name text 0 rows → length t ≤ 65536
        → Held name text rows (part t at i) n slots
    run_held n slots named counted indexed small = record {
      is_text_lem = run_part;
      counted = counted;
      indexed = indexed;
      named = all_map fine (λ a. is_name (name a)) named rows R.all_fine;
      small = let l : length (part t at i) ≡ i - at = ap length run_part ∙ sized in omega (arith, R.high);
    }

    pub slots_step : (a : A) (n : ℕ) (slots : List ℕ) → n ≡ length rows → n < length slots → take n slots ≡ slots_from name text 0 rows
        → take (n + 1) (set slots n (slot (name a) (i - at))) ≡ slots_from name text 0 (rows ++ a ∷ [])
    slots_step a n slots counted room indexed =
        ap (λ (k : ℕ). take k (set slots n (slot (name a) (i - at)))) (add-one n)
        ∙ take-suc-set slots n (slot (name a) (i - at)) room
        ∙ ap (λ (l : List ℕ). l ++ slot (name a) (i - at) ∷ []) indexed
        ∙ ap (λ (k : ℕ). slots_from name text 0 rows ++ slot (name a) k ∷ []) (omega (arith, sized))
        ∙ sym (slots_last 0 rows a)

-- every record weighs 2 at least
pub weighs_two : {A : Type 0} (fine : A → Bool) (weight : A → ℕ) → ((a : A) → T (fine a) → 2 ≤ weight a) → (rows : List A) → T (all fine rows) → 2 * length rows ≤ sum weight rows
weighs_two fine weight two [] h = omega arith
weighs_two fine weight two (a ∷ rows) h =
    let (h₁, h₂) = both (fine a) (all fine rows) h in
    let k = two a h₁ in
    let ih = weighs_two fine weight two rows h₂ in
    omega arith

-- records that are rows
module _ {A : Type 0} (name : A → Name) (text : A → Text) (row : A → Row) (same_text : (a : A) → text a ≡ row_text (row a)) (same_name : (a : A) → name a ≡ (row a).name) where
  pub names_of : (rows : List A) → row_names (map row rows) ≡ map name rows
  names_of [] = refl
  names_of (a ∷ rows) = λ i. sym (same_name a) i ∷ names_of rows i

  pub rows_member : (rows : List A) (x : Name) → T (member x (row_names (map row rows))) → T (member x (map name rows))
  rows_member rows x h = subst (λ (l : List Name). T (member x l)) (names_of rows) h

  pub member_rows : (rows : List A) (x : Name) → T (member x (map name rows)) → T (member x (row_names (map row rows)))
  member_rows rows x h = subst (λ (l : List Name). T (member x l)) (sym (names_of rows)) h

pub is_there : (rows : List Row) (x : Name) (k s e : ℕ) → found_at k s e ≡ place rows x → T (member x (row_names rows))
is_there rows x k s e q =
    let A = answered rows x k s e q in
    place_member x (row_names rows) (omega (arith, A.number, A.below, length-map rows (λ (r : Row). r.name)))

pub is_new : (rows : List Row) (x : Name) → None ≡ place rows x → T (member x (row_names rows)) → ⊥
is_new rows x q m =
    let U = unanswered rows x q in
    let P = member_place x (row_names rows) m in
    omega (arith, length-map rows (λ (r : Row). r.name))

pub apart_step : {A : Type 0} (name : A → Name) (rows : List A) (a : A) → T (distinct (map name rows)) → ¬ T (member (name a) (map name rows)) → T (distinct (map name (rows ++ a ∷ [])))
apart_step name rows a d n = subst (λ (l : List Name). T (distinct l)) (sym (map_append name rows (a ∷ []))) (distinct_last (map name rows) (name a) d n)

pub twice_spoils : {A : Type 0} (name : A → Name) (rows : List A) (a : A) → T (member (name a) (map name rows)) → (ms : List A) → T (distinct (map name (rows ++ a ∷ ms))) → ⊥
twice_spoils name rows a h ms d = not_distinct (map name rows) (map name ms) (name a) h (subst (λ (l : List Name). T (distinct l)) (map_append name rows (a ∷ ms)) d)

-- reading goes ahead
pub ahead : (t l : Text) (i e : ℕ) → drop i t ≡ l ++ drop e t → 0 < length l → i ≤ e → e ≤ length t → i < e
ahead t l i e d p o h =
    let n : length t - i ≡ length l + (length t - e) = sym (length-drop i t) ∙ ap length d ∙ length-append l (drop e t) ∙ ap (λ (k : ℕ). length l + k) (length-drop e t) in
    omega arith

-- the loop over records with names
module _ {A : Type 0} (name : A → Name) (text : A → Text) (fine : A → Bool) (weight : A → ℕ) (clear off : Text → Bool)
    (off-clear : (q : Text) → T (off q) → T (clear q))
    (clear_row : (a : A) (q : Text) → T (clear (text a ++ q)))
    (row_on : (a : A) (q : Text) → T (off (text a ++ q)) → ⊥)
    (named : (a : A) → T (fine a) → T (is_name (name a)))
    (two : (a : A) → T (fine a) → 2 ≤ weight a)
    (row : A → Row) (same_text : (a : A) → text a ≡ row_text (row a)) (same_name : (a : A) → name a ≡ (row a).name)
    (t : Text) (at w : ℕ) (slots : List ℕ) (i n now : ℕ) (G : Going name text fine weight off t at w slots i n now) where
  pub going_held : length t ≤ 65536 → Held name text G.rows (part t at i) n slots
  going_held small = run_held name text fine weight off t at w G.rows i now G.run n slots named G.counted G.indexed small

  pub going_rows : length t ≤ 65536 → Rows (map row G.rows) (part t at i) n slots
  going_rows small = as_rows name text row same_text same_name G.rows (part t at i) n slots (going_held small)

  pub weight_low : w + 2 * n ≤ now
  weight_low = omega (arith, weighs_two fine weight two G.rows G.run.all_fine, G.counted, G.run.weighed)

  module _ (m e after : ℕ) (E : Entitled name text fine weight clear t i now m e after) where
    row_fine : T (fine E.one.row) × (now + weight E.one.row ≤ 8192)
    row_fine =
        let (f, l) = both (fine E.one.row) (leb (now + weight E.one.row) 8192) E.one.reads.is_fine in
        (f, leb→le (now + weight E.one.row) 8192 l)

    -- by the weight there is a slot left
    pub room : 8192 ≤ w + 2 * length slots → n < length slots
    room h =
        let (f, l) = row_fine in
        let k = two E.one.row f in
        omega (arith, weight_low)

    pub light : after ≤ 8192
    light = let (f, l) = row_fine in omega (arith, E.one.weighed)

    pub entering : length t ≤ 65536 → n < length slots → Entering t at i m n slots
    entering small left = record {
      low = G.run.low;
      name_low = E.mid_low;
      name_high = E.mid_high;
      small = small;
      room = left;
      some = record { rows = map row G.rows; held = going_rows small };
    }

    module _ (on : T (off (drop i t)) → ⊥) where
      unfoldable pub go_on : n < length slots → (slots' : List ℕ) → Entered (map row G.rows) (part t (i + 2) m) (i - at) n slots slots' true → Going name text fine weight off t at w slots' e (n + 1) after
      go_on left slots' (new, stored) = record {
        rows = G.rows ++ E.one.row ∷ [];
        run = step text fine weight clear off off-clear clear_row row_on t at w G.rows i now G.run on E.one.row e after E.one.reads E.one.weighed;
        counted = omega (arith, G.counted, length-append G.rows (E.one.row ∷ []));
        indexed =
            ap (take (n + 1)) (stored ∙ ap (λ (x : Name). set slots n (slot x (i - at))) E.name_holds)
            ∙ slots_step name text fine weight off t at w G.rows i now G.run E.one.row n slots G.counted left G.indexed;
        apart = apart_step name G.rows E.one.row G.apart (λ k. new (member_rows name text row same_text same_name G.rows (part t (i + 2) m) (subst (λ (x : Name). T (member x (map name G.rows))) (sym E.name_holds) k)));
      }

      pub again : (good : List A → Bool) → ((l : List A) → T (good l) → T (distinct (map name l))) → (slots' : List ℕ) → Entered (map row G.rows) (part t (i + 2) m) (i - at) n slots slots' false
          → Fails (joined text) (light_all fine good weight w) off t at
      again good apart slots' there =
          spoilt text fine weight clear off off-clear clear_row row_on t at w G.rows i now G.run on E.one.row e after E.one.reads E.one.weighed good
          (λ ms g. twice_spoils name G.rows E.one.row (subst (λ (x : Name). T (member x (map name G.rows))) E.name_holds (rows_member name text row same_text same_name G.rows (part t (i + 2) m) there)) ms (apart (G.rows ++ E.one.row ∷ ms) g))

unfoldable pub going_start : {A : Type 0} (name : A → Name) (text : A → Text) (fine : A → Bool) (weight : A → ℕ) (clear off : Text → Bool)
    (off-clear : (q : Text) → T (off q) → T (clear q)) (clear_row : (a : A) (q : Text) → T (clear (text a ++ q))) (row_on : (a : A) (q : Text) → T (off (text a ++ q)) → ⊥)
    (t : Text) (at w : ℕ) (slots : List ℕ) → at ≤ length t → Going name text fine weight off t at w slots at 0 w
going_start name text fine weight clear off off-clear clear_row row_on t at w slots h = record {
  rows = [];
  run = start text fine weight clear off off-clear clear_row row_on t at w h;
  counted = refl;
  indexed = refl;
  apart = tt;
}
