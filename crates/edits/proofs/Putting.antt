-- Values put in the place of others, and elements joined on, as changes of rows.
-- Assumes nothing.
use mathlib.Core.Path.{◌≡◌, refl, sym, ap, subst, ◌∙◌}
use mathlib.Core.Bool.{Bool, true, false}
use mathlib.Core.Option.{none, some}
use mathlib.Core.List.{List, [], ◌∷◌, ◌++◌, map, append_assoc, append-nil}
use Prim.Native.Nat.{ℕ, zero, suc, ◌+◌, ◌-◌, ◌<◌}
use native.Mathlib.Nat.{not-suc-le-zero, le_of_suc-le-suc}
use native.Mathlib.Omega.{arith}
use lib.ListN.{length, set, length-append}
use Rattle.language.specs.Text.{Text, joined, ◌≟◌, when◌then◌else◌}
use Rattle.language.specs.Syntax.{Name}
use Rattle.language.specs.State.{Element, Value, list, Variable, value_in, put}
use Rattle.language.specs.Encode.{tab, element_text, variables_text, value_text}
use Rattle.store.specs.Held.{Variables}
use Rattle.store.specs.Rows.{Row, Rows, row_text, row_at, no_row, start_of, position, variable_row, Placed}
use Rattle.store.specs.Contents.{variable_at}
use Rattle.edits.specs.Changes.{variable_names, Respelled}
use Rattle.store.specs.declared.index.Place.{Place}
use Rattle.store.proofs.Records.{joined_append, start_next}
use Rattle.store.proofs.Holders.{variables_rows, rows_variables, joined_variables}
use Rattle.store.proofs.Answers.{map_at, value_at}
use Rattle.edits.proofs.Rewriting.{respelled_size}
use Rattle.language.proofs.Logic.Lists.{some_same}

pub map_set : {A B : Type 0} (f : A → B) (l : List A) (k : ℕ) (a : A) → map f (set l k a) ≡ set (map f l) k (f a)
map_set f [] k a = refl
map_set f (b ∷ l) zero a = refl
map_set f (b ∷ l) (suc k) a = ap (λ x. f b ∷ x) (map_set f l k a)

-- a value in the place of the one that the name has
pub put_at : (vs : List Variable) (x : Name) (v : Value) → position (variable_names vs) x < length vs
    → put x v vs ≡ set vs (position (variable_names vs) x) (record { name = (variable_at vs (position (variable_names vs) x)).name; value = v })
put_at [] x v h = absurd (not-suc-le-zero h)
put_at (w ∷ vs) x v h = go (w.name ≟ x) h (put_at vs x v)
  where
    n : ℕ
    n = position (variable_names vs) x

    go : (b : Bool) → (when b then 0 else suc n) < suc (length vs)
        → (n < length vs → put x v vs ≡ set vs n (record { name = (variable_at vs n).name; value = v }))
        → (when b then record { name = w.name; value = v } ∷ vs else w ∷ put x v vs)
        ≡ set (w ∷ vs) (when b then 0 else suc n) (record { name = (variable_at (w ∷ vs) (when b then 0 else suc n)).name; value = v })
    go true h f = refl
    go false h f = ap (λ (l : List Variable). w ∷ l) (f (le_of_suc-le-suc h))

-- a name that is new
pub put_new : (vs : List Variable) (x : Name) (v : Value) → value_in vs x ≡ none → put x v vs ≡ vs ++ (record { name = x; value = v } ∷ [])
put_new [] x v e = refl
put_new (w ∷ vs) x v e = go (w.name ≟ x) e (put_new vs x v)
  where
    go : (b : Bool) → (when b then some w.value else value_in vs x) ≡ none → (value_in vs x ≡ none → put x v vs ≡ vs ++ (record { name = x; value = v } ∷ []))
        → (when b then record { name = w.name; value = v } ∷ vs else w ∷ put x v vs) ≡ w ∷ (vs ++ (record { name = x; value = v } ∷ []))
    go true e f = absurd (let z : ◌≡◌ {A = ℕ} 0 1 = cc in omega arith)
    go false e f = ap (λ (l : List Variable). w ∷ l) (f e)

-- ---- the row of a variable

module _ (vs : List Variable) (t : Text) (count : ℕ) (slots : List ℕ) (W : Variables vs t count slots) (x : Name) (k : ℕ) (h : k < count) (n : k ≡ position (variable_names vs) x) where
  var_below : k < length vs
  var_below = omega (arith, W.counted)

  var_row : row_at (map variable_row vs) k ≡ variable_row (variable_at vs k)
  var_row = map_at variable_row vs k (record { name = []; value = list [] }) no_row var_below

  -- the variable with another value
  abbrev pub with_value : Value → Variable
  with_value v = record { name = (variable_at vs k).name; value = v }

  pub put_row : (v : Value) → map variable_row (put x v vs) ≡ set (map variable_row vs) k (variable_row (with_value v))
  put_row v =
      ap (map variable_row) (put_at vs x v (omega (arith, n, var_below)) ∙ ap (λ (m : ℕ). set vs m (record { name = (variable_at vs m).name; value = v })) (sym n))
      ∙ map_set variable_row vs k (with_value v)

  pub value_respelled : (p : Place) → Placed (map variable_row vs) k p → (v : Value) (src : Text) → src ≡ value_text v
      → Respelled (map variable_row vs) k (p.mid + 1) p.end src (variable_row (with_value v))
  value_respelled p P v src e =
      let y : Name = (variable_at vs k).name in
      let o : Text = value_text (variable_at vs k).value in
      let front : Text = 86 ∷ tab ∷ (y ++ (tab ∷ [])) in
      let split : (z : Text) → 86 ∷ tab ∷ (y ++ (tab ∷ z)) ≡ front ++ (z ++ []) =
      λ z. ap (λ (l : Text). 86 ∷ tab ∷ l) (sym (append_assoc y (tab ∷ []) z) ∙ ap (λ (l : Text). (y ++ (tab ∷ [])) ++ l) (sym (append-nil z))) in
      let was : row_text (row_at (map variable_row vs) k) ≡ front ++ (o ++ []) = ap row_text var_row ∙ split o in
      let yn : length (row_at (map variable_row vs) k).name ≡ length y = ap (λ (r : Row). length r.name) var_row in
      let f : p.mid + 1 ≡ start_of (map variable_row vs) k + length front = omega (arith, P.name_ends, yn, length-append y (tab ∷ [])) in
      record {
        before = front;
        old = o;
        after = [];
        was = was;
        becomes = split (value_text v) ∙ ap (λ (l : Text). front ++ (l ++ [])) (sym e);
        from_is = f;
        to_is =
            omega (arith, P.ends, f, start_next (map variable_row vs) t count slots (variables_rows vs t count slots W) k h, ap length was, length-append front (o ++ []), length-append o []);
        same_name = sym (ap (λ (r : Row). r.name) var_row);
      }

  pub elements_respelled : (p : Place) → Placed (map variable_row vs) k p → (es fs : List Element) (src : Text) → value_in vs x ≡ some (list es) → src ≡ joined element_text fs
      → Respelled (map variable_row vs) k p.end p.end src (variable_row (with_value (list (es ++ fs))))
  elements_respelled p P es fs src q e =
      let y : Name = (variable_at vs k).name in
      let whole : Text = row_text (variable_row (variable_at vs k)) in
      let is : (variable_at vs k).value ≡ list es =
      some_same (sym (value_at vs x (omega (arith, n, var_below)) ∙ ap (λ (m : ℕ). some (variable_at vs m).value) (sym n)) ∙ q) in
      let was : row_text (row_at (map variable_row vs) k) ≡ whole ++ ([] ++ []) = ap row_text var_row ∙ sym (append-nil whole) in
      let grown : value_text (list (es ++ fs)) ≡ value_text (list es) ++ joined element_text fs =
      ap (λ (l : Text). 76 ∷ 10 ∷ l) (joined_append element_text es fs) in
      record {
        before = whole;
        old = [];
        after = [];
        was = was;
        becomes =
            ap (λ (l : Text). 86 ∷ tab ∷ (y ++ (tab ∷ l))) (grown ∙ (λ i. value_text (sym is i) ++ sym e i))
            ∙ sym (append_nil_in whole src y (value_text (variable_at vs k).value) refl);
        from_is = omega (arith, P.ends, start_next (map variable_row vs) t count slots (variables_rows vs t count slots W) k h, ap (λ (r : Row). length (row_text r)) var_row);
        to_is = omega arith;
        same_name = sym (ap (λ (r : Row). r.name) var_row);
      }
    where
      append_nil_in : (whole src : Text) (y : Name) (o : Text) → whole ≡ 86 ∷ tab ∷ (y ++ (tab ∷ o)) → whole ++ (src ++ []) ≡ 86 ∷ tab ∷ (y ++ (tab ∷ (o ++ src)))
      append_nil_in whole src y o w =
          (λ i. w i ++ append-nil src i) ∙ ap (λ (l : Text). 86 ∷ tab ∷ l) (append_assoc y (tab ∷ o) src)

-- ---- room

pub put_size : (vs : List Variable) (t : Text) (count : ℕ) (slots : List ℕ) (W : Variables vs t count slots) (x : Name) (k : ℕ) (h : k < count)
    (n : k ≡ position (variable_names vs) x) (from to : ℕ) (src : Text) (v : Value) → Respelled (map variable_row vs) k from to src (variable_row (with_value vs t count slots W x k h n v))
    → from + length src + (length t - to) ≡ length (variables_text (put x v vs))
put_size vs t count slots W x k h n from to src v R =
    respelled_size (map variable_row vs) t count slots (variables_rows vs t count slots W) k from to src (variable_row (with_value vs t count slots W x k h n v)) h R
    ∙ ap (λ (l : List Row). length (joined row_text l)) (sym (put_row vs t count slots W x k h n v)) ∙ ap length (sym (joined_variables (put x v vs)))

-- the variables, from the rewritten rows
pub put_held : (vs : List Variable) (t : Text) (count : ℕ) (slots : List ℕ) (W : Variables vs t count slots) (x : Name) (k : ℕ) (h : k < count)
    (n : k ≡ position (variable_names vs) x) (v : Value) (t' : Text) (slots' : List ℕ)
    → Rows (set (map variable_row vs) k (variable_row (with_value vs t count slots W x k h n v))) t' count slots' → Variables (put x v vs) t' count slots'
put_held vs t count slots W x k h n v t' slots' H =
    rows_variables (put x v vs) t' count slots' (subst (λ (l : List Row). Rows l t' count slots') (sym (put_row vs t count slots W x k h n v)) H)
