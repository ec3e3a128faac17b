-- Principals and variables are rows: their texts, and what a look-up by name says of them.
-- Assumes nothing.
use mathlib.Core.Path.{◌≡◌, refl, sym, ap, subst, ◌∙◌}
use mathlib.Core.Bool.{◌&&◌}
use mathlib.Core.Option.{Option, none, some}
use mathlib.Core.List.{List, [], ◌∷◌, ◌++◌, map, append_assoc}
use Prim.Native.Nat.{ℕ, ◌+◌}
use lib.Dec.{T}
use lib.ListN.{length, length-map}
use Rattle.language.specs.Text.{Text, joined, all}
use Rattle.language.specs.Syntax.{Name}
use Rattle.language.specs.State.{string, fields, Value, single, list, Principal, Variable}
use Rattle.language.specs.Identifiers.{is_name}
use Rattle.language.specs.Encode.{tab, newline, field_text, element_text, principal_line, principal_text, variable_text, principals_text, variables_text, value_text}
use Rattle.language.specs.Former.{Form, current, former, former_line, former_principal, principal_in}
use Rattle.store.specs.Held.{Held, PrincipalsIn, Principals, Variables, slot, slots_from}
use Rattle.store.specs.Rows.{Row, Rows, SomeRows, row_text, password_letter, password_body, principal_row, former_body, former_row, row_in, variable_row}

-- ---- their texts

pub principal_text_lem : (k : Principal) → principal_text k ≡ row_text (principal_row k)
principal_text_lem k = go k.password
  where
    go : (o : Option Text) → principal_line k.name o k.count ≡ row_text (record { letter = password_letter o; name = k.name; body = some (password_body o k.count) })
    go none = refl
    go (some t) = refl

former_text_lem : (k : Principal) → former_principal k ≡ row_text (former_row k)
former_text_lem k = go k.password
  where
    go : (o : Option Text) → former_line k.name o ≡ row_text (record { letter = password_letter o; name = k.name; body = former_body o })
    go none = refl
    go (some t) = refl

pub text_in : (f : Form) (k : Principal) → principal_in f k ≡ row_text (row_in f k)
text_in current = principal_text_lem
text_in former = former_text_lem

pub name_in : (f : Form) (k : Principal) → k.name ≡ (row_in f k).name
name_in current k = refl
name_in former k = refl

-- a variable's text: `V`, the name, and the text of the value
pub variable_text_lem : (x : Name) (v : Value) → variable_text x v ≡ 86 ∷ tab ∷ (x ++ tab ∷ value_text v)
variable_text_lem x (single (string t)) = refl
variable_text_lem x (single (fields fs)) = ap (λ (l : Text). 86 ∷ tab ∷ l) (append_assoc x (tab ∷ 82 ∷ newline ∷ []) (joined field_text fs))
variable_text_lem x (list es) = ap (λ (l : Text). 86 ∷ tab ∷ l) (append_assoc x (tab ∷ 76 ∷ newline ∷ []) (joined element_text es))

-- ---- records that are rows

module _ {A : Type 0} (name : A → Name) (text : A → Text) (row : A → Row) (same_text : (a : A) → text a ≡ row_text (row a)) (same_name : (a : A) → name a ≡ (row a).name) where
  pub joined_rows : (l : List A) → joined text l ≡ joined row_text (map row l)
  joined_rows [] = refl
  joined_rows (a ∷ l) = λ i. same_text a i ++ joined_rows l i

  slots_rows : (at : ℕ) (l : List A) → slots_from name text at l ≡ slots_from (λ r. r.name) row_text at (map row l)
  slots_rows at [] = refl
  slots_rows at (a ∷ l) =
      ap (λ (n : ℕ). slot (name a) at ∷ slots_from name text (at + n) l) (ap length (same_text a))
      ∙ ap (λ (x : Name). slot x at ∷ slots_from name text (at + length (row_text (row a))) l) (same_name a)
      ∙ ap (λ (m : List ℕ). slot (row a).name at ∷ m) (slots_rows (at + length (row_text (row a))) l)

  names_rows : (l : List A) → all (λ a. is_name (name a)) l ≡ all (λ r. is_name r.name) (map row l)
  names_rows [] = refl
  names_rows (a ∷ l) = λ i. is_name (same_name a i) && names_rows l i

  pub as_rows : (l : List A) (t : Text) (count : ℕ) (slots : List ℕ) → Held name text l t count slots → Rows (map row l) t count slots
  as_rows l t count slots H = record {
    is_text_lem = H.is_text_lem ∙ joined_rows l;
    counted = H.counted ∙ sym (length-map l row);
    indexed = H.indexed ∙ slots_rows 0 l;
    named = subst T (names_rows l) H.named;
    small = H.small;
  }

  pub from_rows : (l : List A) (t : Text) (count : ℕ) (slots : List ℕ) → Rows (map row l) t count slots → Held name text l t count slots
  from_rows l t count slots H = record {
    is_text_lem = H.is_text_lem ∙ sym (joined_rows l);
    counted = H.counted ∙ length-map l row;
    indexed = H.indexed ∙ sym (slots_rows 0 l);
    named = subst T (sym (names_rows l)) H.named;
    small = H.small;
  }

pub joined_principals : (ks : List Principal) → principals_text ks ≡ joined row_text (map principal_row ks)
joined_principals = joined_rows (λ k. k.name) principal_text principal_row principal_text_lem (λ k. refl)

pub joined_variables : (vs : List Variable) → variables_text vs ≡ joined row_text (map variable_row vs)
joined_variables = joined_rows (λ v. v.name) (λ v. variable_text v.name v.value) variable_row (λ v. variable_text_lem v.name v.value) (λ v. refl)

module _ (f : Form) (ks : List Principal) (t : Text) (count : ℕ) (slots : List ℕ) where
  pub rows_in : PrincipalsIn f ks t count slots → Rows (map (row_in f) ks) t count slots
  rows_in = as_rows (λ k. k.name) (principal_in f) (row_in f) (text_in f) (name_in f) ks t count slots

  pub in_rows : Rows (map (row_in f) ks) t count slots → PrincipalsIn f ks t count slots
  in_rows = from_rows (λ k. k.name) (principal_in f) (row_in f) (text_in f) (name_in f) ks t count slots

module _ (ks : List Principal) (t : Text) (count : ℕ) (slots : List ℕ) where
  pub principals_rows : Principals ks t count slots → Rows (map principal_row ks) t count slots
  principals_rows = rows_in current ks t count slots

  pub rows_principals : Rows (map principal_row ks) t count slots → Principals ks t count slots
  rows_principals = in_rows current ks t count slots

  pub some_principals : Principals ks t count slots → SomeRows t count slots
  some_principals H = record { rows = map principal_row ks; held = principals_rows H }

module _ (vs : List Variable) (t : Text) (count : ℕ) (slots : List ℕ) where
  pub variables_rows : Variables vs t count slots → Rows (map variable_row vs) t count slots
  variables_rows = as_rows (λ v. v.name) (λ v. variable_text v.name v.value) variable_row (λ v. variable_text_lem v.name v.value) (λ v. refl) vs t count slots

  pub rows_variables : Rows (map variable_row vs) t count slots → Variables vs t count slots
  rows_variables = from_rows (λ v. v.name) (λ v. variable_text v.name v.value) variable_row (λ v. variable_text_lem v.name v.value) (λ v. refl) vs t count slots

  pub some_variables : Variables vs t count slots → SomeRows t count slots
  some_variables H = record { rows = map variable_row vs; held = variables_rows H }
