-- What reading a name gives: the text of a valid value, or nothing.
-- Assumes nothing.
use mathlib.Core.Path.{◌≡◌, refl, sym, ap, subst, ◌∙◌}
use Prim.Native.Nat.{ℕ, ◌≤◌, zero-le}
use native.Mathlib.Omega.{arith}
use mathlib.Core.Option.{Option, none, some}
use mathlib.Core.List.{List, [], ◌∷◌}
use lib.Dec.{T}
use lib.ListN.{length, length-append}
use Rattle.language.specs.Text.{Text, when◌then◌else◌, ◌≟◌, all, joined, ◌>>=◌, ◌or_else◌}
use Rattle.language.specs.Encode.{variable_text, value_text}
use Rattle.store.specs.Held.{places}
use Rattle.store.proofs.Holders.{variable_text_lem}
use mathlib.Core.Bool.{Bool, true, false}
use Rattle.language.specs.Syntax.{Name, dot}
use Rattle.language.specs.Identifiers.{is_name, is_string}
use Rattle.language.specs.State.{Field, string, fields, Value, single, list, Variable, value_in}
use Rattle.language.specs.Valid.{valid_field, valid_value, valid_variable}
use Rattle.language.specs.Values.{Session, lookup, as_fields, as_string, text_of, operand_value}
use Rattle.language.proofs.Logic.Tests.{both}
use Rattle.language.proofs.Logic.Outcomes.{Where, if_where, or_else_where}
use Rattle.syntax.specs.declared.Operand as Read
use Rattle.syntax.specs.Values.{operand_meant}
use Rattle.contents.specs.Contents.{value_bytes}
use Rattle.values.specs.Encoding.{Holds, ValueText}
use Rattle.values.specs.Answers.{field_of}
use Rattle.values.proofs.Texts.{some_bytes}
use Rattle.values.proofs.Standing.{fields_valid}
use Rattle.scopes.specs.Scopes.{Scope, ReadAs}
use Rattle.evaluated.specs.Weighed.{by_weight}
use Rattle.evaluated.specs.Results.{string_in, field_in, MaybeString, string_value, Valued}
use Rattle.evaluated.specs.declared.Evaluated.{Evaluated}

abbrev IsValid : Value → Type 0
IsValid v = T (valid_value v)

found_valid : (vs : List Variable) (x : Name) → T (all valid_variable vs) → Where IsValid (value_in vs x)
found_valid [] x h = tt
found_valid (v ∷ vs) x h =
    let (h₁, h₂) = both (valid_variable v) (all valid_variable vs) h in
    if_where IsValid (v.name ≟ x) (some v.value) (value_in vs x) (λ t. (both (is_name v.name) (valid_value v.value) h₁).1) (λ t. found_valid vs x h₂)

module _ {s : Session} {shared : Text} {slots : List ℕ} {count : ℕ} {locals : Text} {lslots : List ℕ} {lcount : ℕ} (S : Scope s shared slots count locals lslots lcount) (x : Name) where
  pub lookup_valid : Where IsValid (lookup s x)
  lookup_valid =
      or_else_where IsValid (value_in s.locals x) (value_in s.store.variables x) (found_valid s.locals x S.locals_valid) (found_valid s.store.variables x S.shared_valid)

  pub read_name : (r : Text) → r ≡ value_bytes (lookup s x) → ReadAs (lookup s x) r
  read_name r e = go (lookup s x) lookup_valid e
    where
      go : (o : Option Value) → Where IsValid o → r ≡ value_bytes o → ReadAs o r
      go none h e = e
      go (some v) h e = record { is_valid = h; is_text_lem = e }

-- ---- no more is read than there is

bytes_in : (vs : List Variable) (x : Name) → length (value_bytes (value_in vs x)) ≤ length (joined (λ v. variable_text v.name v.value) vs)
bytes_in [] x = zero-le
bytes_in (v ∷ vs) x = go (v.name ≟ x) (bytes_in vs x)
  where
    go : (b : Bool) → length (value_bytes (value_in vs x)) ≤ length (joined (λ v. variable_text v.name v.value) vs)
        → length (value_bytes (when b then some v.value else value_in vs x)) ≤ length (joined (λ v. variable_text v.name v.value) (v ∷ vs))
    go true h =
        let u : Text = value_text v.value in
        omega (arith, length-append (variable_text v.name v.value) (joined (λ v. variable_text v.name v.value) vs), ap length (variable_text_lem v.name v.value), length-append v.name (9 ∷ u))
    go false h = omega (arith, h, length-append (variable_text v.name v.value) (joined (λ v. variable_text v.name v.value) vs))

read_bytes : (o : Option Value) (r : Text) → ReadAs o r → r ≡ value_bytes o
read_bytes none r R = R
read_bytes (some v) r R = R.is_text_lem

pub read_short : {s : Session} {shared : Text} {slots : List ℕ} {count : ℕ} {locals : Text} {lslots : List ℕ} {lcount : ℕ}
    → Scope s shared slots count locals lslots lcount → (x : Name) (r : Text) → ReadAs (lookup s x) r → length r ≤ places
read_short {s} S x r R =
    let l : length (value_bytes (value_in s.locals x)) ≤ places = omega (arith, bytes_in s.locals x, S.locals_held.small, ap length S.locals_held.is_text_lem) in
    let h : length (value_bytes (value_in s.store.variables x)) ≤ places = omega (arith, bytes_in s.store.variables x, S.shared_held.small, ap length S.shared_held.is_text_lem) in
    omega (arith, ap length (read_bytes (lookup s x) r R), go (value_in s.locals x) l h)
  where
    go : (o : Option Value) → length (value_bytes o) ≤ places → length (value_bytes (value_in s.store.variables x)) ≤ places
        → length (value_bytes (o or_else value_in s.store.variables x)) ≤ places
    go none l h = h
    go (some v) l h = l

-- ---- what was read, by its length

module _ (o : Option Value) (t : Text) (r : ReadAs o t) where
  pub nothing_read : length t ≡ 0 → o ≡ none
  nothing_read e = go o r
    where
      go : (o : Option Value) → ReadAs o t → o ≡ none
      go none r = refl
      go (some v) r = absurd (omega (arith, e, some_bytes v t r))

  pub record Something : Type 0 where
    pub value : Value
    pub is_value : o ≡ some value
    pub held : Holds value t

  pub something_read : (length t ≡ 0 → ⊥) → Something
  something_read n = go o refl r
    where
      go : (p : Option Value) → o ≡ p → ReadAs p t → Something
      go none q r = absurd (n (ap length r))
      go (some v) q r = record { value = v; is_value = q; held = r }

  pub value_text_lem : (length t ≡ 0 → ⊥) → ValueText t
  value_text_lem n = let S = something_read n in record { value = S.value; held = S.held }

-- ---- strings are of their alphabet

string_valid : (v : Value) → IsValid v → MaybeString (as_string v)
string_valid (single (string t)) h = h
string_valid (single (fields fs)) h = tt
string_valid (list es) h = tt

text_valid : (fs : List Field) (y : Name) → T (all valid_field fs) → MaybeString (text_of fs y)
text_valid [] y h = tt
text_valid (f ∷ fs) y h =
    let (h₁, h₂) = both (valid_field f) (all valid_field fs) h in
    if_where (λ t. T (is_string t)) (f.label ≟ y) (some f.text) (text_of fs y) (λ t. (both (is_name f.label) (is_string f.text) h₁).1) (λ t. text_valid fs y h₂)

field_valid : (v : Value) (y : Name) → IsValid v → MaybeString (field_of v y)
field_valid (single (string t)) y h = tt
field_valid (single (fields fs)) y h = text_valid fs y (fields_valid fs h)
field_valid (list es) y h = tt

pub string_read : (o : Option Value) (t : Text) → ReadAs o t → MaybeString (string_in o)
string_read none t r = tt
string_read (some v) t r = string_valid v r.is_valid

pub field_read : (o : Option Value) (y : Name) (t : Text) → ReadAs o t → MaybeString (field_in o y)
field_read none y t r = tt
field_read (some v) y t r = field_valid v y r.is_valid

-- ---- operands

pub dot_value : (s : Session) (x y : Name) → string_value (field_in (lookup s x) y) ≡ operand_value s (dot x y)
dot_value s x y = go (lookup s x)
  where
    text : (o : Option Text) → string_value o ≡ (o >>= λ t. some (single (string t)))
    text none = refl
    text (some t) = refl

    inner : (o : Option (List Field)) → string_value (o >>= λ fs. text_of fs y) ≡ (o >>= λ fs. text_of fs y >>= λ t. some (single (string t)))
    inner none = refl
    inner (some fs) = text (text_of fs y)

    go : (o : Option Value) → string_value (field_in o y) ≡ (o >>= λ v. as_fields v >>= λ fs. text_of fs y >>= λ t. some (single (string t)))
    go none = refl
    go (some v) = inner (as_fields v)

-- the string of a field
pub dot_string : (s : Session) (x y : Name) → field_in (lookup s x) y ≡ string_in (operand_value s (dot x y))
dot_string s x y = go (field_in (lookup s x) y) ∙ ap string_in (dot_value s x y)
  where
    go : (o : Option Text) → o ≡ string_in (string_value o)
    go none = refl
    go (some t) = refl

-- the same operand, by another name
pub valued_as : (r : Evaluated) (s : Session) (t out : Text) {v w : Read.Operand} → v ≡ w
    → Valued r (by_weight (operand_value s (operand_meant t w))) out → Valued r (by_weight (operand_value s (operand_meant t v))) out
valued_as r s t out e h = subst (λ (o : Read.Operand). Valued r (by_weight (operand_value s (operand_meant t o))) out) (sym e) h
