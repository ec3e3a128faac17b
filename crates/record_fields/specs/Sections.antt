-- Reading a text from a place on: what stands there, that nothing else can, and how much it weighs.
use Rattle.std.specs.Prelude.{◌≡◌, ℕ, ◌+◌, ◌*◌, ◌≤◌, Bool, true, ◌&&◌, not, List, [], ◌∷◌, ◌++◌, T, leb, eqb, length, get_or, drop, Option, Some, None}
use Rattle.language.specs.Text.{Text, all, joined, sum, distinct}
use Rattle.language.specs.Syntax.{Name}
use Rattle.language.specs.State.{labels, Field}
use Rattle.language.specs.Identifiers.{is_string}
use Rattle.language.specs.Weight.{limit}
use Rattle.language.specs.Encode.{field_text}
use Rattle.language.specs.Valid.{valid_field}
use Rattle.text.specs.Parts.{part}
use Rattle.record_fields.specs.declared.Entry.{Entry}
use Rattle.record_fields.specs.declared.Section.{Section}

-- at place `at` stands the text of a, up to e; and of no other fine b, if what follows it is clear
pub record Reads {A : Type 0} (text : A → Text) (fine : A → Bool) (clear : Text → Bool) (t : Text) (at : ℕ) (a : A) (e : ℕ) : Type 0 where
  pub low : at ≤ e
  pub high : e ≤ length t
  pub is_fine : T (fine a)
  pub here : drop at t ≡ text a ++ drop e t
  pub only : (b : A) (q : Text) → T (fine b) → T (clear q) → drop at t ≡ text b ++ q → (b ≡ a) × (q ≡ drop e t)

-- no such text stands there
abbrev pub Fails : {A : Type 0} → (A → Text) → (A → Bool) → (Text → Bool) → Text → ℕ → Type 0
Fails {A} text fine clear t at = (b : A) (q : Text) → T (fine b) → T (clear q) → drop at t ≡ text b ++ q → ⊥

-- fine, and light enough where w is weighed already
abbrev pub light_one : {A : Type 0} → (A → Bool) → (A → ℕ) → ℕ → A → Bool
light_one fine weight w a = fine a && leb (w + weight a) limit

-- one record: where it ends, and what is weighed with it
pub record One {A : Type 0} (text : A → Text) (fine : A → Bool) (weight : A → ℕ) (clear : Text → Bool) (t : Text) (at w e after : ℕ) : Type 0 where
  pub row : A
  pub reads : Reads text (light_one fine weight w) clear t at row e
  pub weighed : after ≡ w + weight row

abbrev pub ItemMeant : {A : Type 0} → (A → Text) → (A → Bool) → (A → ℕ) → (Text → Bool) → Text → ℕ → ℕ → Option (ℕ × ℕ) → Type 0
ItemMeant text fine weight clear t at w (Some (e, after)) = One text fine weight clear t at w e after
ItemMeant text fine weight clear t at w None = Fails text (light_one fine weight w) clear t at

-- one record with a name, which ends at m
pub record Entitled {A : Type 0} (name : A → Name) (text : A → Text) (fine : A → Bool) (weight : A → ℕ) (clear : Text → Bool) (t : Text) (at w m e after : ℕ) : Type 0 where
  pub one : One text fine weight clear t at w e after
  pub mid_low : at + 2 ≤ m
  pub mid_high : m ≤ length t
  pub name_holds : part t (at + 2) m ≡ name one.row

abbrev pub EntryMeant : {A : Type 0} → (A → Name) → (A → Text) → (A → Bool) → (A → ℕ) → (Text → Bool) → Text → ℕ → ℕ → Option Entry → Type 0
EntryMeant name text fine weight clear t at w (Some r) = Entitled name text fine weight clear t at w r.name_end r.end r.weighed
EntryMeant name text fine weight clear t at w None = Fails text (light_one fine weight w) clear t at

-- records one after the other
abbrev pub light_all : {A : Type 0} → (A → Bool) → (List A → Bool) → (A → ℕ) → ℕ → List A → Bool
light_all fine good weight w rows = all fine rows && good rows && leb (w + sum weight rows) limit

pub record Records {A : Type 0} (text : A → Text) (fine : A → Bool) (good : List A → Bool) (weight : A → ℕ) (off : Text → Bool) (t : Text) (at w e n after : ℕ) : Type 0 where
  pub rows : List A
  pub reads : Reads (joined text) (light_all fine good weight w) off t at rows e
  pub weighed : after ≡ w + sum weight rows
  pub counted : n ≡ length rows
  pub ends : T (off (drop e t))

abbrev pub SectionMeant : {A : Type 0} → (A → Text) → (A → Bool) → (List A → Bool) → (A → ℕ) → (Text → Bool) → Text → ℕ → ℕ → Option Section → Type 0
SectionMeant text fine good weight off t at w (Some r) = Records text fine good weight off t at w r.end r.count r.weighed
SectionMeant text fine good weight off t at w None = Fails (joined text) (light_all fine good weight w) off t at

-- a place in a text whose places fit a slot, and slots enough for the names that may still come
pub record Safe (t : Text) (at w : ℕ) (slots : List ℕ) : Type 0 where
  pub start : at ≤ length t
  pub small : length t ≤ 65536
  pub weighed : w ≤ 8193
  pub room : 8192 ≤ w + 2 * length slots

-- ---- what may follow: the first byte, 0 where nothing does

abbrev pub opens : ℕ → Text → Bool
opens c q = eqb (get_or q 0 0) c

abbrev pub any_text : Text → Bool
any_text q = true

-- no field (F)
abbrev pub off_field : Text → Bool
off_field q = not (opens 70 q)

-- ---- the sorts of records

-- a string that ends its line
abbrev pub string_line : Text → Text
string_line u = u ++ 10 ∷ []

abbrev pub StringMeant : Text → ℕ → ℕ → Option (ℕ × ℕ) → Type 0
StringMeant = ItemMeant string_line is_string length any_text

abbrev pub field_weight : Field → ℕ
field_weight f = 1 + length f.label + length f.text

abbrev pub FieldMeant : Text → ℕ → ℕ → Option Entry → Type 0
FieldMeant = EntryMeant (λ (f : Field). f.label) field_text valid_field field_weight any_text

abbrev pub distinct_labels : List Field → Bool
distinct_labels fs = distinct (labels fs)

abbrev pub FieldsMeant : Text → ℕ → ℕ → Option Section → Type 0
FieldsMeant = SectionMeant field_text valid_field distinct_labels field_weight off_field
