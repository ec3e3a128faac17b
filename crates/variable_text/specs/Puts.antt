-- The variables of one text, and what becomes of them.
use Rattle.std.specs.Prelude.{◌≡◌, ℕ, ◌+◌, ◌≤◌, ◌<◌, List, T, length, take}
use Rattle.std.proofs.Math.Option.{some}
use Rattle.language.specs.Text.{Text, all, sum, joined}
use Rattle.language.specs.Syntax.{Name}
use Rattle.language.specs.State.{Element, Value, list, Variable, value_in}
use Rattle.language.specs.Weight.{limit, element_weight, value_weight, variable_weight}
use Rattle.language.specs.Encode.{element_text}
use Rattle.language.specs.Valid.{valid_element, valid_variable}
use Rattle.store.specs.Held.{Variables}
use Rattle.store.specs.Rows.{position}
use Rattle.edits.specs.Changes.{variable_names}
use Rattle.values.specs.Encoding.{Holds}
use Rattle.variable_text.specs.declared.Put.{Put}
use Rattle.variable_text.specs.declared.Put.TheVariants.{Full, Done}

-- ---- what is there

-- the variables vs are the first `len` bytes of a buffer, which has room for every session's, and weigh no more than the whole session
pub record Lies (vs : List Variable) (buf : Text) (len count : ℕ) (slots : List ℕ) (total : ℕ) : Type 0 where
  pub room : 32768 ≤ length buf
  pub small : length buf ≤ 65536
  pub slots_size : length slots ≡ 4096
  pub held : Variables vs (take len buf) count slots
  pub within : len ≤ length buf
  pub are_valid : T (all valid_variable vs)
  pub weight_within : sum variable_weight vs ≤ total

pub record SomeLying (buf : Text) (len count : ℕ) (slots : List ℕ) (total : ℕ) : Type 0 where
  pub variables : List Variable
  pub lies : Lies variables buf len count slots total

-- one of them has that number
pub record SomeNamed (buf : Text) (len count : ℕ) (slots : List ℕ) (total number : ℕ) : Type 0 where
  pub variables : List Variable
  pub name : Name
  pub lies : Lies variables buf len count slots total
  pub below : number < count
  pub is_number : number ≡ position (variable_names variables) name

-- valid variables in a text
pub record SomeValid (t : Text) (count : ℕ) (slots : List ℕ) : Type 0 where
  pub variables : List Variable
  pub held : Variables variables t count slots
  pub are_valid : T (all valid_variable variables)

-- ---- what is put

-- t is the text of the value v, which has that weight and is not too heavy
pub record Weighs (v : Value) (t : Text) (weight : ℕ) : Type 0 where
  pub held : Holds v t
  pub weighs : weight ≡ value_weight v
  pub light : weight ≤ limit

pub record SomeWeighed (t : Text) (weight : ℕ) : Type 0 where
  pub value : Value
  pub is_value : Weighs value t weight

-- t is the text of the elements fs, which have that weight in a list
pub record Extra (fs : List Element) (t : Text) (weight : ℕ) : Type 0 where
  pub are_valid : T (all valid_element fs)
  pub is_text_lem : t ≡ joined element_text fs
  pub weighs : weight ≡ sum (λ e. 1 + element_weight e) fs

-- a list has that number, and t is the text of more elements
pub record SomeListed (buf : Text) (len count : ℕ) (slots : List ℕ) (total number : ℕ) (t : Text) (weight : ℕ) : Type 0 where
  pub variables : List Variable
  pub name : Name
  pub elements : List Element
  pub more : List Element
  pub lies : Lies variables buf len count slots total
  pub below : number < count
  pub is_number : number ≡ position (variable_names variables) name
  pub is_list : value_in variables name ≡ some (list elements)
  pub extra : Extra more t weight

-- ---- what becomes of it

-- the variables are ws, in the first n bytes, and the session's weight w has changed as theirs
pub record Became (vs ws : List Variable) (total : ℕ) (buf : Text) (n count : ℕ) (slots : List ℕ) (w : ℕ) : Type 0 where
  pub slots_size : length slots ≡ 4096
  pub held : Variables ws (take n buf) count slots
  pub within : n ≤ length buf
  pub weighs : w + sum variable_weight vs ≡ total + sum variable_weight ws
  pub light : w ≤ limit

-- the variables vs are to become ws, in a session that weighs `total`; full: it would be too heavy
abbrev pub Becomes : List Variable → List Variable → ℕ → Put → Text → ℕ → List ℕ → Type 0
Becomes vs ws total Full buf count slots = limit + sum variable_weight vs < total + sum variable_weight ws
Becomes vs ws total (Done n w) buf count slots = Became vs ws total buf n count slots w
