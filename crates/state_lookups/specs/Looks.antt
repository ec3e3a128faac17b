-- What a look-up in a state's text says: one number, and what it writes in the room that it is lent.
use Rattle.std.specs.Prelude.{◌≡◌, List, [], ◌++◌, map, ℕ, ◌+◌, ◌*◌, ltb, length, drop, get_or}
use Rattle.std.proofs.Math.Option.{Option, none, some}
use Rattle.language.specs.Text.{Text, when◌then◌else◌}
use Rattle.language.specs.Syntax.{Name}
use Rattle.language.specs.State.{Value, Principal, Variable, named, value_in}
use Rattle.language.specs.Encode.{value_text}
use Rattle.store.specs.Held.{Variables}
use Rattle.store.specs.Rows.{position}

-- ---- answers

-- nothing there; a record that keeps no text; a record and the text that is asked for
pub data Look : Type 0 where
  missing : Look
  unkept : ℕ → Look
  found : ℕ → List ℕ → Look

-- the record's number, then the length of the text; no text in a buffer of 65,536 bytes has the length 65,535
abbrev pub number : Look → ℕ
number missing = 4294967298
number (unkept k) = k * 65536 + 65535
number (found k t) = k * 65536 + length t

-- what the room holds afterwards
abbrev pub left : Look → List ℕ → List ℕ
left missing old = old
left (unkept k) old = old
left (found k t) old = t ++ drop (length t) old

pub record Says (l : Look) (old new : List ℕ) (r : ℕ) : Type 0 where
  pub number_is : r ≡ number l
  pub written : new ≡ left l old

-- ---- what is asked

-- the n-th name
abbrev pub name_of : List Name → ℕ → Look
name_of names n = when ltb n (length names) then found n (get_or names n []) else missing

abbrev pub password : ℕ → Option Text → Look
password k none = unkept k
password k (some t) = found k t

abbrev pub principal : ℕ → Option Principal → Look
principal k none = missing
principal k (some p) = password k p.password

abbrev pub value : ℕ → Option Value → Look
value k none = missing
value k (some v) = found k (value_text v)

-- a principal by name, with its password; a variable by name, with its value's text
abbrev pub principal_of : List Principal → Name → Look
principal_of ks x = principal (position (map (λ k. k.name) ks) x) (named ks x)

abbrev pub variable_of : List Variable → Name → Look
variable_of vs x = value (position (map (λ v. v.name) vs) x) (value_in vs x)

-- a principal's count, by name; no count is the number of a missing record
abbrev pub counted : Option Principal → ℕ
counted none = number missing
counted (some k) = k.count

abbrev pub count_said : List Principal → Name → ℕ
count_said ks x = counted (named ks x)

-- ---- the parts of a text

pub record SomeVariables (t : Text) (count : ℕ) (slots : List ℕ) : Type 0 where
  pub rows : List Variable
  pub held : Variables rows t count slots
