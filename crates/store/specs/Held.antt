-- Named records (principals or variables) that stand one after the other in a text, and the slots by which one is found.
use Rattle.std.specs.Prelude.{◌≡◌, ℕ, ◌+◌, ◌*◌, ◌%◌, ◌≤◌, List, [], ◌∷◌, T, length, take}
use Rattle.language.specs.Text.{Text, joined, all}
use Rattle.language.specs.Syntax.{Name}
use Rattle.language.specs.Identifiers.{is_name}
use Rattle.language.specs.State.{Principal, Variable}
use Rattle.language.specs.Encode.{variable_text}
use Rattle.language.specs.Former.{Form, current, principal_in}

-- a slot has 32 bits: 15 of a hash, 17 of a place
abbrev pub hashes : ℕ
hashes = 32768

abbrev pub places : ℕ
places = 131072

-- a number computed from the bytes of a name: equal names have equal hashes
abbrev pub hash_from : ℕ → Text → ℕ
hash_from h [] = h
hash_from h (b ∷ t) = hash_from ((h * 31 + b) % hashes) t

abbrev pub hash : Name → ℕ
hash x = hash_from 0 x

-- a record's slot: the hash of its name, and the place where its text starts
abbrev pub slot : Name → ℕ → ℕ
slot x at = hash x * places + at

abbrev pub slots_from : {A : Type 0} → (A → Name) → (A → Text) → ℕ → List A → List ℕ
slots_from name text at [] = []
slots_from name text at (a ∷ rest) = slot (name a) at ∷ slots_from name text (at + length (text a)) rest

-- the records `rows` are the text t, and the first `count` of `slots` are their slots
pub record Held {A : Type 0} (name : A → Name) (text : A → Text) (rows : List A) (t : Text) (count : ℕ) (slots : List ℕ) : Type 0 where
  pub is_text_lem : t ≡ joined text rows
  pub counted : count ≡ length rows
  pub indexed : take count slots ≡ slots_from name text 0 rows
  pub named : T (all (λ a. is_name (name a)) rows)
  -- a place in the text fits a slot
  pub small : length t ≤ places

-- in the lines of now or in the former ones; a run has the former ones only where it brings a state over
abbrev pub PrincipalsIn : Form → List Principal → Text → ℕ → List ℕ → Type 0
PrincipalsIn f ks = Held (λ k. k.name) (principal_in f) ks

abbrev pub Principals : List Principal → Text → ℕ → List ℕ → Type 0
Principals = PrincipalsIn current

-- the text and the slots hold some principals
pub record SomePrincipals (t : Text) (count : ℕ) (slots : List ℕ) : Type 0 where
  pub principals : List Principal
  pub held : Principals principals t count slots

abbrev pub Variables : List Variable → Text → ℕ → List ℕ → Type 0
Variables vs = Held (λ v. v.name) (λ v. variable_text v.name v.value) vs
