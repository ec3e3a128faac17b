-- A name in a line that is one of those of the records in another part of the text.
use Rattle.std.specs.Prelude.{◌≡◌, false, List, ◌∷◌, ◌++◌, ℕ, ◌≤◌, T, length, drop, Option, Some, None}
use Rattle.language.specs.Text.{Text, member}
use Rattle.language.specs.Syntax.{Name}
use Rattle.language.specs.Bytes.{word_byte}
use Rattle.language.specs.Encode.{delegator_text}
use Rattle.record_fields.specs.Sections.{Reads, Fails, any_text}
use Rattle.lines.specs.Cuts.{Field}
use Rattle.text.specs.Parts.{part}
use Rattle.store.specs.Rows.{SomeRows, position}

-- the name stands from `at` up to e, where the byte `stop` stands, and has number k
pub record Member (names : List Name) (stop : ℕ) (t : Text) (at k e : ℕ) : Type 0 where
  pub field : Field (λ x. member x names) stop t at e
  pub number : k ≡ position names (part t at e)

abbrev pub KnownMeant : List Name → ℕ → Text → ℕ → Option (ℕ × ℕ) → Type 0
KnownMeant names stop t at (Some (k, e)) = Member names stop t at k e
KnownMeant names stop t at None = (x r : Text) → T (member x names) → drop at t ≡ x ++ stop ∷ r → ⊥

-- the records stand from `from` up to `to`
pub record Asking (t : Text) (at stop from to count : ℕ) (slots : List ℕ) : Type 0 where
  pub start : at ≤ length t
  pub outside : word_byte stop ≡ false
  pub order : from ≤ to
  pub within : to ≤ length t
  pub some : SomeRows (part t from to) count slots

-- the default delegator's line: its name, which has number k
pub record Delegating (names : List Name) (t : Text) (at k e : ℕ) : Type 0 where
  pub name : Name
  pub reads : Reads delegator_text (λ x. member x names) any_text t at name e
  pub number : k ≡ position names name

abbrev pub DelegatorMeant : List Name → Text → ℕ → Option (ℕ × ℕ) → Type 0
DelegatorMeant names t at (Some (k, e)) = Delegating names t at k e
DelegatorMeant names t at None = Fails delegator_text (λ x. member x names) any_text t at
