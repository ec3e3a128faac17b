-- Reading elements, values and variables from a place on.
use Rattle.std.specs.Prelude.{ℕ, ◌+◌, Bool, ◌&&◌, not, Option}
use Rattle.language.specs.Text.{Text, all, joined, sum}
use Rattle.language.specs.State.{Element, Variable}
use Rattle.language.specs.Weight.{element_weight, value_weight, variable_weight}
use Rattle.language.specs.Encode.{element_text, variable_text, value_text}
use Rattle.language.specs.Valid.{valid_element, valid_value, valid_variable}
use Rattle.record_fields.specs.Sections.{ItemMeant, EntryMeant, opens, off_field}
use Rattle.record_fields.specs.declared.Entry.{Entry}

-- no element of a list (S, R) and no field
abbrev pub off_element : Text → Bool
off_element q = not (opens 83 q) && not (opens 82 q) && not (opens 70 q)

abbrev pub ElementMeant : Text → ℕ → ℕ → Option (ℕ × ℕ) → Type 0
ElementMeant = ItemMeant element_text valid_element element_weight off_field

abbrev pub listed_weight : Element → ℕ
listed_weight e = 1 + element_weight e

abbrev pub ElementsMeant : Text → ℕ → ℕ → Option (ℕ × ℕ) → Type 0
ElementsMeant = ItemMeant (joined element_text) (all valid_element) (sum listed_weight) off_element

abbrev pub ValueMeant : Text → ℕ → ℕ → Option (ℕ × ℕ) → Type 0
ValueMeant = ItemMeant value_text valid_value value_weight off_element

abbrev pub VariableMeant : Text → ℕ → ℕ → Option Entry → Type 0
VariableMeant = EntryMeant (λ (v : Variable). v.name) (λ v. variable_text v.name v.value) valid_variable variable_weight off_element
