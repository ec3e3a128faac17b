-- The shared variables of a state text.
use Rattle.std.specs.Prelude.{Bool, ◌&&◌, not, List, map, ℕ, Option}
use Rattle.language.specs.Text.{Text, distinct}
use Rattle.language.specs.State.{Variable}
use Rattle.language.specs.Weight.{variable_weight}
use Rattle.language.specs.Encode.{variable_text}
use Rattle.language.specs.Valid.{valid_variable}
use Rattle.record_fields.specs.Sections.{opens}
use Rattle.record_fields.specs.declared.Section.{Section}
use Rattle.records.specs.Values.{off_element}
use Rattle.principal_lines.specs.Listed.{ListedMeant}

-- neither a variable (V) nor what may follow one
abbrev pub off_variable : Text → Bool
off_variable q = off_element q && not (opens 86 q)

abbrev pub good_variables : List Variable → Bool
good_variables vs = distinct (map (λ v. v.name) vs)

abbrev pub VariablesMeant : Text → ℕ → ℕ → List ℕ → Option Section → Type 0
VariablesMeant = ListedMeant (λ (v : Variable). v.name) (λ v. variable_text v.name v.value) valid_variable good_variables variable_weight off_variable
