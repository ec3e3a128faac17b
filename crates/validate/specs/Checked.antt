-- What a check of a state's buffer answers: the state that it holds, where its parts stand, and the tables of slots and numbers.
use Rattle.std.specs.Prelude.{◌≡◌, List, ◌++◌, ℕ, ◌-◌, ◌≤◌, length, drop, replicate, Option, Some, None}
use Rattle.std.proofs.Math.Option.{none, some}
use Rattle.language.specs.Text.{Text}
use Rattle.language.specs.State.{Store}
use Rattle.language.specs.Encode.{delegator_text, variables_text, assertions_text}
use Rattle.language.specs.Decode.{decode}
use Rattle.language.specs.Former.{Form, current, former, weight_in, decode_former}
use Rattle.store.specs.Rows.{position}
use Rattle.text.specs.Parts.{part}
use Rattle.store.specs.Held.{PrincipalsIn, Variables}
use Rattle.named_rights.specs.Numbers.{principals_of, Standing}
use Rattle.validate.specs.declared.Parts.{Parts}

-- the parts p and the tables say the state s, whose text is t, in the lines of now or in the former ones
pub record RepresentsIn (f : Form) (t : Text) (slots-p slots_v packed : List ℕ) (p : Parts) (s : Store) : Type 0 where
  pub is_open : p.«open» ≡ s.is_open
  pub principals_order : p.principals_from ≤ p.principals_to
  pub principals_within : p.principals_to ≤ length t
  pub principals : PrincipalsIn f s.principals (part t p.principals_from p.principals_to) p.principals slots-p
  pub delegator : p.delegator ≡ position (principals_of s) s.delegator
  pub vars_order : p.vars_from ≤ p.vars_to
  pub vars_within : p.vars_to ≤ length t
  pub variables : Variables s.variables (part t p.vars_from p.vars_to) p.vars slots_v
  pub assertions : Standing s p.asserted packed
  pub weighed : p.weight ≡ weight_in f s
  pub used_within : p.used ≤ length t
  pub rest_zero : drop p.used t ≡ replicate (length t - p.used) 0

abbrev pub Represents : Text → List ℕ → List ℕ → List ℕ → Parts → Store → Type 0
Represents = RepresentsIn current

pub record Understood (t : Text) (slots-p slots_v assertions : List ℕ) (p : Parts) : Type 0 where
  pub state : Store
  pub decoded : decode t ≡ some state
  pub represents : Represents t slots-p slots_v assertions p state

abbrev pub CheckedMeant : Text → List ℕ → List ℕ → List ℕ → Option Parts → Type 0
CheckedMeant t slots-p slots_v assertions None = decode t ≡ none
CheckedMeant t slots-p slots_v assertions (Some p) = Understood t slots-p slots_v assertions p

-- what stands behind the principals, the same in the lines of now and in the former ones
abbrev pub rest_text : Store → Text
rest_text s = delegator_text s.delegator ++ (variables_text s.variables ++ assertions_text s.assertions)

-- the same of a text in the former lines; and what stands behind the principals, up to the zeros
pub record FormerUnderstood (t : Text) (slots-p slots_v assertions : List ℕ) (p : Parts) : Type 0 where
  pub state : Store
  pub decoded : decode_former t ≡ some state
  pub represents : RepresentsIn former t slots-p slots_v assertions p state
  pub rest_order : p.principals_to ≤ p.used
  pub rest : drop p.principals_to t ≡ rest_text state ++ drop p.used t

abbrev pub FormerMeant : Text → List ℕ → List ℕ → List ℕ → Option Parts → Type 0
FormerMeant t slots-p slots_v assertions None = decode_former t ≡ none
FormerMeant t slots-p slots_v assertions (Some p) = FormerUnderstood t slots-p slots_v assertions p
