-- Document 02, M-101: the former lines, those in which document 01 wrote a state's text. Their first line has one count for all programs,
-- and a principal's line has none. A principal weighed 10 less.
use Rattle.std.specs.Prelude.{◌≡◌, ℕ, ◌+◌, Bool, ◌&&◌, [], ◌∷◌, ◌++◌, T, eqb, leb}
use Rattle.std.proofs.Math.Option.{Option, none, some}
use Rattle.language.specs.Text.{Text, bytes, parts, joined, decimal, sum, all, when◌then◌else◌, ◌>>=◌, ◌>>◌, given, ◌≟◌}
use Rattle.language.specs.Syntax.{Name}
use Rattle.language.specs.State.{Principal, Store, last_count}
use Rattle.language.specs.Weight.{limit, name_weight, password_weight, principal_weight, variable_weight, assertion_weight, store_weight}
use Rattle.language.specs.Valid.{valid_principal, well_formed}
use Rattle.language.specs.Encode.{newline, line_of, principal_text, delegator_text, variables_text, assertions_text, padded}
use Rattle.language.specs.Decode.{read_lines}

abbrev pub former_head : Bool → ℕ → Text
former_head is_open n = line_of ((when is_open then bytes "O" else bytes "C") ∷ decimal n ∷ [])

abbrev pub former_line : Name → Option Text → Text
former_line p none = line_of (bytes "N" ∷ p ∷ [])
former_line p (some t) = line_of (bytes "P" ∷ p ∷ t ∷ [])

abbrev pub former_principal : Principal → Text
former_principal k = former_line k.name k.password

abbrev pub former_text : ℕ → Store → Text
former_text n s =
    former_head s.is_open n
    ++ joined former_principal s.principals
    ++ delegator_text s.delegator
    ++ variables_text s.variables
    ++ assertions_text s.assertions

abbrev pub former_principal_weight : Principal → ℕ
former_principal_weight k = 1 + name_weight k.name + password_weight k.password

abbrev pub former_weight : Store → ℕ
former_weight s =
    sum former_principal_weight s.principals + sum variable_weight s.variables + sum assertion_weight s.assertions

-- the counts start from 0
abbrev pub uncounted : Principal → Bool
uncounted k = eqb k.count 0

abbrev pub valid_uncounted : Principal → Bool
valid_uncounted k = valid_principal k && uncounted k

abbrev pub valid_former : ℕ → Store → Bool
valid_former n s = leb n last_count && well_formed s && all uncounted s.principals && leb (former_weight s) limit

-- the buffer is the text of s in the former lines, with the count n in the first
pub record FormerHolds (buffer : Text) (n : ℕ) (s : Store) : Type 0 where
  pub is_valid : T (valid_former n s)
  pub is_text_lem : buffer ≡ padded (former_text n s)

-- the store of which the buffer is the text in the former lines
abbrev pub decode_former : Text → Option Store
decode_former buffer = do
  b ← read_lines (parts newline buffer)
  given (valid_former b.count b.store && (padded (former_text b.count b.store) ≟ buffer))
  some b.store

-- ---- the lines of now or the former ones, for what reads both

pub data Form : Type 0 where
  current former : Form

abbrev pub principal_in : Form → Principal → Text
principal_in current = principal_text
principal_in former = former_principal

abbrev pub principal_weight_in : Form → Principal → ℕ
principal_weight_in current = principal_weight
principal_weight_in former = former_principal_weight

abbrev pub valid_principal_in : Form → Principal → Bool
valid_principal_in current = valid_principal
valid_principal_in former = valid_uncounted

abbrev pub weight_in : Form → Store → ℕ
weight_in current = store_weight
weight_in former = former_weight
