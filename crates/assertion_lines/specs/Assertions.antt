-- The assertions of a state text, by the names of the principals and of the variables; and as numbers.
use Rattle.std.specs.Prelude.{◌≡◌, Bool, ◌&&◌, not, List, map, ℕ, ◌+◌, ◌≤◌, eqb, length, take, Option, Some, None}
use Rattle.language.specs.Text.{Text, when◌then◌else◌, member, joined}
use Rattle.language.specs.Syntax.{Name, Right, read, write, append, delegate}
use Rattle.language.specs.State.{Assertion}
use Rattle.language.specs.Weight.{assertion_weight}
use Rattle.language.specs.Encode.{assertion_text}
use Rattle.language.specs.Valid.{unrepeated}
use Rattle.text.specs.Parts.{part}
use Rattle.store.specs.Rows.{SomeRows}
use Rattle.named_rights.specs.Numbers.{numbered}
use Rattle.record_fields.specs.Sections.{Reads, Fails, Records, light_one, light_all, any_text, opens}
use Rattle.record_fields.specs.declared.Section.{Section}
use Rattle.assertion_lines.specs.declared.Roll.{Roll}
use Rattle.assertion_lines.specs.declared.AssertionRead.{AssertionRead}

-- every name in it exists
abbrev pub known_names : List Name → List Name → Assertion → Bool
known_names ps xs a = member a.variable xs && member a.from ps && member a.to ps

-- no assertion (A)
abbrev pub off_assertion : Text → Bool
off_assertion q = not (opens 65 q)

abbrev pub good_assertions : List Assertion → Bool
good_assertions l = unrepeated l

-- a right's letter, and the number that a letter stands for; 4 where it stands for none
abbrev pub byte_of : Right → ℕ
byte_of read = 114
byte_of write = 119
byte_of append = 97
byte_of delegate = 100

abbrev pub code_of : ℕ → ℕ
code_of b = when eqb b 114 then 0 else when eqb b 119 then 1 else when eqb b 97 then 2 else when eqb b 100 then 3 else 4

-- an assertion's line, the number of the assertion, and what is weighed with it
pub record Granting (ps xs : List Name) (t : Text) (at w k e after : ℕ) : Type 0 where
  pub row : Assertion
  pub reads : Reads assertion_text (light_one (known_names ps xs) assertion_weight w) any_text t at row e
  pub weighed : after ≡ w + assertion_weight row
  pub number : k ≡ numbered ps xs row

abbrev pub AssertionMeant : List Name → List Name → Text → ℕ → ℕ → Option AssertionRead → Type 0
AssertionMeant ps xs t at w (Some r) = Granting ps xs t at w r.number r.end r.weighed
AssertionMeant ps xs t at w None = Fails assertion_text (light_one (known_names ps xs) assertion_weight w) any_text t at

-- the principals and the variables stand where the roll says
pub record Enrolled (t : Text) (roll : Roll) (principals vars : List ℕ) : Type 0 where
  pub small : length t ≤ 65536
  pub principals_order : roll.principals_from ≤ roll.principals_to
  pub principals_within : roll.principals_to ≤ length t
  pub principals_few : roll.principals ≤ 4096
  pub principals_some : SomeRows (part t roll.principals_from roll.principals_to) roll.principals principals
  pub vars_order : roll.vars_from ≤ roll.vars_to
  pub vars_within : roll.vars_to ≤ length t
  pub vars_few : roll.vars ≤ 4096
  pub vars_some : SomeRows (part t roll.vars_from roll.vars_to) roll.vars vars

-- the assertions, and their numbers
pub record Granted (ps xs : List Name) (t : Text) (at w : ℕ) (assertions : List ℕ) (e n after : ℕ) : Type 0 where
  pub records : Records assertion_text (known_names ps xs) good_assertions assertion_weight off_assertion t at w e n after
  pub numbers : take n assertions ≡ map (numbered ps xs) records.rows
  pub within : n ≤ length assertions

abbrev pub AssertionsMeant : List Name → List Name → Text → ℕ → ℕ → List ℕ → Option Section → Type 0
AssertionsMeant ps xs t at w assertions (Some r) = Granted ps xs t at w assertions r.end r.count r.weighed
AssertionsMeant ps xs t at w assertions None = Fails (joined assertion_text) (light_all (known_names ps xs) good_assertions assertion_weight w) off_assertion t at
