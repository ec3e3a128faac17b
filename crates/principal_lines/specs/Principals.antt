-- The principals of a state text: admin first, with a password, then anyone, then others with passwords.
use Rattle.std.specs.Prelude.{ℕ, suc, Bool, true, ◌&&◌, not, List, [], ◌∷◌, ◌++◌, map, eqb, leb, length, Option, Some, None}
use Rattle.language.specs.Text.{Text, when◌then◌else◌, ◌≟◌, distinct, decimal}
use Rattle.language.specs.Syntax.{Name}
use Rattle.language.specs.State.{Principal, last_count, admin, anyone}
use Rattle.language.specs.Identifiers.{is_string}
use Rattle.language.specs.Encode.{tab, newline}
use Rattle.language.specs.Valid.{valid_order, has_password}
use Rattle.language.specs.Former.{Form, current, former, principal_in, principal_weight_in, valid_principal_in}
use Rattle.record_fields.specs.Sections.{Reads, Fails, ItemMeant, EntryMeant, any_text, opens}
use Rattle.record_fields.specs.declared.Entry.{Entry}
use Rattle.record_fields.specs.declared.Section.{Section}
use Rattle.principal_lines.specs.Listed.{ListedMeant}
use Rattle.principal_lines.specs.declared.Form as Lines
use Rattle.principal_lines.specs.declared.Form.TheVariants as Either

-- the lines of now or the former ones
abbrev pub form_meant : Lines.Form → Form
form_meant Either.Current = current
form_meant Either.Former = former

-- ---- a principal's line behind its name or password: the byte that ends that, and the count

abbrev pub stop_of : Form → ℕ
stop_of current = tab
stop_of former = newline

abbrev pub tail_text : Form → ℕ → Text
tail_text current n = decimal n ++ newline ∷ []
tail_text former n = []

-- a former principal's count starts from 0
abbrev pub fine_count : Form → ℕ → Bool
fine_count current n = leb n last_count
fine_count former n = eqb n 0

abbrev pub TailMeant : Form → Text → ℕ → Option ℕ → Type 0
TailMeant f t at (Some e) = (n : ℕ) × Reads (tail_text f) (fine_count f) any_text t at n e
TailMeant f t at None = Fails (tail_text f) (fine_count f) any_text t at

-- a password, and the count behind it
pub record Secret : Type 0 where
  pub password : Text
  pub count : ℕ

abbrev pub secret_text : Form → Secret → Text
secret_text f s = s.password ++ stop_of f ∷ tail_text f s.count

abbrev pub fine_secret : Form → Secret → Bool
fine_secret f s = is_string s.password && fine_count f s.count

abbrev pub secret_weight : Secret → ℕ
secret_weight s = length s.password

abbrev pub SecretMeant : Form → Text → ℕ → ℕ → Option (ℕ × ℕ) → Type 0
SecretMeant f = ItemMeant (secret_text f) (fine_secret f) secret_weight any_text

-- ---- a principal

-- what it weighs beside its name and password; the least that one weighs
abbrev pub base_of : Form → ℕ
base_of current = 11
base_of former = 1

abbrev pub least_of : Form → ℕ
least_of current = 12
least_of former = 2

abbrev pub PrincipalMeant : Form → Text → ℕ → ℕ → Option Entry → Type 0
PrincipalMeant f = EntryMeant (λ (k : Principal). k.name) (principal_in f) (valid_principal_in f) (principal_weight_in f) any_text

-- neither P nor N
abbrev pub off_principal : Text → Bool
off_principal q = not (opens 80 q) && not (opens 78 q)

-- what the principal at a place may be
abbrev pub in_place : ℕ → Name → Bool → Bool
in_place n x has = when eqb n 0 then (x ≟ admin) && has else when eqb n 1 then x ≟ anyone else has

abbrev pub orderly : ℕ → List Principal → Bool
orderly n [] = true
orderly n (k ∷ ks) = in_place n k.name (has_password k) && orderly (suc n) ks

abbrev pub good_principals : List Principal → Bool
good_principals ks = valid_order ks && distinct (map (λ k. k.name) ks)

abbrev pub PrincipalsMeant : Form → Text → ℕ → List ℕ → Option Section → Type 0
PrincipalsMeant f t at slots = ListedMeant (λ (k : Principal). k.name) (principal_in f) (valid_principal_in f) good_principals (principal_weight_in f) off_principal t at 0 slots
