-- What stands behind the first line of a state text, in the lines of now or in the former ones.
use Rattle.std.specs.Prelude.{◌≡◌, Bool, true, false, ◌&&◌, not, List, ◌++◌, ℕ, ◌*◌, ◌≤◌, leb, length, drop, Option, Some, None}
use Rattle.language.specs.Text.{Text, all, joined}
use Rattle.language.specs.State.{Store}
use Rattle.language.specs.Weight.{limit}
use Rattle.language.specs.Valid.{well_formed}
use Rattle.language.specs.Former.{Form, principal_in, valid_principal_in, weight_in}
use Rattle.record_fields.specs.Sections.{Reads, Fails}
use Rattle.principal_lines.specs.Principals.{least_of}
use Rattle.frame.specs.Edges.{is_zero}
use Rattle.validate.specs.Checked.{RepresentsIn, rest_text}
use Rattle.validate.specs.declared.Parts.{Parts}

abbrev pub body_text : Form → Store → Text
body_text f s = joined (principal_in f) s.principals ++ rest_text s

abbrev pub same_flag : Bool → Bool → Bool
same_flag true b = b
same_flag false b = not b

-- a valid store, open or closed as the first line says
abbrev pub fine_body : Form → Bool → Store → Bool
fine_body f o s = same_flag o s.is_open && well_formed s && all (valid_principal_in f) s.principals && leb (weight_in f s) limit

-- the state's buffer, a place in it, and the tables: slots enough for the principals that may come, since each weighs something
pub record Tables (f : Form) (t : Text) (from : ℕ) (slots-p slots_v packed : List ℕ) : Type 0 where
  pub start : from ≤ length t
  pub size : length t ≡ 65536
  pub principals_few : length slots-p ≤ 4096
  pub principals_room : 8192 ≤ least_of f * length slots-p
  pub variables_size : length slots_v ≡ 4096
  pub assertions_size : length packed ≡ 2048

-- from `from` on stands the text of a store, which the parts p and the tables say, and then zeros
pub record Stands (f : Form) (t : Text) (from : ℕ) (o : Bool) (slots-p slots_v packed : List ℕ) (p : Parts) : Type 0 where
  pub state : Store
  pub reads : Reads (body_text f) (fine_body f o) is_zero t from state p.used
  pub represents : RepresentsIn f t slots-p slots_v packed p state
  pub rest_order : p.principals_to ≤ p.used
  pub rest : drop p.principals_to t ≡ rest_text state ++ drop p.used t

abbrev pub BodyMeant : Form → Text → ℕ → Bool → List ℕ → List ℕ → List ℕ → Option Parts → Type 0
BodyMeant f t from o slots-p slots_v packed None = Fails (body_text f) (fine_body f o) is_zero t from
BodyMeant f t from o slots-p slots_v packed (Some p) = Stands f t from o slots-p slots_v packed p
