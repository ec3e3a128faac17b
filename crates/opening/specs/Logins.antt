-- What a login answers (document 01, "A run", as request M-105 amends it).
use Rattle.std.specs.Prelude.{◌≡◌, ℕ, List, Option, Some, None}
use Rattle.language.specs.Text.{Text}
use Rattle.language.specs.Syntax.{Name}
use Rattle.language.specs.State.{Store, named}
use Rattle.language.specs.Run.{mistaken, right, login_as}
use Rattle.store.specs.Rows.{position}
use Rattle.named_rights.specs.Numbers.{principals_of}
use Rattle.validate.specs.Checked.{Represents}
use Rattle.validate.specs.declared.Parts.{Parts}

-- the answer to the name x with the password w; a login that is right has the number of the principal, and none is mistaken
abbrev pub LoginMeant : Option ℕ → Store → Name → Text → Type 0
LoginMeant None s x w = login_as w (named s.principals x) ≡ mistaken
LoginMeant (Some k) s x w = (login_as w (named s.principals x) ≡ right) × (k ≡ position (principals_of s) x)

-- the parts and the slots of the principals say some state
pub record SomeState (t : Text) (slots-p : List ℕ) (p : Parts) : Type 0 where
  pub slots_v : List ℕ
  pub assertions : List ℕ
  pub state : Store
  pub represents : Represents t slots-p slots_v assertions p state
