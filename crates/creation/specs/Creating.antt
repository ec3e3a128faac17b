-- A principal that is created, and what the default delegator delegates to it.
use Rattle.std.specs.Prelude.{◌≡◌, false, List, ℕ, zero, suc, T, get_or}
use Rattle.language.specs.Text.{Text}
use Rattle.language.specs.Syntax.{Name, Right, delegate, rights, create_principal}
use Rattle.language.specs.State.{Store}
use Rattle.language.specs.Values.{Session, is_principal}
use Rattle.language.specs.Commands.{enter_all, assertions_on, delegable}
use Rattle.language.proofs.Parsing.ValidPrograms.{valid_command}
use Rattle.session.specs.declared.Layout.{Layout}
use Rattle.session.specs.Sessions.{Slices, slices, Running}
use Rattle.delegation_rules.specs.Numbered.{Numbered}

-- ---- one principal more

-- other principals
abbrev pub with_principal_text : Slices → Text → List ℕ → Slices
with_principal_text b principals slots = slices principals slots b.vars b.variable_slots b.locals b.local_slots b.assertions

-- the session s, in whose buffers the principals stand as given, has no principal p yet
pub record New (s : Session) (l : Layout) (b : Slices) (principals : Text) (slots : List ℕ) (p password : Text) : Type 0 where
  pub running : Running s l b
  pub principals_are : b.principals ≡ principals
  pub slots_are : b.principal_slots ≡ slots
  pub unknown : is_principal s p ≡ false
  pub is_valid : T (valid_command (create_principal p password))

pub record SomeNew (l : Layout) (principals : Text) (slots : List ℕ) (p password : Text) : Type 0 where
  pub session : Session
  pub buffers : Slices
  pub new : New session l buffers principals slots p password

-- ---- what is delegated

-- what `set delegation all` from q to p does
abbrev pub delegated : Store → Right → Name → Name → Store
delegated s r q p = enter_all s (assertions_on (delegable s q) q r p)

-- the same for the first i rights in turn
abbrev pub delegated_first : ℕ → Store → Name → Name → Store
delegated_first zero s q p = s
delegated_first (suc i) s q p = delegated (delegated_first i s q p) (get_or rights i delegate) q p

-- q and p are the numbers of two principals of the session s
pub record Gives (s : Session) (l : Layout) (b : Slices) (q p : ℕ) (from to : Name) : Type 0 where
  pub running : Running s l b
  pub giver : Numbered s.store from q
  pub taker : Numbered s.store to p

pub record SomeGives (l : Layout) (b : Slices) (q p : ℕ) : Type 0 where
  pub session : Session
  pub from : Name
  pub to : Name
  pub gives : Gives session l b q p from to
