-- The end of a text that is sent, by its login.
-- Assumes nothing.
use mathlib.Core.Path.{◌≡◌, refl, ap}
use Prim.Native.Nat.{ℕ}
use native.Mathlib.Omega.{arith}
use mathlib.Core.Bool.{true, false}
use mathlib.Core.Option.{Option, none, some}
use mathlib.Core.List.{List, []}
use Rattle.language.specs.Text.{present}
use Rattle.language.specs.Syntax.{Command, Program}
use Rattle.language.specs.State.{Store, named}
use Rattle.language.specs.Grammar.{Opening}
use Rattle.language.specs.Values.{Session}
use Rattle.language.specs.Commands.{DENIED, FAILED}
use Rattle.language.specs.Run.{refusal, Login, mistaken, login_as, begin, run_as, run}
use Rattle.parser.specs.Bodies.{with_body}

pub not_parsed_lem : (s : Store) (o : Option Program) → o ≡ none → run s o ≡ refusal FAILED
not_parsed_lem s o e = ap (run s) e

-- a program of this login; which commands it has changes neither the login nor the session that it begins with
abbrev pub sent : Opening → List Command → Program
sent p cs = record { sender = p.sender; password = p.password; commands = cs }

abbrev pub opened : Store → Opening → Session
opened s p = begin s (sent p [])

module _ (s : Store) (p : Opening) where
  pub by_login : (cs : List Command) (l : Login) → login_as p.password (named s.principals p.sender) ≡ l → run s (some (sent p cs)) ≡ run_as l (opened s p) cs
  by_login cs l h = ap (λ (k : Login). run_as k (opened s p) cs) h

  pub sender_mistaken : (o : Option (List Command)) → present o ≡ true → login_as p.password (named s.principals p.sender) ≡ mistaken
      → run s (with_body p o) ≡ refusal DENIED
  sender_mistaken none e h = absurd (let z : ◌≡◌ {A = ℕ} 0 1 = cc in omega arith)
  sender_mistaken (some cs) e h = by_login cs mistaken h

  pub no_body : (o : Option (List Command)) → present o ≡ false → run s (with_body p o) ≡ refusal FAILED
  no_body none e = refl
  no_body (some cs) e = absurd (let z : ◌≡◌ {A = ℕ} 0 1 = cc in omega arith)
