-- Document 01, "A run": whole programs.
use Rattle.std.specs.Prelude.{ℕ, ◌+◌, Bool, false, List, [], ◌∷◌, ◌++◌, map, length, eqb, ltb}
use Rattle.std.proofs.Math.Option.{Option, none, some}
use Rattle.language.specs.Text.{Text, when◌then◌else◌, ◌≟◌, sum}
use Rattle.language.specs.Syntax.{Name, Command, Program}
use Rattle.language.specs.State.{Principal, Store, last_count, named}
use Rattle.language.specs.Output.{status}
use Rattle.language.specs.Values.{Session}
use Rattle.language.specs.Commands.{Refusal, DENIED, FAILED, FULL, with_principals, Step, refused, went, step}

-- how a program ends: a refusal, or its lines and the store after
pub data End : Type 0 where
  refusal : Refusal → End
  completed : Text → Store → End

abbrev pub after : Text → End → End
after line (refusal r) = refusal r
after line (completed lines s) = completed (line ++ lines) s

abbrev pub next : Step → (Session → End) → End
next (refused r) go = refusal r
next (went f) go = after f.line (go f.after)

-- the commands in turn, to the first that cannot be done
abbrev pub perform : Session → List Command → End
perform s [] = completed [] s.store
perform s (c ∷ rest) = next (step s c) (λ t. perform t rest)

-- a login is right, or mistaken: the name is missing, or the password is another, or none is kept. These are one case, since they are answered
-- alike (document 02, M-105; in 01 and 001 a missing name is FAILED)
pub data Login : Type 0 where
  mistaken right : Login

abbrev pub opens : Text → Option Text → Bool
opens t none = false
opens t (some u) = t ≟ u

abbrev pub login_as : Text → Option Principal → Login
login_as t none = mistaken
login_as t (some k) = when opens t k.password then right else mistaken

abbrev pub login : Store → Program → Login
login s p = login_as p.password (named s.principals p.sender)

-- a transaction: it starts without locals, and they are gone with it
abbrev pub begin : Store → Program → Session
begin s p = record { store = s; sender = p.sender; locals = [] }

-- one completed program more; a count stays at its last value (document 02, M-101)
abbrev pub counted : ℕ → ℕ
counted n = when ltb n last_count then n + 1 else n

abbrev pub counts : Name → Principal → Principal
counts p k = record { name = k.name; password = k.password; count = when k.name ≟ p then counted k.count else k.count }

-- a completed program counts for its sender
abbrev pub tally : Name → Store → Store
tally p s = with_principals s (map (counts p) s.principals)

abbrev pub tallied : Name → End → End
tallied p (refusal r) = refusal r
tallied p (completed lines s) = completed lines (tally p s)

abbrev pub run_as : Login → Session → List Command → End
run_as mistaken s cs = refusal DENIED
run_as right s cs = tallied s.sender (perform s cs)

-- a program's end; one that does not parse is `none`
abbrev pub run : Store → Option Program → End
run s none = refusal FAILED
run s (some p) = run_as (login s p) (begin s p) p.commands

-- ---- what is printed, and the result

abbrev pub refusal_line : Refusal → Text
refusal_line DENIED = status "DENIED"
refusal_line FAILED = status "FAILED"
refusal_line FULL = status "FULL"

abbrev pub output : End → Text
output (refusal r) = refusal_line r
output (completed lines s) = lines

-- the kind of end; a program that exits leaves a closed store
pub data Kind : Type 0 where
  returned exited : Kind
  stopped : Refusal → Kind

abbrev pub kind_of : End → Kind
kind_of (refusal r) = stopped r
kind_of (completed lines s) = when s.is_open then returned else exited

abbrev pub line_count : Text → ℕ
line_count t = sum (λ b. when eqb b 10 then 1 else 0) t

pub record Result : Type 0 where
  pub kind : Kind
  pub lines : ℕ
  pub size : ℕ  -- in bytes

abbrev pub result : End → Result
result e = record { kind = kind_of e; lines = line_count (output e); size = length (output e) }

-- ---- the state after: as it was, or the new one

abbrev pub left : Store → End → Store
left s (refusal r) = s
left s (completed lines t) = t
