-- Document 02, M-105: nobody without a right login finds out names by trying them. (The field calls that user enumeration.)
--
-- Whoever sends a text without a right login sees at most the answer, the output and the work buffer. On any two open states these are the same,
-- byte for byte, whoever has a name there. Each state keeps its bytes, so that the next such try finds both as they were. Of the time that a call
-- takes nothing is said.
use Rattle.std.specs.Prelude.{◌≡◌}
use Rattle.std.proofs.Math.Option.{some}
use Rattle.language.specs.Text.{Text}
use Rattle.language.specs.Syntax.{Program}
use Rattle.language.specs.State.{Principal, Store, named}
use Rattle.language.specs.Programs.{parse}
use Rattle.language.specs.Calls.{Buffers, Reply, run_call}
use Rattle.language.specs.Demands.{Sent}

-- a text that is no program, or whose password is not kept under its sender's name: the name is missing, or it keeps another, or none
abbrev pub Unauthenticated : Store → Text → Type 0
Unauthenticated s text =
    (p : Program) → parse text ≡ some p → (k : Principal) → named s.principals p.sender ≡ some k → ¬ (k.password ≡ some p.password)

-- two replies that are the same, but for the state's buffer
pub record Alike (q r : Reply Buffers) : Type 0 where
  pub answer : q.answer ≡ r.answer
  pub output : q.lent.output ≡ r.lent.output
  pub work : q.lent.work ≡ r.lent.work

pub record NoEnumeration : Type 0 where
  -- whatever bytes the lent buffers had
  pub alike : (b c : Buffers) (text : Text) (s t : Store) → Sent b s → Sent c t → Unauthenticated s text → Unauthenticated t text
      → Alike (run_call b text) (run_call c text)
  pub kept : (b : Buffers) (text : Text) (s : Store) → Sent b s → Unauthenticated s text → (run_call b text).lent.state ≡ b.state
