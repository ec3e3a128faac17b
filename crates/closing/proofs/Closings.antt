-- What is written at the end of a run: zeros after its lines and in the work buffer, and one line for a refusal.
-- Assumes nothing.
use mathlib.Core.Path.{◌≡◌, refl, ◌∙◌}
use Prim.Native.Nat.{ℕ, ◌-◌}
use native.Mathlib.Omega.{arith}
use mathlib.Core.List.{[], ◌++◌}
use lib.ListN.{length, take, replicate}
use Rattle.language.specs.Text.{Text}
use Rattle.language.specs.Encode.{buffer_size}
use Rattle.language.specs.Commands.{Refusal, DENIED, FAILED, FULL}
use Rattle.language.specs.Run.{End, refusal_line, output, Kind, kind_of, line_count}
use Rattle.language.specs.Run as Run
use Rattle.language.specs.Calls.{ended}
use Rattle.value_text.specs.Writing.{Written}
use Rattle.value_text.proofs.Pieces.{rewritten, written_take}
use Rattle.state_lines.proofs.Zeros.{padded_is}
use Rattle.answers.specs.declared.Kind as Is
use Rattle.answers.specs.declared.Answer.TheVariants.{Ended}
use Rattle.answers.specs.Answers.{kind_meant}
use Rattle.closing.specs.Closed.{Closed}

-- ---- zeros after the output's first bytes and in the work buffer

pub closes : (k : Is.Kind) (lines bytes : ℕ) (e : End) (work-before work-after out-before out-after : Text)
    → length work-before ≡ buffer_size
    → length out-before ≡ buffer_size
    → work-after ≡ take 0 work-before ++ replicate (length work-before - 0) 0
    → out-after ≡ take bytes out-before ++ replicate (length out-before - bytes) 0
    → kind_meant k ≡ kind_of e
    → lines ≡ line_count (output e)
    → bytes ≡ length (output e)
    → take bytes out-before ≡ output e
    → Closed (Ended (record { kind = k; lines = lines; bytes = bytes })) e work-after out-after
closes k lines bytes e work-before work-after out-before out-after h g w o k-is l-is b-is t-is = record {
  answered = λ i. ended (record { kind = k-is i; lines = l-is i; size = b-is i });
  output_is = o ∙ padded_is (output e) out-before bytes g b-is t-is;
  work_is = w ∙ padded_is [] work-before 0 h refl refl;
}

-- ---- a text from the start of the output

module _ {t u before after : Text} {n : ℕ} (e : t ≡ u) (w : Written before 0 t n after) where
  pub first_bytes : n ≡ length u
  first_bytes = (rewritten e w).ends ∙ omega arith

  pub first_text : take n after ≡ u
  first_text = written_take (rewritten e w)

pub one_line : (f : Refusal) → 1 ≡ line_count (refusal_line f)
one_line DENIED = refl
one_line FAILED = refl
one_line FULL = refl
