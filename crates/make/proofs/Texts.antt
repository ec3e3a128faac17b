-- A text is of an alphabet where its run is as long as it is; and the lines of a fresh state, written one after the other.
-- Assumes nothing.
use mathlib.Core.Path.{◌≡◌, refl, ◌∙◌}
use Prim.Native.Nat.{ℕ, suc, ◌-◌}
use mathlib.Core.Bool.{Bool, true, false, ◌&&◌}
use mathlib.Core.List.{[], ◌∷◌, ◌++◌, append_assoc}
use lib.Dec.{eqb, eqb-zero-suc, eqb-suc-suc}
use lib.ListN.{length, take, replicate}
use Rattle.language.specs.Text.{Text, bytes, when◌then◌else◌, all, front}
use Rattle.language.specs.State.{fresh, anyone}
use Rattle.language.specs.Encode.{head_text, principals_text, delegator_text, buffer_size}
use Rattle.language.specs.Calls.{made}
use Rattle.value_text.specs.Writing.{Written}
use Rattle.value_text.proofs.Pieces.{rewritten}
use Rattle.state_lines.proofs.Zeros.{state_padded}

pub whole_run : (f : ℕ → Bool) (t : Text) → eqb (length (front f t)) (length t) ≡ all f t
whole_run f [] = refl
whole_run f (b ∷ t) = go (f b) (whole_run f t)
  where
    go : (c : Bool) → eqb (length (front f t)) (length t) ≡ all f t → eqb (length (when c then b ∷ front f t else [])) (suc (length t)) ≡ (c && all f t)
    go true e = eqb-suc-suc (length (front f t)) (length t) ∙ e
    go false e = eqb-zero-suc (length t)

-- the first line, admin's with the password, anyone's, and the default delegator's
abbrev pub fresh_lines : Text → Text
fresh_lines t = head_text true ++ (bytes "P\tadmin\t" ++ (t ++ (bytes "\t0\nN\tanyone\t0\n" ++ delegator_text anyone)))

fresh_parts : (t : Text) → fresh_lines t ≡ head_text true ++ (principals_text (fresh t).principals ++ (delegator_text anyone ++ ([] ++ [])))
fresh_parts t = simp append_assoc

-- and zeros after them are the buffer of a server just made
pub fresh_padded : (t before after : Text) (r : ℕ) → length before ≡ buffer_size → Written before 0 (fresh_lines t) r after
    → take r after ++ replicate (length after - r) 0 ≡ made t
fresh_padded t before after r h w = state_padded (fresh t) before after r h (rewritten (fresh_parts t) w)
