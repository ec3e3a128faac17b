-- The frames under a value that is too heavy, one after the other.
use mathlib.Core.Path.{◌≡◌, refl, sym, subst, ◌∙◌}
use Prim.Native.Nat.{ℕ, ◌-◌, ◌≤◌, ◌<◌}
use native.Mathlib.Omega.{arith}
use mathlib.Core.Bool.{true, false}
use mathlib.Core.List.{List, [], ◌∷◌}
use lib.ListN.{length}
use Rattle.language.specs.Text.{Text}
use Rattle.language.specs.Outcomes.{fails, fills}
use Rattle.language.specs.Values.{Session}
use Rattle.lets.specs.Frames.{Frame, unwound}
use Rattle.lets.specs.Reaching.{Texts}
use Rattle.lets.specs.Standing.{Standing, EachStanding, AllStanding, taken}
use Rattle.lets.proofs.Unwinding.{sinks_here, sinks_on}

-- the d outermost of the frames are left
pub record Sunk (s : Session) (frames : List Frame) (t : Text) (b : Texts) (heads lens counts : List ℕ) (d : ℕ) : Type 0 where
  pub rest : List Frame
  pub same : unwound s frames fills ≡ unwound s rest fills
  pub deep : d ≡ length rest
  pub each : EachStanding s rest t b heads lens counts

-- the innermost of them
pub record Top (s : Session) (frames : List Frame) (t : Text) (b : Texts) (heads lens counts : List ℕ) (d : ℕ) : Type 0 where
  pub frame : Frame
  pub below : List Frame
  pub same : unwound s frames fills ≡ unwound s (frame ∷ below) fills
  pub deep : d - 1 ≡ length below
  pub standing : Standing s frame t b heads lens counts (d - 1)
  pub each : EachStanding s below t b heads lens counts

module _ {s : Session} {frames : List Frame} {t : Text} {b : Texts} {heads lens counts : List ℕ} where
  pub sunk_start : {depth : ℕ} → AllStanding s frames t b heads lens counts depth → Sunk s frames t b heads lens counts depth
  sunk_start A = record { rest = frames; same = refl; deep = A.deep; each = A.each }

  module _ {d : ℕ} where
    pub sunk_top : Sunk s frames t b heads lens counts d → 0 < d → Top s frames t b heads lens counts d
    sunk_top S h = go S.rest S.same S.deep S.each
      where
        go : (rest : List Frame) → unwound s frames fills ≡ unwound s rest fills → d ≡ length rest → EachStanding s rest t b heads lens counts → Top s frames t b heads lens counts d
        go [] e q E = absurd (omega arith)
        go (k ∷ below) e q (E, F) =
            let r : d - 1 ≡ length below = omega arith in
            record { frame = k; below = below; same = e; deep = r; standing = subst (Standing s k t b heads lens counts) (sym r) E; each = F }

    pub sunk_here : (K : Top s frames t b heads lens counts d) → taken s K.frame ≡ true → unwound s frames fills ≡ fails
    sunk_here K e = K.same ∙ sinks_here s K.frame K.below e

    pub sunk_on : (K : Top s frames t b heads lens counts d) → taken s K.frame ≡ false → Sunk s frames t b heads lens counts (d - 1)
    sunk_on K e = record { rest = K.below; same = K.same ∙ sinks_on s K.frame K.below e; deep = K.deep; each = K.each }

    pub sunk_through : Sunk s frames t b heads lens counts d → d ≤ 0 → unwound s frames fills ≡ fills
    sunk_through S h = S.same ∙ go S.rest S.deep
      where
        go : (rest : List Frame) → d ≡ length rest → unwound s rest fills ≡ fills
        go [] q = refl
        go (k ∷ below) q = absurd (omega arith)
