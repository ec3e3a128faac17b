-- The first line of a state text, and the bytes after its last.
use Rattle.std.specs.Prelude.{Bool, true, ℕ, leb, eqb, Option, Some, None}
use Rattle.language.specs.Text.{Text, sum}
use Rattle.language.specs.State.{last_count}
use Rattle.language.specs.Encode.{head_text}
use Rattle.language.specs.Former.{former_head}
use Rattle.record_fields.specs.Sections.{Reads, Fails, any_text}

-- each of the two first lines is fine
abbrev pub fine_head : Bool → Bool
fine_head b = true

abbrev pub HeadMeant : Text → Option (Bool × ℕ) → Type 0
HeadMeant t (Some (b, e)) = Reads head_text fine_head any_text t 0 b e
HeadMeant t None = Fails head_text fine_head any_text t 0

-- the former first line: open or closed, and the number of programs
pub record Top : Type 0 where
  pub is_open : Bool
  pub count : ℕ

abbrev pub top_text : Top → Text
top_text h = former_head h.is_open h.count

abbrev pub fine_top : Top → Bool
fine_top h = leb h.count last_count

-- some number stands in it
pub record FormerTop (t : Text) (b : Bool) (e : ℕ) : Type 0 where
  pub count : ℕ
  pub reads : Reads top_text fine_top any_text t 0 (record { is_open = b; count = count }) e

abbrev pub FormerHeadMeant : Text → Option (Bool × ℕ) → Type 0
FormerHeadMeant t (Some (b, e)) = FormerTop t b e
FormerHeadMeant t None = Fails top_text fine_top any_text t 0

-- the bytes of a text, summed
abbrev pub total : Text → ℕ
total t = sum (λ b. b) t

abbrev pub is_zero : Text → Bool
is_zero t = eqb (total t) 0
