-- What a password weighs, told by its place.
use mathlib.Core.Path.{◌≡◌, sym, ap, ◌∙◌}
use mathlib.Core.List.{List}
use Prim.Native.Nat.{ℕ, ◌-◌}
use Rattle.language.specs.Text.{Text}
use Rattle.language.specs.State.{Principal}
use Rattle.language.specs.Weight.{password_weight}
use Rattle.store.specs.Contents.{principal_at}
use Rattle.contents.specs.Contents.{kept_at, PasswordAt}
use Rattle.session.proofs.Finding.{part_length}

pub kept_weight : (ks : List Principal) (t : Text) (k s e : ℕ) → PasswordAt ks t k (kept_at s e) → e - s ≡ password_weight (principal_at ks k).password
kept_weight ks t k s e A = sym (part_length t s e A.within.1) ∙ ap password_weight A.meant
