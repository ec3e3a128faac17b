use mathlib.Core.Path.{◌≡◌, refl, ap, ◌∙◌}
use Prim.Native.Nat.{ℕ}
use Rattle.std.specs.Prelude.{Option, Some, None}
use Rattle.std.specs.Option.{is_some}
use Rattle.language.specs.Text.{present}
use Rattle.named_rights.specs.Numbers.{length_of}
use Rattle.named_rights.proofs.may.Goals as goal

some_present : (o : Option ℕ) → is_some o ≡ present (length_of o)
some_present (Some n) = refl
some_present None = refl

pub returns : goal.returns
returns c s r x p v t k = c.is_some.ensures ∙ some_present c.chain-a.result ∙ ap present (c.chain-a.ensures s r x p v t k)
