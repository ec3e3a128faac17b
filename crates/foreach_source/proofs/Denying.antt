-- Whether the sender may read and write the list.
-- Assumes nothing.
use mathlib.Core.Path.{◌≡◌, sym, ap, ◌∙◌}
use mathlib.Core.Bool.{Bool, true, false, ◌||◌, not}
use Rattle.language.specs.Syntax.{Name, read, write}
use Rattle.language.specs.Values.{Session}
use Rattle.permits.specs.Permits.{allowed_on}
use Rattle.foreach_source.specs.Sources.{forbidden}

-- ---- the right to read and the right to write

pub may_not_read : (s : Session) (x : Name) (b : Bool) → b ≡ allowed_on s read x → b ≡ false → forbidden s x ≡ true
may_not_read s x b h e = ap (λ (c : Bool). not c || not (allowed_on s write x)) (sym h ∙ e)

pub may_read : (s : Session) (x : Name) (b c : Bool) → b ≡ allowed_on s read x → b ≡ true → c ≡ allowed_on s write x → forbidden s x ≡ not c
may_read s x b c h e k = ap (λ (d : Bool). not d || not (allowed_on s write x)) (sym h ∙ e) ∙ ap not (sym k)
