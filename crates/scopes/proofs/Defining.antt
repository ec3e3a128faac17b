-- A name is defined where reading it gives some bytes.
use mathlib.Core.Path.{◌≡◌, refl, ap, ◌∙◌}
use native.Mathlib.Omega.{arith}
use borrow.Author.Tests.{lt-ltb}
use mathlib.Core.Bool.{◌||◌}
use mathlib.Core.Option.{Option, none, some}
use lib.Dec.{ltb}
use lib.ListN.{length}
use Rattle.language.specs.Text.{Text, present, ◌or_else◌}
use Rattle.language.specs.Syntax.{Name}
use Rattle.language.specs.State.{string, fields, Value, single, list, value_in}
use Rattle.language.specs.Encode.{value_text}
use Rattle.language.specs.Values.{Session, is_defined}
use Rattle.contents.specs.Contents.{value_bytes}

value_bytes_lem : (v : Value) → ltb 0 (length (value_text v)) ≡ ltb 0 1
value_bytes_lem (single (string t)) = lt-ltb 0 (length (value_text (single (string t)))) (omega arith)
value_bytes_lem (single (fields fs)) = lt-ltb 0 (length (value_text (single (fields fs)))) (omega arith)
value_bytes_lem (list es) = lt-ltb 0 (length (value_text (list es))) (omega arith)

bytes_there : (o : Option Value) → ltb 0 (length (value_bytes o)) ≡ present o
bytes_there none = refl
bytes_there (some v) = value_bytes_lem v

either : (a b : Option Value) → present (a or_else b) ≡ (present a || present b)
either none b = refl
either (some v) b = refl

pub defined_by_bytes : (s : Session) (x : Name) (t : Text) → t ≡ value_bytes (value_in s.locals x or_else value_in s.store.variables x) → ltb 0 (length t) ≡ is_defined s x
defined_by_bytes s x t e =
    ap (λ (u : Text). ltb 0 (length u)) e ∙ bytes_there (value_in s.locals x or_else value_in s.store.variables x) ∙ either (value_in s.locals x) (value_in s.store.variables x)
