-- `evaluate::put_empty` meets its contract. A list's first line.
-- Assumes nothing.
use mathlib.Core.Path.{refl}
use native.Mathlib.Omega.{arith}
use Rattle.language.specs.Outcomes.{gives}
use mathlib.Core.List.{[]}
use Rattle.language.specs.State.{list}
use Rattle.evaluated.proofs.Putting.{value_put}
use Rattle.evaluate.proofs.put_empty.Goals as goal

pub returns : goal.returns
returns c = value_put (gives (list [])) (list []) _ _ _ _ 0 refl (record { is_valid = tt; is_text_lem = refl }) c.put_list-len.ensures refl (omega arith)
