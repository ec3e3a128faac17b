-- `functions::put_joined` meets its contract. Four pieces in a row.
-- Assumes nothing.
use mathlib.Core.Path.{sym, ap}
use mathlib.Core.List.{[], ◌∷◌, append_assoc}
use Rattle.language.specs.Text.{Text}
use Rattle.value_text.proofs.Pieces.{◌▸◌, rewritten}
use Rattle.functions.proofs.put_joined.Goals as goal

pub returns : goal.returns
returns c =
    let a = c.args in
    rewritten (ap (λ (t : Text). 83 ∷ 9 ∷ t) (sym (append_assoc a.first.now a.second.now (10 ∷ []))))
    (c.copy_in-a.ensures ▸ c.copy_in-b.ensures ▸ c.copy_in-c.ensures ▸ c.put_byte.ensures)
