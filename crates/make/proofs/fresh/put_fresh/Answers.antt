-- `make::fresh::put_fresh` meets its contract. Five pieces in a row are the lines of a fresh state.
-- Assumes nothing.
use mathlib.Core.Path.{◌∙◌}
use Rattle.value_text.proofs.Pieces.{◌▸◌}
use Rattle.make.proofs.Texts.{fresh_padded}
use borrow.Author.Rules.{rules}
use Rattle.make.proofs.fresh.put_fresh.Goals as goal

pub returns : goal.returns
returns c =
    c.zero_rest.ensures
    ∙ fresh_padded c.args.password.now c.args.state.now c.put_delegator-e.new.out c.put_delegator-e.result c.requires.0
    (c.put_header-a.ensures
    ▸ c.copy_in-b.ensures
    ▸ c.copy_in-c.ensures
    ▸ c.copy_in-d.ensures
    ▸ c.put_delegator-e.ensures)
