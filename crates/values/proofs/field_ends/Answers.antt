-- `values::field_ends` meets its contract. Both scans stop where the field's parts end, since they hold no tab and no newline.
-- Assumes nothing.
use native.Mathlib.Omega.{arith}
use Rattle.values.proofs.Standing.{label_within, text_within, field_ends}
use Rattle.values.proofs.field_ends.Goals as goal

pub until-label-requires : goal.until-label-requires
until-label-requires c = label_within c.args.text.now c.args.at c.requires.field c.requires.rest c.requires.stands

pub until-end-requires : goal.until-end-requires
until-end-requires c = text_within c.args.text.now c.args.at c.requires.field c.requires.rest c.requires.stands c.until-label.result c.until-label.ensures.ends

pub returns-clause-ends : goal.returns-clause-ends
returns-clause-ends c f rest F = field_ends c.args.text.now c.args.at f rest F c.until-label.result c.until-end.result c.until-label.ensures.ends c.until-end.ensures.ends

pub returns-clause-placed : goal.returns-clause-placed
returns-clause-placed c =
    let E = field_ends c.args.text.now c.args.at c.requires.field c.requires.rest c.requires.stands c.until-label.result c.until-end.result c.until-label.ensures.ends c.until-end.ensures.ends in
    (omega (arith, E.label_end), omega (arith, E.text_end), omega (arith, E.within))
