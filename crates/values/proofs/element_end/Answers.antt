-- `values::element_end` meets its contract. Past the first line stand the element's fields, none for a string.
-- Assumes nothing.
use Prim.Native.Nat.{◌+◌}
use Rattle.values.specs.Places.{SomeFields}
use Rattle.values.proofs.Listing.{element_fields, fields_follow, some_fields, element_ends}
use Rattle.values.proofs.element_end.Goals as goal

pub fields_end-requires : goal.fields_end-requires
fields_end-requires c =
    let follows : SomeFields c.args.text.now (c.until-line.result + 1) = some_fields c.args.text.now c.args.at c.requires.element c.requires.rest c.requires.stands c.until-line.result c.until-line.ensures.ends in
    follows

pub returns : goal.returns
returns c =
    let t = c.args.text.now in
    let at = c.args.at in record {
      ends = λ e rest E. element_ends t at e rest E c.until-line.result c.until-line.ensures.ends c.fields_end.result (c.fields_end.ensures.ends (element_fields e) rest (fields_follow t at e rest E c.until-line.result c.until-line.ensures.ends));
      within = c.fields_end.ensures.within;
    }
