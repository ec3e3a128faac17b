-- `values::next_element` meets its contract. Before the end of the text there is an element.
-- Assumes nothing.
use native.Mathlib.Omega.{arith}
use Rattle.values.proofs.Listing.{some_element, an_element}
use Rattle.values.proofs.next_element.Goals as goal

pub element_end-requires : goal.element_end-requires
element_end-requires c =
    some_element c.args.text.now c.args.at c.requires.elements c.requires.stand (omega (arith, c.requires.stand.here.within))

pub returns : goal.returns
returns c es E = an_element c.args.text.now c.args.at es c.element_end.result E (omega (arith, c.requires.stand.here.within)) c.element_end.ensures.ends
