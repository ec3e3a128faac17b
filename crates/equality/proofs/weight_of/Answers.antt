-- `equality::weight_of` meets its contract. A record weighs what its text does.
-- Assumes nothing.
use mathlib.Core.Path.{sym, ap, subst, ◌∙◌}
use mathlib.Core.Option.{some}
use Rattle.language.specs.State.{fields, single}
use Rattle.language.specs.Weight.{element_weight}
use Rattle.equality.specs.Elements.{ElementIn}
use Rattle.equality.proofs.Said.{is_fields}
use Rattle.equality.proofs.weight_of.Goals as goal

pub returns-in-Record : goal.returns-in-Record
returns-in-Record c e h =
    let K = subst (ElementIn (some e) c.args.source.now) c.in-Record.is h in
    c.weigh.ensures (single (fields K.fields_in)) K.held ∙ sym (ap element_weight (is_fields e c.args.source.now K))
