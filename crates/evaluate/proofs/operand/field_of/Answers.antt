-- `evaluate::operand::field_of` meets its contract. Nothing read has no field; else it is as the value says.
-- Assumes nothing.
use mathlib.Core.Path.{sym, ap, ◌∙◌}
use mathlib.Core.Option.{Option}
use Rattle.language.specs.State.{Value}
use Rattle.evaluated.specs.Results.{field_in}
use Rattle.evaluate.proofs.Found.{nothing_read, something_read, value_text_lem}
use Rattle.evaluate.proofs.operand.field_of.Goals as goal

pub returns-then-value-eq0 : goal.returns-then-value-eq0
returns-then-value-eq0 c =
    record {
      meant = λ o r. sym (ap (λ (p : Option Value). field_in p c.args.label.now) (nothing_read o c.args.value.now r c.if-value-eq0.true));
      placed = tt;
    }

pub field_in-requires : goal.field_in-requires
field_in-requires c = value_text_lem c.requires.value c.args.value.now c.requires.held c.if-value-eq0.false

pub returns : goal.returns
returns c =
    record {
      meant = λ o r.
          let S = something_read o c.args.value.now r c.if-value-eq0.false in
          c.field_in.ensures.meant S.value S.held ∙ sym (ap (λ (p : Option Value). field_in p c.args.label.now) S.is_value);
      placed = c.field_in.ensures.placed;
    }
