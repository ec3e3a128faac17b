-- `evaluate::operand::string_of` meets its contract. Nothing read is no string; else it is as the value says.
-- Assumes nothing.
use mathlib.Core.Path.{sym, ap, ◌∙◌}
use Rattle.evaluated.specs.Results.{string_in}
use Rattle.evaluate.proofs.Found.{nothing_read, something_read, value_text_lem}
use Rattle.evaluate.proofs.operand.string_of.Goals as goal

pub returns-then-value-eq0 : goal.returns-then-value-eq0
returns-then-value-eq0 c =
    record {
      meant = λ o r. sym (ap string_in (nothing_read o c.args.value.now r c.if-value-eq0.true));
      placed = tt;
    }

pub string_in-requires : goal.string_in-requires
string_in-requires c = value_text_lem c.requires.value c.args.value.now c.requires.held c.if-value-eq0.false

pub returns : goal.returns
returns c =
    record {
      meant = λ o r.
          let S = something_read o c.args.value.now r c.if-value-eq0.false in
          c.string_in.ensures.meant S.value S.held ∙ sym (ap string_in S.is_value);
      placed = c.string_in.ensures.placed;
    }
