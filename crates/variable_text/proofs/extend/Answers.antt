-- `variable_text::extend` meets its contract. The weight after is the elements' weight more; where that is not too much there is room.
-- Assumes nothing.
use native.Mathlib.Omega.{arith}
use Rattle.variable_text.proofs.Weighing.{extended_full, extended_fits, extended}
use borrow.Author.Rules.{rules}
use Rattle.variable_text.proofs.extend.Goals as goal

pub returns-then-after-gt8192 : goal.returns-then-after-gt8192
returns-then-after-gt8192 c vs x es fs L n i E = extended_full L x c.args.number c.requires.0.below n es fs i c.args.more.now c.args.weight E c.if-after-gt8192.true

pub append_value-n-requires : goal.append_value-n-requires
append_value-n-requires c =
    let a = c.args in
    let P = c.requires in
    let S = P.0 in (
      S.lies.small,
      S.lies.within,
      record {
        variables = S.variables;
        name = S.name;
        elements = S.elements;
        more = S.more;
        held = S.lies.held;
        below = S.below;
        number = S.is_number;
        is_list = S.is_list;
        is_text_lem = S.extra.is_text_lem;
        fits = omega (arith, S.lies.room, extended_fits S.lies S.name a.number S.below S.is_number S.elements S.more S.is_list a.more.now a.weight S.extra c.if-after-gt8192.false);
      },
    )

pub returns : goal.returns
returns c vs x es fs L n i X =
    let a = c.args in
    extended L x a.number c.requires.0.below n es fs i a.more.now a.weight X c.append_value-n.new.buf c.append_value-n.result c.append_value-n.new.slots c.if-after-gt8192.false c.append_value-n.auto.buf c.append_value-n.auto.slots
    c.append_value-n.ensures.outside.within (c.append_value-n.ensures.held vs x es fs L.held n i X.is_text_lem)
