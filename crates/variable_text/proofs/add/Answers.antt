-- `variable_text::add` meets its contract. The weight after is known from the name's length and the value's weight; where that is not too much there is room.
-- Assumes nothing.
use Rattle.variable_text.proofs.Weighing.{added_room, added_full, added}
use borrow.Author.Rules.{rules}
use Rattle.variable_text.proofs.add.Goals as goal

pub returns-then-after-gt8192 : goal.returns-then-after-gt8192
returns-then-after-gt8192 c vs v L n W = added_full L c.args.name.now v c.args.value.now c.args.weight c.requires.2 W n c.if-after-gt8192.true

pub add_variable-n-requires : goal.add_variable-n-requires
add_variable-n-requires c =
    let a = c.args in
    let P = c.requires in
    added_room P.0.lies a.name.now P.1.value a.value.now a.weight P.2 P.1.is_value c.if-after-gt8192.false

pub returns : goal.returns
returns c vs v L n W =
    let a = c.args in
    added L a.name.now v a.value.now a.weight c.requires.2 W n c.add_variable-n.new.buf c.add_variable-n.result c.add_variable-n.new.slots c.if-after-gt8192.false c.add_variable-n.auto.buf c.add_variable-n.auto.slots
    c.add_variable-n.ensures.outside.within (c.add_variable-n.ensures.held vs v L.held c.requires.2 W.held.is_text_lem)
