-- `variable_text::replace` meets its contract. The weight after is the old one less the old value's, and the new value's more; where that is not too much there is room.
-- Assumes nothing.
use mathlib.Core.Path.{sym}
use native.Mathlib.Omega.{arith}
use lib.Seq.{length-take-le}
use Rattle.variable_text.proofs.Weighing.{old_within, replaced_full, replaced_fits, replaced}
use borrow.Author.Rules.{rules}
use Rattle.variable_text.proofs.replace.Goals as goal

pub slice_bounds-weight_of-end-2 : goal.slice_bounds-weight_of-end-2
slice_bounds-weight_of-end-2 c = sym (length-take-le _ _ c.requires.0.lies.within)

pub weight_of-old-requires : goal.weight_of-old-requires
weight_of-old-requires c =
    let S = c.requires.0 in
    (record { variables = S.variables; held = S.lies.held; are_valid = S.lies.are_valid }, S.below)

pub overflow_sub-after : goal.overflow_sub-after
overflow_sub-after c =
    let S = c.requires.0 in
    omega (arith, old_within S.lies S.name c.args.number S.below S.is_number, c.weight_of-old.ensures S.variables S.lies.held S.lies.are_valid)

pub returns-then-after-gt8192 : goal.returns-then-after-gt8192
returns-then-after-gt8192 c vs x v L n W =
    replaced_full L x c.args.number c.requires.0.below n v c.args.value.now c.args.weight W c.weight_of-old.result
    (c.weight_of-old.ensures vs L.held L.are_valid) c.if-after-gt8192.true

pub set_value-n-requires : goal.set_value-n-requires
set_value-n-requires c =
    let a = c.args in
    let P = c.requires in
    let S = P.0 in
    let U = P.1 in
    let q = c.weight_of-old.ensures S.variables S.lies.held S.lies.are_valid in (
      S.lies.small,
      S.lies.within,
      record {
        variables = S.variables;
        name = S.name;
        value = U.value;
        held = S.lies.held;
        below = S.below;
        number = S.is_number;
        is_text_lem = U.is_value.held.is_text_lem;
        fits = omega (arith, S.lies.room, replaced_fits S.lies S.name a.number S.below S.is_number U.value a.value.now a.weight U.is_value c.weight_of-old.result q c.if-after-gt8192.false);
      },
    )

pub returns : goal.returns
returns c vs x v L n W =
    let a = c.args in
    replaced L x a.number c.requires.0.below n v a.value.now a.weight W c.weight_of-old.result
    (c.weight_of-old.ensures vs L.held L.are_valid) c.set_value-n.new.buf c.set_value-n.result c.set_value-n.new.slots c.if-after-gt8192.false c.set_value-n.auto.buf c.set_value-n.auto.slots
    c.set_value-n.ensures.outside.within (c.set_value-n.ensures.held vs x v L.held n W.held.is_text_lem)
