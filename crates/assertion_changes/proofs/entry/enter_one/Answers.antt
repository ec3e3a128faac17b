use mathlib.Core.Path.{◌≡◌, sym, subst, ◌∙◌}
use mathlib.Core.List.{[], ◌∷◌}
use native.Mathlib.Omega.{arith}
use lib.ListN.{length}
use Rattle.session.specs.declared.Layout.{Layout}
use Rattle.session.specs.Sessions.{Running}
use Rattle.assertion_changes.specs.Entering.{entered, restood}
use Rattle.assertion_changes.proofs.Changes.{within, weighs_few, entered_stood, entered_full, entered_room, entered_new}
use borrow.Author.Rules.{rules}
use Rattle.assertion_changes.proofs.entry.enter_one.Goals as goal

pub stands-requires : goal.stands-requires
stands-requires c =
    let p = c.requires in
    within p.session c.args.l p.buffers c.args.assertions.now p.assertion c.args.number c.args.weight p.asserts

pub returns-then-stands : goal.returns-then-stands
returns-then-stands c s b a A =
    let g = c.args in
    entered_stood s g.l b g.assertions.now a g.number g.weight A (sym c.stands.ensures ∙ c.if-stands.true)

pub overflow_add-after : goal.overflow_add-after
overflow_add-after c =
    let p = c.requires in
    let w = weighs_few p.session c.args.l p.buffers c.args.assertions.now p.assertion c.args.number c.args.weight p.asserts in
    omega (arith, w, p.asserts.running.light)

pub returns-then-after-gt8192 : goal.returns-then-after-gt8192
returns-then-after-gt8192 c s b a A =
    let g = c.args in
    entered_full s g.l b g.assertions.now a g.number g.weight A (sym c.stands.ensures ∙ c.if-stands.false) c.if-after-gt8192.true

pub enter-n-requires : goal.enter-n-requires
enter-n-requires c =
    let p = c.requires in
    entered_room p.session c.args.l p.buffers c.args.assertions.now p.assertion c.args.number c.args.weight p.asserts c.if-after-gt8192.false

pub returns : goal.returns
returns c s b a A =
    let g = c.args in
    let p = c.requires in
    let room = entered_room p.session g.l p.buffers g.assertions.now p.assertion g.number g.weight p.asserts c.if-after-gt8192.false in
    let z : length c.enter-n.new.list ≡ length g.assertions.now = c.enter-n.auto.list in
    subst (λ (k : Layout). Running (entered s (a ∷ [])) k (restood b c.enter-n.new.list)) (sym c.with_assertions.ensures)
    (entered_new s g.l b g.assertions.now a g.number g.weight A c.enter-n.new.list c.enter-n.result
    (sym c.stands.ensures ∙ c.if-stands.false) c.if-after-gt8192.false z (omega (arith, z, room, c.enter-n.ensures.others.0.1)) c.enter-n.ensures.entered)
