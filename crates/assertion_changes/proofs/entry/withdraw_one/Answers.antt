use mathlib.Core.Path.{◌≡◌, sym, subst, ◌∙◌}
use mathlib.Core.List.{[], ◌∷◌}
use native.Mathlib.Omega.{arith}
use lib.ListN.{length}
use Rattle.session.specs.declared.Layout.{Layout}
use Rattle.session.specs.Sessions.{Running}
use Rattle.assertion_changes.specs.Entering.{withdrawn, restood}
use Rattle.assertion_changes.proofs.Changes.{within, withdrawn_weight, withdrawn_none, withdrawn_one}
use borrow.Author.Rules.{rules}
use Rattle.assertion_changes.proofs.entry.withdraw_one.Goals as goal

pub stands-requires : goal.stands-requires
stands-requires c =
    let p = c.requires in
    within p.session c.args.l p.buffers c.args.assertions.now p.assertion c.args.number c.args.weight p.asserts

pub withdraw-n-requires : goal.withdraw-n-requires
withdraw-n-requires c =
    let p = c.requires in
    within p.session c.args.l p.buffers c.args.assertions.now p.assertion c.args.number c.args.weight p.asserts

pub overflow_sub-l : goal.overflow_sub-l
overflow_sub-l c =
    let p = c.requires in
    let w = withdrawn_weight p.session c.args.l p.buffers c.args.assertions.now p.assertion c.args.number c.args.weight p.asserts
    (sym c.stands.ensures ∙ c.if-stands.true) in
    omega (arith, w)

pub returns-then-stands : goal.returns-then-stands
returns-then-stands c s b a A =
    let g = c.args in
    let p = c.requires in
    let room = within p.session g.l p.buffers g.assertions.now p.assertion g.number g.weight p.asserts in
    let z : length c.withdraw-n.new.list ≡ length g.assertions.now = c.withdraw-n.auto.list in
    subst (λ (k : Layout). Running (withdrawn s (a ∷ [])) k (restood b c.withdraw-n.new.list)) (sym c.with_assertions.ensures)
    (withdrawn_one s g.l b g.assertions.now a g.number g.weight A c.withdraw-n.new.list c.withdraw-n.result
    (sym c.stands.ensures ∙ c.if-stands.true) z (omega (arith, z, room, c.withdraw-n.ensures.others.0)) c.withdraw-n.ensures.withdrawn)

pub returns : goal.returns
returns c s b a A =
    let g = c.args in
    withdrawn_none s g.l b g.assertions.now a g.number g.weight A (sym c.stands.ensures ∙ c.if-stands.false)
