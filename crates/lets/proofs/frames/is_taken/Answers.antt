use mathlib.Core.Path.{sym, ap, subst, ◌∙◌}
use Prim.Native.Nat.{ℕ}
use native.Mathlib.Omega.{arith}
use lib.ListN.{get_or}
use lib.Seq.{length-take-le}
use Rattle.language.specs.Values.{Session, is_defined}
use Rattle.lets.specs.Frames.{Frame, environment}
use Rattle.lets.specs.Reaching.{texts, Holding}
use Rattle.lets.specs.Standing.{Standing}
use Rattle.lets.proofs.frames.is_taken.Goals as goal

pub slice_bounds-is_defined-end : goal.slice_bounds-is_defined-end
slice_bounds-is_defined-end c = sym (length-take-le _ _ (omega (arith, c.large-len.ensures, c.requires.standing.in_scope)))

pub is_defined-requires : goal.is_defined-requires
is_defined-requires c =
    let held : (s : Session) (k : Frame) → (let a = c.args in Standing s k a.text.now (texts a.shared.now a.slots.now a.count a.scope.now a.local_slots.now) a.heads.now a.lens.now a.counts.now a.d) → let a = c.args in Holding s k.locals (texts a.shared.now a.slots.now a.count a.scope.now a.local_slots.now) c.large-len.result c.small-n.result = λ s k S. let a = c.args in
    let b = texts a.shared.now a.slots.now a.count a.scope.now a.local_slots.now in
    subst (λ (m : ℕ). Holding s k.locals b m c.small-n.result) (sym c.large-len.ensures)
    (subst (λ (m : ℕ). Holding s k.locals b (get_or a.lens.now a.d 0) m) (sym c.small-n.ensures.0) S.held) in
    let P = c.requires in
    record { session = (environment P.session P.frame.locals 0).session; scope = held P.session P.frame P.standing }

pub returns : goal.returns
returns c s k S =
    let held : (s : Session) (k : Frame) → (let a = c.args in Standing s k a.text.now (texts a.shared.now a.slots.now a.count a.scope.now a.local_slots.now) a.heads.now a.lens.now a.counts.now a.d) → let a = c.args in Holding s k.locals (texts a.shared.now a.slots.now a.count a.scope.now a.local_slots.now) c.large-len.result c.small-n.result = λ s k S. let a = c.args in
    let b = texts a.shared.now a.slots.now a.count a.scope.now a.local_slots.now in
    subst (λ (m : ℕ). Holding s k.locals b m c.small-n.result) (sym c.large-len.ensures)
    (subst (λ (m : ℕ). Holding s k.locals b (get_or a.lens.now a.d 0) m) (sym c.small-n.ensures.0) S.held) in
    c.is_defined.ensures (environment s k.locals 0).session (held s k S)
    ∙ ap (is_defined (environment s k.locals 0).session) (c.name_of-x.ensures.named k S.framed)
